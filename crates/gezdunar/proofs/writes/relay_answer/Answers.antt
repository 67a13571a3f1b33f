-- `gezdunar::writes::relay_answer` meets its contract.
-- Assumes nothing.
use Rattle.std.proofs.Common.{refl}
use Rattle.common.specs.Questions.{outcome}
use Rattle.common.proofs.Questions.{refused-by}
use Rattle.refusals.proofs.Numbers.{number-some}
use Rattle.gezdunar.proofs.writes.relay_answer.Goals as goal

pub returns-in-Ok : goal.returns-in-Ok
unfolding outcome
returns-in-Ok c = rw c.in-Ok.is refl

pub returns-in-Err : goal.returns-in-Err
returns-in-Err c = rw (c.number.ensures, c.in-Err.is) (refused-by _ _ refl (number-some _))
