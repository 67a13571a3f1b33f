-- The reader's answer as it crosses.
-- Assumes nothing.
use Rattle.std.proofs.Common.{refl, sym}
use Rattle.common.specs.Questions.{outcome}
use Rattle.common.proofs.Questions.{outcome-no}
use Rattle.refusals.proofs.Numbers.{number-some}
use Rattle.gezdunar.specs.Subheaders.{answer_of}
use Rattle.gezdunar.proofs.subheaders.SubheaderAnswerFromResultImageSubheaderRefusal.from.Goals as goal

pub returns-in-Ok : goal.returns-in-Ok
unfolding answer_of outcome
returns-in-Ok c = rw (c.in-Ok.is, c.from.ensures) refl

pub returns-in-Err : goal.returns-in-Err
unfolding answer_of
returns-in-Err c = rw (c.in-Err.is, c.number.ensures) (sym (outcome-no _ _ _ (number-some _)))
