-- The table beside a refusal has 65 zeros.
-- Assumes nothing.
use Rattle.std.proofs.Common.{refl}
use Rattle.common.specs.Lists.{tabulate}
use Rattle.widths.specs.Widths.{table_of}
use Rattle.gezdunar.proofs.tables.WidthsAnswerFromResultWidthsRefusal.from.Goals as goal

pub returns-in-Err : goal.returns-in-Err
unfolding table_of tabulate
returns-in-Err c = rw (c.in-Err.is, c.number.ensures) refl
