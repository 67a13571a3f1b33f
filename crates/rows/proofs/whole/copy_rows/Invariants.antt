-- The loop of `rows::whole::copy_rows`: the first i rows are copied.
-- Assumes nothing.
use Rattle.std.proofs.Common.{◌≡◌}
use Rattle.rows.specs.Internal.Rows.{whole_rows}
use Rattle.rows.proofs.whole.copy_rows.Given as goal

abbrev pub invariant-loop-i : goal.invariant-loop-i
invariant-loop-i l = l.out ≡ whole_rows l.src l.at l.row l.size l.size l.count l.to l.line l.i l.fn.out
