-- The loop of `rows::read_rows`: the first i rows are read.
-- Assumes nothing.
use Rattle.std.proofs.Common.{◌≡◌}
use Rattle.rows.specs.Internal.Rows.{rows_read}
use Rattle.rows.proofs.read_rows.Given as goal

abbrev pub invariant-loop-i : goal.invariant-loop-i
invariant-loop-i l =
    l.out
    ≡ rows_read l.src l.rows.first.at l.rows.apart l.rows.first.step l.rows.first.width l.rows.first.size
    l.rows.first.count l.rows.first.data_at l.rows.data_apart l.i l.fn.out
