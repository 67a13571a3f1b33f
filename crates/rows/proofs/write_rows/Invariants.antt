-- The loop of `rows::write_rows`: the first i rows are written.
-- Assumes nothing.
use Rattle.std.proofs.Common.{◌≡◌}
use Rattle.rows.specs.Internal.Rows.{rows_written}
use Rattle.rows.proofs.write_rows.Given as goal

abbrev pub invariant-loop-i : goal.invariant-loop-i
invariant-loop-i l =
    l.img
    ≡ rows_written l.dat l.rows.first.data_at l.rows.data_apart l.rows.first.size l.rows.first.width l.rows.first.at
    l.rows.apart l.rows.first.step l.rows.first.count l.i l.fn.img
