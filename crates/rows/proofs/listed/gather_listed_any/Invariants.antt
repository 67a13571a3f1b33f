-- The loop of `rows::listed::gather_listed_any`: the first c pixels are read.
-- Assumes nothing.
use Rattle.std.proofs.Common.{◌≡◌}
use Rattle.rows.specs.Internal.Rows.{pixels_read}
use Rattle.rows.proofs.listed.gather_listed_any.Given as goal

abbrev pub invariant-loop-c : goal.invariant-loop-c
invariant-loop-c l =
    l.out ≡ pixels_read l.src l.list l.row.at l.row.step l.row.size l.row.data_at l.plane l.c l.fn.out
