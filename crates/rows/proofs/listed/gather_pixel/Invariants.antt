-- The loop of `rows::listed::gather_pixel`: the first k listed bands are read.
-- Assumes nothing.
use Rattle.std.proofs.Common.{◌≡◌}
use Rattle.common.specs.Turns.{iter}
use Rattle.rows.specs.Internal.Rows.{sample_read}
use Rattle.rows.proofs.listed.gather_pixel.Given as goal

abbrev pub invariant-loop-k : goal.invariant-loop-k
invariant-loop-k l = l.out ≡ iter l.k (sample_read l.src l.list l.at l.size l.to l.plane) l.fn.out
