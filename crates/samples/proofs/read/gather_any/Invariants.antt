-- The loop of `samples::read::gather_any`: the first k samples are put.
-- Assumes nothing.
use Rattle.std.proofs.Common.{◌≡◌, ◌*◌}
use Rattle.samples.specs.Internal.Samples.{samples_read}
use Rattle.samples.proofs.read.gather_any.Given as goal

abbrev pub invariant-loop-k : goal.invariant-loop-k
invariant-loop-k l =
    l.out ≡ samples_read l.src (8 * l.at) (8 * l.step) (8 * l.size) l.size l.k l.data_at l.fn.out
