-- The loop of `samples::unpack::unpack_by_eight_any`: the first k samples are put.
-- Assumes nothing.
use Rattle.std.proofs.Common.{◌≡◌}
use Rattle.samples.specs.Internal.Samples.{samples_read}
use Rattle.samples.proofs.unpack.unpack_by_eight_any.Given as goal

abbrev pub invariant-loop-k : goal.invariant-loop-k
invariant-loop-k l = l.out ≡ samples_read l.src l.at l.step l.width l.size l.k l.data_at l.fn.out
