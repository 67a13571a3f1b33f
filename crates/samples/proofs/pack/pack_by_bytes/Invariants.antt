-- The loop of `samples::pack::pack_by_bytes`: the first k samples are put.
-- Assumes nothing.
use Rattle.std.proofs.Common.{◌≡◌}
use Rattle.samples.specs.Internal.Samples.{samples_written}
use Rattle.samples.proofs.pack.pack_by_bytes.Given as goal

abbrev pub invariant-loop-k : goal.invariant-loop-k
invariant-loop-k l = l.img ≡ samples_written l.dat l.data_at l.size l.width l.at l.step l.k l.fn.img
