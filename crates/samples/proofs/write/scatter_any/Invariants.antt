-- The loop of `samples::write::scatter_any`: the first k samples are put.
-- Assumes nothing.
use Rattle.std.proofs.Common.{◌≡◌, ◌*◌}
use Rattle.bits.specs.Bits.{Bytes}
use Rattle.samples.specs.Internal.Samples.{samples_written}
use Rattle.samples.proofs.write.scatter_any.Given as goal

abbrev pub invariant-loop-k : goal.invariant-loop-k
invariant-loop-k l = record {
  bytes : Bytes l.fn.img;
  so_far : l.img ≡ samples_written l.dat l.data_at l.size (8 * l.size) (8 * l.at) (8 * l.step) l.k l.fn.img;
}
