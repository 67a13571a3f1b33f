-- The loop of `samples::pack::pack_groups_any`: the first k groups are put.
-- Assumes nothing.
use Rattle.std.proofs.Common.{◌≡◌, ◌*◌}
use Rattle.bits.specs.Bits.{Bytes}
use Rattle.samples.specs.Internal.Samples.{samples_written}
use Rattle.samples.proofs.pack.pack_groups_any.Given as goal

abbrev pub invariant-loop-k : goal.invariant-loop-k
invariant-loop-k l = record {
  bytes : Bytes l.fn.img;
  so_far : l.img
      ≡ samples_written l.dat l.groups.data_at l.groups.size l.groups.width (8 * l.groups.at) l.groups.width
      (l.k * l.groups.samples) l.fn.img;
}
