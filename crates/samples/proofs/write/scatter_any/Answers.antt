-- `samples::write::scatter_any`: one more sample is put.
-- Assumes nothing.
use Rattle.std.proofs.Common.{arith}
use Rattle.bits.specs.Values.{side_by_side}
use Rattle.samples.proofs.Moves.{put_spaced-none, put-turn}
use Rattle.samples.proofs.write.scatter_any.Goals as goal

pub loop-k-init : goal.loop-k-init
loop-k-init c = record { bytes = λ i. (c.type_inv.img i).fits; so_far = put_spaced-none _ _ _ _ _ }

pub loop-k-preserved : goal.loop-k-preserved
unfolding side_by_side
loop-k-preserved c =
    let before = c.loop-k.invariant in record {
      bytes = before.bytes;
      so_far = put-turn _ _ _ _ _ _ before.bytes (grind arith) before.so_far c.get_be-v.ensures c.put_be.ensures;
    }
