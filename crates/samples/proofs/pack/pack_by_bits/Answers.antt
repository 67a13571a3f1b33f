-- `samples::pack::pack_by_bits`: one more sample is put.
-- Assumes nothing.
use Rattle.bits.specs.Values.{side_by_side}
use Rattle.samples.proofs.Moves.{put_spaced-none, put_spaced-turn}
use Rattle.samples.proofs.pack.pack_by_bits.Goals as goal

pub loop-k-init : goal.loop-k-init
loop-k-init c = put_spaced-none _ _ _ _ _

pub loop-k-preserved : goal.loop-k-preserved
unfolding side_by_side
loop-k-preserved c =
    put_spaced-turn _ _ _ _ _ _ c.loop-k.invariant c.get_be-v.ensures c.put_bits.ensures
