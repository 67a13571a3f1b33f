-- `samples::pack::pack_by_bytes`: one more sample is put.
-- Assumes nothing.
use Rattle.std.proofs.Common.{arith}
use Rattle.bits.specs.Values.{side_by_side}
use Rattle.samples.proofs.Moves.{put_spaced-none, put_spaced-turn}
use Rattle.samples.proofs.pack.pack_by_bytes.Goals as goal

pub loop-k-init : goal.loop-k-init
loop-k-init c = put_spaced-none _ _ _ _ _

pub put_packed-requires-clause-value_fits : goal.put_packed-requires-clause-value_fits
unfolding side_by_side
put_packed-requires-clause-value_fits c =
    rw c.get_be-v.ensures (c.requires.samples_fit.1 c.loop-k.k (omega arith))

pub loop-k-preserved : goal.loop-k-preserved
unfolding side_by_side
loop-k-preserved c =
    put_spaced-turn _ _ _ _ _ _ c.loop-k.invariant c.get_be-v.ensures c.put_packed.ensures
