-- `samples::unpack::unpack_rest`: one more sample is put.
-- Assumes nothing.
use Rattle.std.proofs.Common.{arith}
use Rattle.bits.proofs.Values.{values-none, values-turn}
use Rattle.samples.specs.Internal.Samples.{spaced}
use Rattle.samples.proofs.unpack.unpack_rest.Goals as goal

pub loop-k-init : goal.loop-k-init
loop-k-init c = values-none _ _ _ _

pub loop-k-preserved : goal.loop-k-preserved
unfolding spaced
loop-k-preserved c = values-turn _ _ _ _ _ (grind arith) c.loop-k.invariant c.get_packed-v.ensures c.put_be.ensures
