-- `samples::read::gather_any`: one more sample is put.
-- Assumes nothing.
use Rattle.std.proofs.Common.{◌∙◌, arith}
use Rattle.bits.proofs.Values.{values-none, values-turn}
use Rattle.samples.proofs.Moves.{spaced-bytes}
use Rattle.samples.proofs.read.gather_any.Goals as goal

pub loop-k-init : goal.loop-k-init
loop-k-init c = values-none _ _ _ _

pub loop-k-preserved : goal.loop-k-preserved
loop-k-preserved c =
    values-turn _ _ _ _ _ (grind arith) c.loop-k.invariant
    (c.get_be-v.ensures ∙ spaced-bytes _ _ _ _ _ (λ i. (c.type_inv.src i).fits)) c.put_be.ensures
