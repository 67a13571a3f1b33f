-- `mask::write::put_offsets` meets its contract.
-- Assumes nothing.
use Rattle.std.proofs.Common.{get_or, refl, arith}
use Rattle.bits.proofs.Values.{values-none, values-turn}
use Rattle.mask.proofs.write.put_offsets.Goals as goal

pub loop-k-init : goal.loop-k-init
loop-k-init c = values-none _ 4 _ _

pub loop-k-preserved : goal.loop-k-preserved
loop-k-preserved c =
    let a = c.args in
    values-turn (λ i. get_or a.list.now i 0) 4 a.out.now a.at c.loop-k.k (omega arith)
    c.loop-k.invariant refl c.put_be.ensures
