-- `gezdunar::reorderings::gezdunar_fused_bip_to_bsq` meets its contract.
-- Assumes nothing.
use Rattle.std.proofs.Common.{◌∙◌}
use Rattle.gezdunar.proofs.Asked.{reorder-asked}
use Rattle.gezdunar.proofs.reorderings.gezdunar_fused_bip_to_bsq.Goals as goal

pub returns : goal.returns
returns c =
    rw c.from.ensures
    (rw c.asked_bands-asked.ensures at c.fused_bip_to_bsq.ensures ∙ reorder-asked _ _ _ _ _ _ _ _ _ _)
