-- `gezdunar::reads::gezdunar_decode_block` meets its contract.
-- Assumes nothing.
use Rattle.std.proofs.Common.{sym, ◌∙◌}
use Rattle.gezdunar.proofs.Asked.{block-asked}
use Rattle.gezdunar.proofs.reads.gezdunar_decode_block.Goals as goal

pub returns-in-Some : goal.returns-in-Some
returns-in-Some c =
    rw (sym c.in-Some.ensures, c.from.ensures, ← c.new.ensures)
    (rw c.asked_bands-asked.ensures at c.decode_block.ensures ∙ block-asked _ _ _ _ _ _ _ _ _)
