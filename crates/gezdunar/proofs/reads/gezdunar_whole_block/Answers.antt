-- `gezdunar::reads::gezdunar_whole_block` meets its contract.
-- Assumes nothing.
use Rattle.std.proofs.Common.{sym, ◌∙◌}
use Rattle.gezdunar.proofs.Places.{place-found}
use Rattle.gezdunar.proofs.reads.gezdunar_whole_block.Goals as goal

pub returns-in-Some : goal.returns-in-Some
returns-in-Some c =
    rw (sym c.in-Some.ensures, ← c.new.ensures)
    (c.from.ensures ∙ place-found _ _ _ _ _ _ c.find_whole.ensures.number c.find_whole.ensures.span)
