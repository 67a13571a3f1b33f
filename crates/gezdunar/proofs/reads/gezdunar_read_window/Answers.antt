-- `gezdunar::reads::gezdunar_read_window` meets its contract.
-- Assumes nothing.
use Rattle.std.proofs.Common.{sym, ◌∙◌}
use Rattle.gezdunar.proofs.Asked.{window-asked}
use Rattle.gezdunar.proofs.reads.gezdunar_read_window.Goals as goal

pub returns-in-Some : goal.returns-in-Some
returns-in-Some c =
    rw (sym c.in-Some.ensures, c.from.ensures, ← c.new.ensures)
    (rw c.asked_bands-asked.ensures at c.read_window.ensures ∙ window-asked _ _ _ _ _ _ _ _ _ _)
