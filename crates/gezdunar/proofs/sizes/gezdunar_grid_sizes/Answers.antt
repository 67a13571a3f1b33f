-- `gezdunar::sizes::gezdunar_grid_sizes` meets its contract.
-- Assumes nothing.
use Rattle.std.proofs.Common.{sym}
use Rattle.gezdunar.proofs.SizeLaws.{sizes-checked}
use Rattle.gezdunar.proofs.sizes.gezdunar_grid_sizes.Goals as goal

pub returns-in-Some : goal.returns-in-Some
returns-in-Some c =
    rw (sym c.in-Some.ensures, ← c.new.ensures)
    (sizes-checked _ _ _ c.check.ensures.number c.check.ensures.same c.from.ensures)
