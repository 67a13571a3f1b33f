-- `moves::part::read_planes` meets its contract.
-- Assumes nothing.
use Rattle.moves.proofs.Whole.{whole-done}
use Rattle.moves.proofs.part.read_planes.Goals as goal

pub returns : goal.returns
returns c = whole-done _ _ _ _ _ c.requires (rw c.whole_part-part.ensures at c.read_part.ensures)
