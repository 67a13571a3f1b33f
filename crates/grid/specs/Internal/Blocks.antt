-- A block as a value: that of a grid at a block row and column.
-- Assumes nothing.
use Rattle.std.specs.Prelude.{ℕ, ◌≡◌}
use Rattle.grid.specs.declared.Grid.{Grid}
use Rattle.grid.specs.declared.GridBlock.{GridBlock}

abbrev pub IsBlock : Grid → ℕ → ℕ → GridBlock → Type 0
IsBlock g row column block = (block.grid.grid ≡ g) × (block.row ≡ row) × (block.column ≡ column)
