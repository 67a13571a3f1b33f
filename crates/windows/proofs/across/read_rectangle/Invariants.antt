-- The block rows above are read, and of the next one the blocks to the left.
-- Assumes nothing.
use Rattle.std.proofs.Common.{◌≡◌, ◌≤◌, ◌+◌, ◌/◌, length}
use Rattle.layout.specs.Bands.{bands_in}
use Rattle.calls.specs.Orders.{rectangle}
use Rattle.calls.specs.Reads.{picture_at}
use Rattle.windows.proofs.Rectangles.{rows_read, blocks_read}
use Rattle.windows.proofs.across.read_rectangle.Given as goal

abbrev pub invariant-loop-block_column : goal.invariant-loop-block_column
invariant-loop-block_column l =
    let g = l.fn.grid.grid in
    let a = l.fn.area in
    (l.first_column ≤ l.block_column) × (l.block_column ≤ l.last_column + 1) × (length l.out ≡ length l.fn.out)
    × (l.out ≡ blocks_read g (picture_at g l.fn.image) (rectangle a.row a.column a.rows a.columns (bands_in l.fn.asked))
    l.block_row l.block_column l.initial.out)

abbrev pub invariant-loop-block_row : goal.invariant-loop-block_row
invariant-loop-block_row l =
    let g = l.fn.grid.grid in
    let a = l.fn.area in
    (a.row / g.nppbv ≤ l.block_row) × (l.block_row ≤ l.last_row + 1) × (length l.out ≡ length l.fn.out)
    × (l.out ≡ rows_read g (picture_at g l.fn.image) (rectangle a.row a.column a.rows a.columns (bands_in l.fn.asked))
    l.block_row l.fn.out)
