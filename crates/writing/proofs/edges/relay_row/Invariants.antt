-- The blocks to the left are laid anew, and the scratch keeps its surplus.
use Rattle.std.proofs.Common.{◌≡◌, ◌*◌, drop}
use Rattle.common.specs.Turns.{iter}
use Rattle.grid.specs.Sizes.{band_bytes}
use Rattle.calls.specs.Relay.{relay_block}
use Rattle.writing.proofs.edges.relay_row.Given as goal

abbrev pub invariant-loop-column : goal.invariant-loop-column
invariant-loop-column l =
    let g = l.fn.grid.grid in
    (l.image ≡ iter l.column (λ column im. relay_block g l.row column im) l.fn.image)
    × (drop (g.bands * band_bytes g) l.scratch ≡ drop (g.bands * band_bytes g) l.fn.scratch)
