-- The blocks above are laid anew, and the scratch keeps its surplus.
use Rattle.std.proofs.Common.{◌≡◌, ◌*◌, drop}
use Rattle.common.specs.Turns.{iter}
use Rattle.grid.specs.Sizes.{band_bytes}
use Rattle.calls.specs.Relay.{relay_block}
use Rattle.writing.proofs.edges.relay_blocks.Given as goal

abbrev pub invariant-loop-row : goal.invariant-loop-row
invariant-loop-row l =
    let g = l.fn.grid.grid in
    (l.image ≡ iter l.row (λ row im. iter g.nbpr (λ column im. relay_block g row column im) im) l.fn.image)
    × (drop (g.bands * band_bytes g) l.scratch ≡ drop (g.bands * band_bytes g) l.fn.scratch)
