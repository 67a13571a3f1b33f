-- What a block has of a window, along one side.
-- Assumes nothing.
use Rattle.std.specs.Prelude.{ℕ, ◌+◌, ◌-◌, ◌*◌, min, max, Bool, List, [], ◌∷◌, leb}
use Rattle.common.specs.Tests.{every}
use Rattle.layout.specs.Bands.{band_count, band_at}
use Rattle.grid.specs.declared.Grid.{Grid}
use Rattle.grid.specs.Sizes.{sample_bytes}
use Rattle.calls.specs.Orders.{Window}
use Rattle.calls.specs.Reads.{bytes_of, picture_at}
use Rattle.windows.specs.declared.cut.Cut.{Cut}

-- the bytes of a window: band by band, row by row
abbrev pub window_bytes : Grid → List ℕ → Window → List ℕ
window_bytes g image w =
    bytes_of (sample_bytes g) (band_count g.bands w.bands) w.rows w.columns
    (λ k r c. picture_at g image (band_at w.bands k) (w.row + r) (w.column + c))

-- question 10 along one side: at least one place, all inside the picture
unfoldable pub inside : ℕ → ℕ → ℕ → Bool
inside start length side = every (leb 1 length ∷ leb (start + length) side ∷ [])

-- of `length` places from `start` on, those in part i of parts of `side`: the first of them in the part, how many, and
-- the first in the window
unfoldable pub cut_of : ℕ → ℕ → ℕ → ℕ → Cut
cut_of start length side i =
    record {
      from = max start (i * side) - i * side;
      count = min (start + length) ((i + 1) * side) - max start (i * side);
      to = max start (i * side) - start;
    }
