-- C's list makes no difference where all bands are asked for.
-- Assumes nothing.
use Rattle.std.specs.Prelude.{ℕ, ◌≡◌, Bool, true, false, List, []}
use Rattle.std.proofs.Common.{refl}
use Rattle.common.specs.Tests.{pick}
use Rattle.layout.specs.declared.InterleaveMode.{InterleaveMode}
use Rattle.layout.specs.Bands.{bands_of, band_count, band_at, q8}
use Rattle.widths.specs.declared.Widths.{Widths}
use Rattle.grid.specs.declared.Grid.{Grid}
use Rattle.calls.specs.Orders.{block_number, window_number, q10, q7_window, crosses, rectangle}
use Rattle.calls.specs.Reads.{block_read, window_of, window}
use Rattle.interleave.specs.Interleave.{reorder_number, source_of, reorder}

pub block-asked : (ws : Widths) (g : Grid) (image : List ℕ) (row column level : ℕ) (all : Bool) (list out : List ℕ)
    → block_read ws g image row column level (bands_of all (pick all [] list)) out
    ≡ block_read ws g image row column level (bands_of all list) out
unfolding block_read block_number band_count band_at q8 pick
block-asked ws g image row column level true list out = refl
block-asked ws g image row column level false list out = refl

pub window-asked : (ws : Widths) (g : Grid) (image : List ℕ) (row column rows columns : ℕ) (all : Bool)
    (list out : List ℕ)
    → window ws g image (rectangle row column rows columns (bands_of all (pick all [] list))) out
    ≡ window ws g image (rectangle row column rows columns (bands_of all list)) out
unfolding window window_of window_number q10 q7_window crosses band_count band_at q8 pick
window-asked ws g image row column rows columns true list out = refl
window-asked ws g image row column rows columns false list out = refl

pub reorder-asked : (from to : InterleaveMode) (all : Bool) (list : List ℕ) (rows columns bands size : ℕ) (dat out : List ℕ)
    → reorder from to (bands_of all (pick all [] list)) rows columns bands size dat out
    ≡ reorder from to (bands_of all list) rows columns bands size dat out
unfolding reorder reorder_number source_of band_count band_at q8 pick
reorder-asked from to true list rows columns bands size dat out = refl
reorder-asked from to false list rows columns bands size dat out = refl
