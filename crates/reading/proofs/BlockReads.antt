-- Laws of a block read: the planes of the block's layout are the bytes of its samples.
-- Assumes nothing.
use Prim.Native.Nat.{ℕ, ◌/◌, ◌<◌}
use mathlib.Core.Path.{◌≡◌, sym, ap, ◌∙◌}
use mathlib.Core.List.{List}
use native.Mathlib.Nat.{mod-lt}
use lib.ListN.{length}
use Rattle.common.specs.Over.{over}
use Rattle.common.proofs.Questions.{outcome-yes}
use Rattle.bits.specs.Bits.{bits_at}
use Rattle.bits.proofs.Values.{values_ext}
use Rattle.layout.specs.Bands.{Bands, band_count, band_at}
use Rattle.widths.specs.declared.Widths.{Widths}
use Rattle.grid.specs.declared.Grid.{Grid}
use Rattle.grid.specs.Sizes.{sample_bytes, actual_rows, actual_columns}
use Rattle.grid.specs.Internal.BlockLayouts.{layout_of}
use Rattle.grid.proofs.Accepted.{facts, rows-pos, columns-pos}
use Rattle.grid.proofs.BlockLayouts.{place_is, end_is, sound}
use Rattle.moves.specs.Internal.Parts.{PlanesReadable, planes_of, sample_at as sample_in}
use Rattle.calls.specs.Orders.{block_number}
use Rattle.calls.specs.Reads.{no_shape, filled_with, bytes_of, sample_at, block_read}
use Rattle.reading.proofs.BlockNumbers.{Read}

pub block-readable : (g : Grid) (n row column level : ℕ) (bs : Bands) (m : ℕ) → Read g n row column level bs m
    → PlanesReadable (layout_of g row column) n bs m
block-readable g n row column level bs m t =
    let f = facts g t.accepted in
    record {
      accepted = sound g f row column t.block;
      reached = rw (end_is g f row column t.block) at t.reached;
      bands_in = t.bands_in;
      room = t.room;
    }

planes_are : (g : Grid) (image : List ℕ) (row column : ℕ) (bs : Bands) → 0 < actual_rows g row → 0 < actual_columns g column
    → planes_of (layout_of g row column) image bs
    ≡ bytes_of (sample_bytes g) (band_count g.bands bs) (actual_rows g row) (actual_columns g column)
    (λ k r c. sample_at g image row column (band_at bs k) r c)
unfolding planes_of bytes_of sample_at sample_in
planes_are g image row column bs hr hc =
    values_ext _ _ (sample_bytes g) _ (λ n _.
    ap (λ (x : ℕ). bits_at image x g.nbpp) (sym (place_is g row column _ _ _ (mod-lt (n / actual_columns g column) hr) (mod-lt n hc))))

pub block-done : (ws : Widths) (g : Grid) (image : List ℕ) (row column level : ℕ) (bs : Bands) (out : List ℕ)
    {zs : List ℕ} → block_number ws g (length image) row column level bs (length out) ≡ 0
    → Read g (length image) row column level bs (length out)
    → zs ≡ over out 0 (planes_of (layout_of g row column) image bs)
    → filled_with (record { number = 0; bands = band_count g.bands bs; rows = actual_rows g row; columns = actual_columns g column }) zs
    ≡ block_read ws g image row column level bs out
unfolding block_read
block-done ws g image row column level bs out e t ez =
    let f = facts g t.accepted in
    ap (filled_with _)
    (ez ∙ ap (over out 0) (planes_are g image row column bs (rows-pos g f row t.block.in_row) (columns-pos g f column t.block.in_column)))
    ∙ sym (outcome-yes _ (λ n. filled_with (no_shape n) out) e)
