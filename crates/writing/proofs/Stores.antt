-- A block of the image stored is its layout stored.
-- Assumes nothing.
use Prim.Native.Nat.{ℕ, ◌*◌, ◌/◌, ◌^◌, ◌≤◌, ◌<◌}
use mathlib.Core.Path.{◌≡◌, sym, ap, ◌∙◌, subst}
use mathlib.Core.Bool.{Bool, true, false}
use mathlib.Core.List.{List}
use native.Mathlib.Nat.{zero-add, mul-div_cancel}
use native.Mathlib.Omega.{arith}
use lib.ListN.{length, replicate}
use Rattle.bits.specs.Bits.{put_bits, be_at}
use Rattle.bits.specs.Values.{side_by_side}
use Rattle.common.specs.Over.{over}
use Rattle.common.proofs.Turns.{iter_ext}
use Rattle.grid.specs.declared.Grid.{Grid}
use Rattle.grid.specs.Check.{Accepted}
use Rattle.grid.specs.Sizes.{sample_bytes, band_bytes, blocks, image_bytes, block_index, actual_rows, actual_columns, byte_multiple}
use Rattle.grid.specs.Layout.{Block}
use Rattle.grid.proofs.Accepted.{facts, index_lt}
use Rattle.grid.proofs.SamplePlaces.{end_in}
use Rattle.marks.specs.Marks.{mark_words}
use Rattle.grid.specs.Internal.BlockLayouts.{layout_of}
use Rattle.grid.proofs.BlockLayouts.{place_is, run_is, end_is, sound}
use Rattle.samples.specs.Internal.Samples.{SamplesFit}
use Rattle.moves.specs.Internal.Stores.{Writable, put_block as put_in, clear_runs as clear_in, store_by as store_by_in, store_block as store_in, data_at as data_in}
use Rattle.calls.specs.Orders.{q26}
use Rattle.calls.proofs.Fit.{fit_at}
use Rattle.calls.specs.Writes.{data_at, put_samples, put_block, clear_runs, store_by, store_block}

-- the word of a block's mark is one of the words
pub mark_in : (g : Grid) (words row column : ℕ) → mark_words (blocks g) ≤ words → Block g row column → block_index g row column / 64 < words
mark_in g words row column h b = omega (arith, index_lt g row column b)

put_is : (g : Grid) (row column : ℕ) (dat image : List ℕ) → put_in (layout_of g row column) dat image ≡ put_block g row column dat image
unfolding put_in put_samples data_in data_at
put_is g row column dat image =
    iter_ext (actual_rows g row) _ _ image (λ r hr x.
    iter_ext g.bands _ _ x (λ b hb y.
    iter_ext (actual_columns g column) _ _ y (λ c hc z.
    ap (λ (p : ℕ). put_bits z p g.nbpp (data_at g row column dat b r c)) (sym (place_is g row column b r c hr hc)))))

pub clear_is : (g : Grid) (row column : ℕ) (image : List ℕ) → clear_in (layout_of g row column) image ≡ clear_runs g row column image
unfolding clear_in clear_runs
clear_is g row column image =
    iter_ext g.bands _ _ image (λ i hi x. ap (λ (p : ℕ). over x p (replicate (band_bytes g) 0)) (sym (run_is g.imode g (block_index g row column) i)))

store_by_lem : (w : Bool) (g : Grid) (row column : ℕ) (dat image : List ℕ) → store_by_in w (layout_of g row column) dat image ≡ store_by w g row column dat image
unfolding store_by_in store_by
store_by_lem true g row column dat image = put_is g row column dat image
store_by_lem false g row column dat image = ap (put_in (layout_of g row column) dat) (clear_is g row column image) ∙ put_is g row column dat (clear_runs g row column image)

pub store_is : (g : Grid) (row column : ℕ) (dat image : List ℕ) → store_in (layout_of g row column) dat image ≡ store_block g row column dat image
store_is g row column dat image = store_by_lem (byte_multiple g) g row column dat image

pub writable : (g : Grid) → Accepted g → (row column : ℕ) → Block g row column → (dat image : List ℕ)
    → length dat ≡ g.bands * actual_rows g row * actual_columns g column * sample_bytes g → image_bytes g ≤ length image
    → (g.nbpp < 8 * sample_bytes g → SamplesFit dat 0 (sample_bytes g) g.nbpp (g.bands * actual_rows g row * actual_columns g column))
    → Writable (layout_of g row column) dat image
writable g a row column t dat image e h fit =
    let f = facts g a in
    record { accepted = sound g f row column t; data_is = e; image_holds = omega (arith, end_is g f row column t, end_in g f row column t); fits = fit }

-- data that pass questions 14 and 26 have no sample with a bit above NBPP
pub samples-fit : (g : Grid) → Accepted g → (row column : ℕ) (dat : List ℕ)
    → length dat ≡ g.bands * actual_rows g row * actual_columns g column * sample_bytes g → q26 g dat ≡ true
    → SamplesFit dat 0 (sample_bytes g) g.nbpp (g.bands * actual_rows g row * actual_columns g column)
unfolding side_by_side
samples-fit g a row column dat e fit k h =
    let samples : ℕ = g.bands * actual_rows g row * actual_columns g column in
    let pos : 0 < sample_bytes g = omega (arith, (facts g a).sides.nbpp-pos) in
    let count : samples ≡ length dat / sample_bytes g = sym (mul-div_cancel samples pos) ∙ ap (λ (n : ℕ). n / sample_bytes g) (sym e) in
    subst (λ (i : ℕ). be_at dat i (sample_bytes g) < 2 ^ g.nbpp) (sym (zero-add (k * sample_bytes g)))
    (fit_at g dat fit k (subst (λ (n : ℕ). k < n) count h))
