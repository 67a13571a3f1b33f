-- What a store keeps of the image, put by put and run by run; above all its length.
-- Assumes nothing.
use Prim.Native.Nat.{ℕ, ◌≤◌, ◌<◌}
use mathlib.Core.Path.{◌≡◌, refl, ◌∙◌}
use mathlib.Core.Bool.{Bool, true, false}
use mathlib.Core.List.{List}
use native.Mathlib.Omega.{arith}
use lib.ListN.{length, replicate, length-replicate}
use Rattle.bits.specs.Bits.{put_bits}
use Rattle.common.specs.Over.{over}
use Rattle.bits.proofs.Bits.{length-put_bits}
use Rattle.common.proofs.Over.{length_over}
use Rattle.grid.specs.declared.Grid.{Grid}
use Rattle.grid.specs.Sizes.{band_bytes, image_bytes, block_index, actual_rows, actual_columns, byte_multiple}
use Rattle.grid.specs.Layout.{run_byte, place, Block, Sample}
use Rattle.grid.proofs.SamplePlaces.{run_inside}
use Rattle.calls.specs.Writes.{put_samples, clear_runs, store_by, store_block}
use Rattle.common.proofs.Turns.{iter_keep}
use Rattle.common.proofs.Loops.{iter3_keep}

-- ---- what each part of a store keeps

pub put_keep : (g : Grid) (row column : ℕ) (v : ℕ → ℕ → ℕ → ℕ) → Block g row column → (Q : List ℕ → Type 0)
    → ((b r c : ℕ) → Sample g row column b r c → (y : List ℕ) → Q y
    → Q (put_bits y (place g row column b r c) g.nbpp (v b r c)))
    → (image : List ℕ) → Q image → Q (put_samples g row column v image)
unfolding put_samples
put_keep g row column v t Q s image q =
    iter3_keep Q (actual_rows g row) g.bands (actual_columns g column) _ image
    (λ r b c hr hb hc y qy. s b r c (record { block = t; in_b = hb; in_r = hr; in_c = hc }) y qy) q

pub clear_keep : (g : Grid) (row column : ℕ) (Q : List ℕ → Type 0)
    → ((k : ℕ) → k < g.bands → (y : List ℕ) → Q y → Q (over y (run_byte g.imode g (block_index g row column) k) (replicate (band_bytes g) 0)))
    → (image : List ℕ) → Q image → Q (clear_runs g row column image)
unfolding clear_runs
clear_keep g row column Q s image q = iter_keep Q g.bands _ image s q

-- ---- lengths

pub length-put_samples : (g : Grid) (row column : ℕ) (v : ℕ → ℕ → ℕ → ℕ) (image : List ℕ) → Block g row column
    → length (put_samples g row column v image) ≡ length image
length-put_samples g row column v image t =
    put_keep g row column v t (λ y. length y ≡ length image) (λ b r c s y e. length-put_bits y _ _ _ ∙ e) image refl

pub length-cleared : (g : Grid) (row column k : ℕ) (y : List ℕ) → Block g row column → k < g.bands → image_bytes g ≤ length y
    → length (over y (run_byte g.imode g (block_index g row column) k) (replicate (band_bytes g) 0)) ≡ length y
length-cleared g row column k y t hk h =
    length_over y _ (replicate (band_bytes g) 0) (omega (arith, run_inside g row column k t hk, length-replicate {A = ℕ} (band_bytes g) 0))

pub length-clear_runs : (g : Grid) (row column : ℕ) (image : List ℕ) → Block g row column → image_bytes g ≤ length image
    → length (clear_runs g row column image) ≡ length image
length-clear_runs g row column image t h =
    clear_keep g row column (λ y. length y ≡ length image)
    (λ k hk y e. length-cleared g row column k y t hk (omega arith) ∙ e) image refl

length-store_by : (w : Bool) (g : Grid) (row column : ℕ) (dat image : List ℕ) → Block g row column → image_bytes g ≤ length image
    → length (store_by w g row column dat image) ≡ length image
unfolding store_by
length-store_by true g row column dat image t h = length-put_samples g row column _ image t
length-store_by false g row column dat image t h =
    length-put_samples g row column _ (clear_runs g row column image) t ∙ length-clear_runs g row column image t h

pub length-store_block : (g : Grid) (row column : ℕ) (dat image : List ℕ) → Block g row column → image_bytes g ≤ length image
    → length (store_block g row column dat image) ≡ length image
length-store_block g row column dat image t h = length-store_by (byte_multiple g) g row column dat image t h

-- ---- the buffers after a start

pub length-zeros : (xs : List ℕ) (n : ℕ) → n ≤ length xs → length (over xs 0 (replicate n 0)) ≡ length xs
length-zeros xs n h = length_over xs 0 (replicate n 0) (omega (arith, length-replicate {A = ℕ} n 0))
