-- What a store does to each bit of the image, and to what stands past the image.
-- Assumes nothing.
use Prim.Native.Nat.{ℕ, suc, ◌+◌, ◌-◌, ◌*◌, ◌/◌, ◌≤◌, ◌<◌}
use mathlib.Core.Path.{◌≡◌, refl, sym, ◌∙◌}
use mathlib.Core.Logic.{◌≢◌, ◌⊎◌, inl, inr}
use mathlib.Core.Bool.{Bool, true, false}
use mathlib.Core.List.{List}
use native.Mathlib.Omega.{arith}
use native.Mathlib.Decide.{dec_lt}
use lib.ListN.{length, drop, replicate, length-replicate}
use Rattle.bits.specs.Bits.{bit_of, bit_at, put_bits}
use Rattle.common.specs.Over.{over}
use Rattle.bits.proofs.Bits.{length-put_bits, put_bits_hit, put_bits_bit}
use Rattle.grid.specs.declared.Grid.{Grid}
use Rattle.grid.specs.Sizes.{band_bytes, image_bytes, block_index, actual_rows, actual_columns, byte_multiple}
use Rattle.grid.specs.Layout.{run_byte, place, Block, Sample, SampleBit}
use Rattle.grid.proofs.SamplePlaces.{inside, apart, runs, run_inside}
use Rattle.calls.specs.Writes.{data_at, put_samples, clear_runs, store_by, store_block}
use Rattle.common.proofs.Loops.{iter3_hit}
use Rattle.frame.proofs.ListBits.{zeros-out, zeros_keep, drop_past, drop-put_bits}
use Rattle.frame.proofs.Lengths.{put_keep, clear_keep, length-cleared, length-clear_runs}

-- none of n places from `at` on: before them or after them
pub outside : (p at n : ℕ) → ((i : ℕ) → i < n → p ≢ at + i) → (p < at) ⊎ (at + n ≤ p)
outside p at n ne = go (dec_lt p at) (dec_lt p (at + n))
  where
    go : Dec (p < at) → Dec (p < at + n) → (p < at) ⊎ (at + n ≤ p)
    go (yes l) d = inl l
    go (no l) (no h) = inr (omega arith)
    go (no l) (yes h) = absurd (ne (p - at) (omega arith) (omega arith))

-- a sample ends inside the image
pub sample-end : (g : Grid) (row column b r c : ℕ) → 0 < g.nbpp → Sample g row column b r c → place g row column b r c + g.nbpp ≤ image_bytes g * 8
sample-end g row column b r c h s =
    omega (arith, inside g row column b r c (g.nbpp - 1) (record { sample = s; in_i = omega arith }))

-- what every clearing of a run keeps, and then every put
pub laid_keep : (g : Grid) (row column : ℕ) → Block g row column → (v : ℕ → ℕ → ℕ → ℕ) (image : List ℕ)
    → image_bytes g ≤ length image → (Q : List ℕ → Type 0)
    → ((b r c : ℕ) → Sample g row column b r c → (y : List ℕ) → Q y
    → Q (put_bits y (place g row column b r c) g.nbpp (v b r c)))
    → ((k : ℕ) → k < g.bands → (y : List ℕ) → image_bytes g ≤ length y → Q y
    → Q (over y (run_byte g.imode g (block_index g row column) k) (replicate (band_bytes g) 0)))
    → Q image → Q (put_samples g row column v (clear_runs g row column image))
laid_keep g row column t v image fits Q put clear q =
    put_keep g row column v t Q put (clear_runs g row column image)
    (clear_keep g row column (λ y. (length y ≡ length image) × Q y)
    (λ k hk y m. (
      length-cleared g row column k y t hk (omega (arith, m.0)) ∙ m.0,
      clear k hk y (omega (arith, m.0)) m.1,
    )) image (refl, q)).1

module _ (g : Grid) (row column : ℕ) (t : Block g row column) (dat image : List ℕ) (fits : image_bytes g ≤ length image) where
  -- what every put keeps, and where runs are cleared every clearing of one
  pub store_keep : (Q : List ℕ → Type 0)
      → ((b r c : ℕ) → Sample g row column b r c → (y : List ℕ) → Q y → Q (put_bits y (place g row column b r c) g.nbpp (data_at g row column dat b r c)))
      → ((k : ℕ) → k < g.bands → (y : List ℕ) → image_bytes g ≤ length y → Q y → Q (over y (run_byte g.imode g (block_index g row column) k) (replicate (band_bytes g) 0)))
      → (w : Bool) → Q image → Q (store_by w g row column dat image)
  unfolding store_by
  store_keep Q put clear true q = put_keep g row column _ t Q put image q
  store_keep Q put clear false q = laid_keep g row column t _ image fits Q put clear q

  -- a bit that is none of the block's samples' and lies in none of its runs
  store_away : (p v : ℕ) → ((b r c i : ℕ) → SampleBit g row column b r c i → p ≢ place g row column b r c + i)
      → ((k n : ℕ) → k < g.bands → n < band_bytes g → p / 8 ≢ run_byte g.imode g (block_index g row column) k + n)
      → bit_at image p ≡ v → bit_at (store_block g row column dat image) p ≡ v
  store_away p v ne nr e =
      store_keep (λ y. bit_at y p ≡ v)
      (λ b r c s y m. put_bits_bit y _ _ _ p (outside p _ g.nbpp (λ i hi. ne b r c i (record { sample = s; in_i = hi }))) ∙ m)
      (λ k hk y h m. zeros-out y _ _ (omega (arith, run_inside g row column k t hk)) p (outside (p / 8) _ (band_bytes g) (λ n hn. nr k n hk hn)) ∙ m)
      (byte_multiple g) e

  -- a bit of a sample of another block is as it was
  pub store_other : (row' column' b r c i v : ℕ) → SampleBit g row' column' b r c i → (row' ≡ row → column' ≡ column → ⊥)
      → bit_at image (place g row' column' b r c + i) ≡ v → bit_at (store_block g row column dat image) (place g row' column' b r c + i) ≡ v
  store_other row' column' b r c i v bit ne e =
      store_away _ v
      (λ b₁ r₁ c₁ i₁ bit₁ q. let s = apart g row' column' b r c i row column b₁ r₁ c₁ i₁ bit bit₁ q in ne s.eq_row s.eq_column)
      (λ k n hk hn q. let s = runs g row' column' b r c i row column k n bit t hk hn q in ne s.0 s.1) e

  -- a zero bit that holds no sample of the block stays zero
  pub store_free : (p : ℕ) → ((b r c i : ℕ) → SampleBit g row column b r c i → p ≢ place g row column b r c + i)
      → bit_at image p ≡ 0 → bit_at (store_block g row column dat image) p ≡ 0
  store_free p ne e =
      store_keep (λ y. bit_at y p ≡ 0)
      (λ b r c s y m. put_bits_bit y _ _ _ p (outside p _ g.nbpp (λ i hi. ne b r c i (record { sample = s; in_i = hi }))) ∙ m)
      (λ k hk y h m. zeros_keep y (run_byte g.imode g (block_index g row column) k) (band_bytes g) (omega (arith, run_inside g row column k t hk)) p m)
      (byte_multiple g) e

  -- the surplus of a longer buffer is kept
  pub store_surplus : 0 < g.nbpp → drop (image_bytes g) (store_block g row column dat image) ≡ drop (image_bytes g) image
  store_surplus pos =
      store_keep (λ y. drop (image_bytes g) y ≡ drop (image_bytes g) image)
      (λ b r c s y m. drop-put_bits (image_bytes g) y _ _ _ (sample-end g row column b r c pos s) ∙ m)
      (λ k hk y h m. drop_past (image_bytes g) y _ (replicate (band_bytes g) 0) (omega (arith, run_inside g row column k t hk, length-replicate {A = ℕ} (band_bytes g) 0))
      (omega (arith, run_inside g row column k t hk, length-replicate {A = ℕ} (band_bytes g) 0)) ∙ m)
      (byte_multiple g) refl

-- each bit of the samples put is that of their numbers
pub put_hit : (g : Grid) (row column : ℕ) (v : ℕ → ℕ → ℕ → ℕ) (image : List ℕ) → image_bytes g ≤ length image
    → (b r c i : ℕ) → SampleBit g row column b r c i
    → bit_at (put_samples g row column v image) (place g row column b r c + i) ≡ bit_of (v b r c) (g.nbpp - suc i)
unfolding put_samples
put_hit g row column v image fits b r c i bit =
    iter3_hit (λ y. length y ≡ length image)
    (λ y. bit_at y (place g row column b r c + i) ≡ bit_of (v b r c) (g.nbpp - suc i))
    (actual_rows g row) g.bands (actual_columns g column) _ image r b c bit.sample.in_r bit.sample.in_b bit.sample.in_c
    (λ r' b' c' hr hb hc y m. length-put_bits y _ _ _ ∙ m)
    (λ y m. put_bits_hit y _ g.nbpp _ i bit.in_i
    (omega (arith, sample-end g row column b r c (omega (arith, bit.in_i)) bit.sample)))
    (λ r' b' c' hr hb hc ne y m. put_bits_bit y _ _ _ _ (outside _ _ g.nbpp (λ j hj q.
    let s = apart g row column b r c i row column b' r' c' j bit
    (record { sample = record { block = bit.sample.block; in_b = hb; in_r = hr; in_c = hc }; in_i = hj }) q in
    ne (sym s.eq_r) (sym s.eq_b) (sym s.eq_c))) ∙ m)
    refl

store_hit_by : (w : Bool) (g : Grid) (row column : ℕ) (dat image : List ℕ) → image_bytes g ≤ length image → (b r c i : ℕ) → SampleBit g row column b r c i
    → bit_at (store_by w g row column dat image) (place g row column b r c + i) ≡ bit_of (data_at g row column dat b r c) (g.nbpp - suc i)
unfolding store_by
store_hit_by true g row column dat image fits b r c i bit = put_hit g row column (data_at g row column dat) image fits b r c i bit
store_hit_by false g row column dat image fits b r c i bit =
    put_hit g row column (data_at g row column dat) (clear_runs g row column image) (omega (arith, length-clear_runs g row column image bit.sample.block fits)) b r c i bit

pub store_hit : (g : Grid) (row column : ℕ) (dat image : List ℕ) → image_bytes g ≤ length image → (b r c i : ℕ) → SampleBit g row column b r c i
    → bit_at (store_block g row column dat image) (place g row column b r c + i) ≡ bit_of (data_at g row column dat b r c) (g.nbpp - suc i)
store_hit g row column dat image fits b r c i bit = store_hit_by (byte_multiple g) g row column dat image fits b r c i bit
