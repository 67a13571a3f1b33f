-- The blocks of an image do not meet: each run of each block has t bytes of its own; and where a block ends.
-- Assumes nothing.
use Prim.Native.Nat.{ℕ, ◌+◌, ◌-◌, ◌*◌, ◌/◌, ◌%◌, ◌≤◌, ◌<◌}
use mathlib.Core.Path.{◌≡◌, refl, sym, ap, ap₂, ◌∙◌, subst}
use mathlib.Core.Bool.{Bool, true, false}
use native.Mathlib.Omega.{arith}
use native.Mathlib.Decide.{dec_lt}
use native.Mathlib.Nat.{le_of_eq, mul-le-mul_right}
use lib.Arith.{digits_lt, digits_div}
use Rattle.common.specs.Tests.{pick}
use Rattle.common.proofs.Arith.{two_digits}
use Rattle.layout.specs.declared.InterleaveMode.{InterleaveMode}
use Rattle.layout.specs.declared.InterleaveMode.TheVariants.{B, P, R, S}
use Rattle.layout.specs.Order.{ordinal, bands_apart}
use Rattle.layout.specs.Internal.Layout.{run_size, ordinal_in, place as place_in, Sample as SampleIn}
use Rattle.layout.proofs.Places as inside-block
use Rattle.grid.specs.declared.Grid.{Grid}
use Rattle.grid.specs.Sizes.{band_bytes, blocks, image_bytes, block_index, actual_rows, actual_columns, byte_multiple}
use Rattle.grid.specs.Layout.{run_byte, place, block_end, Block, Sample, SampleBit}
use Rattle.grid.specs.Internal.BlockLayouts.{layout_of}
use Rattle.grid.proofs.Accepted.{Facts, index_lt}
use Rattle.grid.proofs.BlockLayouts.{run_is, place_is, end_is, rows-held, columns-held, run_fits, sound}

-- ---- runs, counted through the image

-- which of the image's runs run k of the block at an index is
unfoldable pub slot : InterleaveMode → Grid → ℕ → ℕ → ℕ
slot m g index k = pick (bands_apart m) (k * blocks g + index) (index * g.bands + k)

pub slot_is : (m : InterleaveMode) (g : Grid) (index k : ℕ) → run_byte m g index k ≡ slot m g index k * band_bytes g
unfolding slot pick
slot_is m g index k = go (bands_apart m)
  where
    go : (s : Bool) → pick s ((k * blocks g + index) * band_bytes g) (index * g.bands * band_bytes g + k * band_bytes g)
        ≡ pick s (k * blocks g + index) (index * g.bands + k) * band_bytes g
    go true = refl
    go false = omega arith

slot_lt : (m : InterleaveMode) (g : Grid) (index k : ℕ) → index < blocks g → k < g.bands → slot m g index k < blocks g * g.bands
unfolding slot pick
slot_lt m g index k h h' = go (bands_apart m)
  where
    go : (s : Bool) → pick s (k * blocks g + index) (index * g.bands + k) < blocks g * g.bands
    go true = omega (arith, digits_lt {q = k} {m = g.bands} {r = index} {c = blocks g} h' h)
    go false = digits_lt {q = index} {m = blocks g} h h'

pub slot_inj : (m : InterleaveMode) (g : Grid) (index k index' k' : ℕ) → index < blocks g → k < g.bands → index' < blocks g → k' < g.bands
    → slot m g index k ≡ slot m g index' k' → (index ≡ index') × (k ≡ k')
unfolding slot pick
slot_inj m g index k index' k' hi hk hi' hk' = go (bands_apart m)
  where
    go : (s : Bool) → pick s (k * blocks g + index) (index * g.bands + k) ≡ pick s (k' * blocks g + index') (index' * g.bands + k')
        → (index ≡ index') × (k ≡ k')
    go true e = let a = two_digits (blocks g) k index k' index' hi hi' e in (a.1, a.0)
    go false e = two_digits g.bands index k index' k' hk hk' e

-- a run lies inside the image
pub run_inside : (g : Grid) (row column k : ℕ) → Block g row column → k < g.bands
    → run_byte g.imode g (block_index g row column) k + band_bytes g ≤ image_bytes g
run_inside g row column k t hk =
    omega (
      arith,
      slot_is g.imode g (block_index g row column) k,
      mul-le-mul_right (band_bytes g) (slot_lt g.imode g (block_index g row column) k (index_lt g row column t) hk),
    )

-- ---- the run of a bit of a sample

-- the run of a sample, and how many samples of the run stand before it
abbrev pub run_of : Grid → ℕ → ℕ → ℕ → ℕ → ℕ → ℕ
run_of g row column b r c = ordinal_in (layout_of g row column) b r c / run_size (layout_of g row column)

abbrev pub in_run : Grid → ℕ → ℕ → ℕ → ℕ → ℕ → ℕ
in_run g row column b r c = ordinal_in (layout_of g row column) b r c % run_size (layout_of g row column)

in-layout : (g : Grid) (row column b r c : ℕ) → Sample g row column b r c → SampleIn (layout_of g row column) b r c
in-layout g row column b r c t = record { in_b = t.in_b; in_r = t.in_r; in_c = t.in_c }

run_place_in : (g : Grid) (row column b r c : ℕ) → Sample g row column b r c → inside-block.RunPlace (layout_of g row column) b r c
run_place_in g row column b r c t =
    inside-block.run_place-by (layout_of g row column) (rows-held (byte_multiple g) g row) (columns-held (byte_multiple g) g column)
    (run_fits (byte_multiple g) g row column) b r c (in-layout g row column b r c t)

-- the run of a bit of a sample, and its place there
pub record BitPlace (g : Grid) (row column b r c i : ℕ) : Type 0 where
  pub index_lt : block_index g row column < blocks g
  pub k_lt : run_of g row column b r c < g.bands
  pub off_lt : in_run g row column b r c * g.nbpp + i < band_bytes g * 8
  pub is : place g row column b r c + i
      ≡ slot g.imode g (block_index g row column) (run_of g row column b r c) * (band_bytes g * 8) + (in_run g row column b r c * g.nbpp + i)

pub bit_place : (g : Grid) (row column b r c i : ℕ) → SampleBit g row column b r c i → BitPlace g row column b r c i
unfolding place_in
bit_place g row column b r c i t =
    let s = run_place_in g row column b r c t.sample in
    let k : ℕ = run_of g row column b r c in
    let a : place g row column b r c ≡ place_in (layout_of g row column) b r c = place_is g row column b r c t.sample.in_r t.sample.in_c in
    let e = sym (run_is g.imode g (block_index g row column) k) ∙ slot_is g.imode g (block_index g row column) k in
    record {
      index_lt = index_lt g row column t.sample.block;
      k_lt = s.run_lt;
      off_lt = omega (arith, s.bits_in, t.in_i);
      is = omega (arith, a, e);
    }

-- a sample lies inside the image
pub inside : (g : Grid) (row column b r c i : ℕ) → SampleBit g row column b r c i → place g row column b r c + i < image_bytes g * 8
inside g row column b r c i t =
    let s = bit_place g row column b r c i t in
    let h = slot_lt g.imode g (block_index g row column) (run_of g row column b r c) s.index_lt s.k_lt in
    omega (arith, s.is, s.off_lt, mul-le-mul_right (band_bytes g) h)

-- the same bit of the same sample
pub record Same6 (row column b r c i row' column' b' r' c' i' : ℕ) : Type 0 where
  pub eq_row : row ≡ row'
  pub eq_column : column ≡ column'
  pub eq_b : b ≡ b'
  pub eq_r : r ≡ r'
  pub eq_c : c ≡ c'
  pub eq_i : i ≡ i'

-- two different samples of the grid share no bit
pub apart : (g : Grid) (row column b r c i row' column' b' r' c' i' : ℕ) → SampleBit g row column b r c i → SampleBit g row' column' b' r' c' i'
    → place g row column b r c + i ≡ place g row' column' b' r' c' + i' → Same6 row column b r c i row' column' b' r' c' i'
apart g row column b r c i row' column' b' r' c' i' t t' e =
    let s = bit_place g row column b r c i t in
    let s' = bit_place g row' column' b' r' c' i' t' in
    let a = two_digits (band_bytes g * 8) _ _ _ _ s.off_lt s'.off_lt (sym s.is ∙ e ∙ s'.is) in
    let k = slot_inj g.imode g _ _ _ _ s.index_lt s.k_lt s'.index_lt s'.k_lt a.0 in
    let x = two_digits g.nbpr row column row' column' t.sample.block.in_column t'.sample.block.in_column k.0 in
    let u : SampleBit g row column b' r' c' i' = subst (λ (y : ℕ). SampleBit g row y b' r' c' i') (sym x.1) (subst (λ (y : ℕ). SampleBit g y column' b' r' c' i') (sym x.0) t') in
    let o = inside-block.same_bit (layout_of g row column) b r c i b' r' c' i'
    (in-layout g row column b r c t.sample) (in-layout g row column b' r' c' u.sample)
    (run_place_in g row column b r c t.sample) (run_place_in g row column b' r' c' u.sample) t.in_i t'.in_i
    (k.1 ∙ sym (ap₂ (λ (y z : ℕ). run_of g y z b' r' c') x.0 x.1))
    (a.1 ∙ sym (ap₂ (λ (y z : ℕ). in_run g y z b' r' c' * g.nbpp + i') x.0 x.1)) in
    record { eq_row = x.0; eq_column = x.1; eq_b = o.0.eq_b; eq_r = o.0.eq_r; eq_c = o.0.eq_c; eq_i = o.1 }

-- a sample's bits lie in runs of its own block
pub runs : (g : Grid) (row column b r c i row' column' k n : ℕ) → SampleBit g row column b r c i → Block g row' column'
    → k < g.bands → n < band_bytes g → (place g row column b r c + i) / 8 ≡ run_byte g.imode g (block_index g row' column') k + n
    → (row ≡ row') × (column ≡ column')
runs g row column b r c i row' column' k n t t' hk hn e =
    let s = bit_place g row column b r c i t in
    let a = two_digits (band_bytes g) _ _ _ n (omega (arith, s.off_lt)) hn
    (sym (eighth _ (band_bytes g) (in_run g row column b r c * g.nbpp + i)) ∙ ap (λ (x : ℕ). x / 8) (sym s.is) ∙ e
    ∙ ap (λ (x : ℕ). x + n) (slot_is g.imode g (block_index g row' column') k)) in
    two_digits g.nbpr row column row' column' t.sample.block.in_column t'.in_column
    (slot_inj g.imode g _ _ _ _ s.index_lt s.k_lt (index_lt g row' column' t') hk a.0).0
  where
    eighth : (a t x : ℕ) → (a * (t * 8) + x) / 8 ≡ a * t + x / 8
    eighth a t x = omega arith

-- ---- question 7's end of a block

-- the end is past every bit of the block's actual samples
pub ends : (g : Grid) → Facts g → (row column b r c i : ℕ) → SampleBit g row column b r c i
    → place g row column b r c + i < block_end g row column * 8
ends g f row column b r c i t =
    let l = sound g f row column t.sample.block in
    omega (
      arith,
      place_is g row column b r c t.sample.in_r t.sample.in_c,
      end_is g f row column t.sample.block,
      inside-block.ends (layout_of g row column) l b r c (in-layout g row column b r c t.sample),
      t.in_i,
    )

-- the end is in the run of the block that is last in the image, or before it
end-le : (g : Grid) → Facts g → (row column : ℕ) → Block g row column
    → block_end g row column ≤ (slot g.imode g (block_index g row column) (g.bands - 1) + 1) * band_bytes g
end-le g f row column t =
    let e = sym (run_is g.imode g (block_index g row column) (g.bands - 1)) ∙ slot_is g.imode g (block_index g row column) (g.bands - 1) in
    omega (arith, end_is g f row column t, inside-block.end-le (layout_of g row column) (sound g f row column t), e)

-- the end is inside the image
pub end_in : (g : Grid) → Facts g → (row column : ℕ) → Block g row column → block_end g row column ≤ image_bytes g
end_in g f row column t =
    let h = slot_lt g.imode g (block_index g row column) (g.bands - 1) (index_lt g row column t) (omega (arith, f.sides.bands-pos)) in
    omega (arith, end-le g f row column t, mul-le-mul_right (band_bytes g) h)

-- the run of a block that is last in the image is before that of the last sample of any block after it; in S the run of a sample is its band
slot_next : (m : InterleaveMode) (g : Grid) (index index' v h r c : ℕ) → 0 < g.bands → index < index' → r < v → c < h
    → slot m g index (g.bands - 1) < slot m g index' (ordinal m g.bands v h (g.bands - 1) r c / (v * h))
unfolding slot pick
slot_next B g index index' v h r c p l hr hc = omega (arith, mul-le-mul_right g.bands l)
slot_next P g index index' v h r c p l hr hc = omega (arith, mul-le-mul_right g.bands l)
slot_next R g index index' v h r c p l hr hc = omega (arith, mul-le-mul_right g.bands l)
slot_next S g index index' v h r c p l hr hc =
    let e : ((g.bands - 1) * v + r) * h + c ≡ (g.bands - 1) * (v * h) + (r * h + c) = omega arith in
    let k = ap (λ (x : ℕ). x / (v * h)) e ∙ digits_div (g.bands - 1) (digits_lt {q = r} {m = v} hr hc) in
    omega (arith, ap (λ (x : ℕ). x * blocks g) k)

-- the end grows with the block's index
end_grows : (g : Grid) → Facts g → (row column row' column' : ℕ) → Block g row column → Block g row' column'
    → block_index g row column < block_index g row' column' → block_end g row column < block_end g row' column'
end_grows g f row column row' column' t t' h =
    let q = inside-block.last-sample (layout_of g row' column') (sound g f row' column' t') in
    let l : Sample g row' column' (g.bands - 1) (actual_rows g row' - 1) (actual_columns g column' - 1)
    = record { block = t'; in_b = q.in_b; in_r = q.in_r; in_c = q.in_c } in
    let b : SampleBit g row' column' (g.bands - 1) (actual_rows g row' - 1) (actual_columns g column' - 1) 0
    = record { sample = l; in_i = f.sides.nbpp-pos } in
    let s = bit_place g row' column' _ _ _ 0 b in
    let o = run_place_in g row' column' _ _ _ l in
    let n = slot_next g.imode g (block_index g row column) (block_index g row' column') _ _ _ _ f.sides.bands-pos h o.r_lt o.c_lt in
    omega (arith, end-le g f row column t, ends g f row' column' _ _ _ 0 b, s.is, mul-le-mul_right (band_bytes g) n)

pub end_mono : (g : Grid) → Facts g → (row column row' column' : ℕ) → Block g row column → Block g row' column'
    → block_index g row column ≤ block_index g row' column' → block_end g row column ≤ block_end g row' column'
end_mono g f row column row' column' t t' h = go (dec_lt (block_index g row column) (block_index g row' column'))
  where
    go : Dec (block_index g row column < block_index g row' column') → block_end g row column ≤ block_end g row' column'
    go (yes l) = omega (arith, end_grows g f row column row' column' t t' l)
    go (no l) =
        let x = two_digits g.nbpr row column row' column' t.in_column t'.in_column (omega arith) in
        le_of_eq (ap₂ (block_end g) x.0 x.1)
