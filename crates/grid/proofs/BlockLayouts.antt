-- The layout of a block of the ordinary image gives document 01's places and ends, and is sound where the grid is accepted.
-- Assumes nothing.
use Prim.Native.Nat.{ℕ, ◌+◌, ◌-◌, ◌*◌, ◌/◌, ◌%◌, ◌≤◌, ◌<◌}
use mathlib.Core.Path.{◌≡◌, refl, sym, ap, ap₂, ◌∙◌}
use mathlib.Core.Bool.{Bool, true, false}
use native.Mathlib.Omega.{arith}
use native.Mathlib.Nat.{div-add-mod', mul-le-mul, mul-le-mul_right, mul-le-mul_left}
use lib.Arith.{digits_lt, digits_div, digits_mod}
use borrow.Author.Tests.{eqb-true}
use Rattle.common.specs.Tests.{pick}
use Rattle.layout.specs.declared.InterleaveMode.{InterleaveMode}
use Rattle.layout.specs.declared.InterleaveMode.TheVariants.{B, P, R, S}
use Rattle.layout.specs.Order.{ordinal, bands_apart}
use Rattle.layout.specs.Internal.Layout.{end_by, Sound, place as place_in, block_end as end_of}
use Rattle.grid.specs.declared.EdgeRule.{EdgeRule}
use Rattle.grid.specs.declared.EdgeRule.TheVariants.{Tight, Full}
use Rattle.grid.specs.declared.Grid.{Grid}
use Rattle.grid.specs.Sizes.{sample_bytes, band_bytes, blocks, image_bytes, block_index, actual_rows, actual_columns, byte_multiple}
use Rattle.grid.specs.Layout.{sample_byte, run_byte, held, packed_rows, packed_columns, place_by, place, block_end, whole_start, whole_length, Block, Sample}
use Rattle.grid.specs.Internal.BlockLayouts.{first_byte, runs_apart, layout_of}
use Rattle.grid.proofs.Accepted.{Facts, index_lt, blocks-pos, rows-pos, columns-pos, rows-le, columns-le, block-end-le}

-- ---- runs

pub run_is : (m : InterleaveMode) (g : Grid) (index k : ℕ) → run_byte m g index k ≡ first_byte m g index + k * runs_apart m g
unfolding pick
run_is m g index k = go (bands_apart m)
  where
    go : (s : Bool) → pick s ((k * blocks g + index) * band_bytes g) (index * g.bands * band_bytes g + k * band_bytes g)
        ≡ index * pick s (band_bytes g) (g.bands * band_bytes g) + k * pick s (blocks g * band_bytes g) (band_bytes g)
    go true = omega arith
    go false = omega arith

-- ---- byte multiples

-- a sample is 8 s bits, and t is the nominal samples' bytes
whole_width : (g : Grid) → g.nbpp % 8 ≡ 0 → g.nbpp ≡ sample_bytes g * 8
whole_width g e = omega arith

whole-band : (g : Grid) → g.nbpp % 8 ≡ 0 → band_bytes g ≡ g.nppbv * g.nppbh * sample_bytes g
unfolding band_bytes
whole-band g e =
    ap (λ (x : ℕ). (g.nppbh * g.nppbv * x + (8 - 1)) / 8) (whole_width g e) ∙ band_eq g.nppbh g.nppbv (sample_bytes g)
  where
    band_eq : (h v s : ℕ) → (h * v * (s * 8) + (8 - 1)) / 8 ≡ v * h * s
    band_eq h v s = omega arith

-- sample n of a block in B, P and R
whole-block : (g : Grid) (index n : ℕ) → g.nbpp % 8 ≡ 0
    → 8 * (index * g.bands * band_bytes g + sample_bytes g * n)
    ≡ 8 * (index * (g.bands * band_bytes g) + n / (g.nppbv * g.nppbh) * band_bytes g) + n % (g.nppbv * g.nppbh) * g.nbpp
whole-block g index n e =
    let N : ℕ = g.nppbv * g.nppbh in
    ap₂ (λ (t x : ℕ). 8 * (index * g.bands * t + sample_bytes g * x)) (whole-band g e) (sym (div-add-mod' n N))
    ∙ sum index g.bands N (sample_bytes g) (n / N) (n % N)
    ∙ sym (ap₂ (λ (t w : ℕ). 8 * (index * (g.bands * t) + n / N * t) + n % N * w) (whole-band g e) (whole_width g e))
  where
    sum : (i b n s k m : ℕ) → 8 * (i * b * (n * s) + s * (k * n + m)) ≡ 8 * (i * (b * (n * s)) + k * (n * s)) + m * (s * 8)
    sum i b n s k m = omega arith

-- a sample in S, where the run is the band
whole-bands : (g : Grid) (index b r c : ℕ) → g.nbpp % 8 ≡ 0 → r < g.nppbv → c < g.nppbh
    → let N = g.nppbv * g.nppbh in
    let n = (b * g.nppbv + r) * g.nppbh + c in
    8 * ((b * blocks g + index) * band_bytes g + (r * g.nppbh + c) * sample_bytes g)
    ≡ 8 * (index * band_bytes g + n / N * (blocks g * band_bytes g)) + n % N * g.nbpp
whole-bands g index b r c e hr hc =
    let N : ℕ = g.nppbv * g.nppbh in
    let m : ℕ = r * g.nppbh + c in
    let hm : m < N = digits_lt {q = r} {m = g.nppbv} hr hc in
    let en : (b * g.nppbv + r) * g.nppbh + c ≡ b * N + m = omega arith in
    sum (blocks g) index (band_bytes g) b m (sample_bytes g)
    ∙ ap (λ (w : ℕ). 8 * (index * band_bytes g + b * (blocks g * band_bytes g)) + m * w) (sym (whole_width g e))
    ∙ sym (ap₂ (λ (k x : ℕ). 8 * (index * band_bytes g + k * (blocks g * band_bytes g)) + x * g.nbpp)
    (ap (λ (x : ℕ). x / N) en ∙ digits_div b hm) (ap (λ (x : ℕ). x % N) en ∙ digits_mod b hm))
  where
    sum : (a i t b m s : ℕ) → 8 * ((b * a + i) * t + m * s) ≡ 8 * (i * t + b * (a * t)) + m * (s * 8)
    sum a i t b m s = omega arith

-- ---- places

-- the formula of a layout whose runs hold v rows and h columns
abbrev in_layout : InterleaveMode → Grid → ℕ → ℕ → ℕ → ℕ → ℕ → ℕ → ℕ
in_layout m g index v h b r c =
    let n : ℕ = ordinal m g.bands v h b r c in
    8 * (first_byte m g index + n / (v * h) * runs_apart m g) + n % (v * h) * g.nbpp

place-whole : (m : InterleaveMode) (g : Grid) (index b r c : ℕ) → g.nbpp % 8 ≡ 0 → r < g.nppbv → c < g.nppbh
    → 8 * sample_byte m g index b r c ≡ in_layout m g index g.nppbv g.nppbh b r c
unfolding pick
place-whole B g index b r c e hr hc = whole-block g index _ e
place-whole P g index b r c e hr hc = whole-block g index _ e
place-whole R g index b r c e hr hc = whole-block g index _ e
place-whole S g index b r c e hr hc = whole-bands g index b r c e hr hc

-- under both rules a run holds the actual rows, or columns, and not more than the nominal ones
held-le : (e : EdgeRule) {actual nominal : ℕ} → actual ≤ nominal → (actual ≤ held e actual nominal) × (held e actual nominal ≤ nominal)
held-le Tight h = (omega arith, h)
held-le Full h = (h, omega arith)

pub rows-held : (w : Bool) (g : Grid) (row : ℕ) → actual_rows g row ≤ pick w g.nppbv (packed_rows g row)
unfolding pick
rows-held true g row = rows-le g row
rows-held false g row = (held-le g.edges (rows-le g row)).0

pub columns-held : (w : Bool) (g : Grid) (column : ℕ) → actual_columns g column ≤ pick w g.nppbh (packed_columns g column)
unfolding pick
columns-held true g column = columns-le g column
columns-held false g column = (held-le g.edges (columns-le g column)).0

place-by : (w : Bool) (g : Grid) (row column b r c : ℕ) → (w ≡ true → g.nbpp % 8 ≡ 0) → r < actual_rows g row → c < actual_columns g column
    → place_by w g row column b r c
    ≡ in_layout g.imode g (block_index g row column) (pick w g.nppbv (packed_rows g row)) (pick w g.nppbh (packed_columns g column)) b r c
unfolding pick
place-by true g row column b r c e hr hc =
    place-whole g.imode g (block_index g row column) b r c (e refl) (omega (arith, rows-le g row)) (omega (arith, columns-le g column))
place-by false g row column b r c e hr hc =
    let v : ℕ = packed_rows g row in
    let h : ℕ = packed_columns g column in
    let n : ℕ = ordinal g.imode g.bands v h b r c in
    ap (λ (x : ℕ). 8 * x + n % (v * h) * g.nbpp) (run_is g.imode g (block_index g row column) (n / (v * h)))

-- document 01's place of a sample is that of the block's layout
pub place_is : (g : Grid) (row column b r c : ℕ) → r < actual_rows g row → c < actual_columns g column
    → place g row column b r c ≡ place_in (layout_of g row column) b r c
unfolding place place_in
place_is g row column b r c hr hc = place-by (byte_multiple g) g row column b r c (eqb-true (g.nbpp % 8) 0) hr hc

-- ---- ends

-- the last actual sample of a block
last-sample : (g : Grid) → Facts g → (row column : ℕ) → Block g row column
    → Sample g row column (g.bands - 1) (actual_rows g row - 1) (actual_columns g column - 1)
last-sample g f row column t =
    record {
      block = t;
      in_b = omega (arith, f.sides.bands-pos);
      in_r = omega (arith, rows-pos g f row t.in_row);
      in_c = omega (arith, columns-pos g f column t.in_column);
    }

end_whole : (g : Grid) (row column : ℕ) → byte_multiple g ≡ true
    → block_end g row column ≡ place g row column (g.bands - 1) (actual_rows g row - 1) (actual_columns g column - 1) / 8 + sample_bytes g
unfolding block_end place
end_whole g row column e = rw e (omega arith)

end-packed : (g : Grid) (row column : ℕ) → byte_multiple g ≡ false
    → block_end g row column ≡ run_byte g.imode g (block_index g row column) (g.bands - 1) + band_bytes g
unfolding block_end
end-packed g row column e = rw e

-- so is question 7's end of a block
pub end_is : (g : Grid) → Facts g → (row column : ℕ) → Block g row column → block_end g row column ≡ end_of (layout_of g row column)
unfolding end_of
end_is g f row column t = go (byte_multiple g) refl
  where
    go : (w : Bool) → byte_multiple g ≡ w → block_end g row column ≡ end_by (byte_multiple g) (layout_of g row column)
    go true e =
        let l = last-sample g f row column t in
        end_whole g row column e
        ∙ ap (λ (x : ℕ). x / 8 + sample_bytes g) (place_is g row column _ _ _ l.in_r l.in_c)
        ∙ ap (λ (w : Bool). end_by w (layout_of g row column)) (sym e)
    go false e =
        end-packed g row column e
        ∙ ap (λ (x : ℕ). x + band_bytes g) (run_is g.imode g (block_index g row column) (g.bands - 1))
        ∙ ap (λ (w : Bool). end_by w (layout_of g row column)) (sym e)

-- ---- the layout is sound

-- a run of at most the nominal samples fits t bytes
pub run_fits : (w : Bool) (g : Grid) (row column : ℕ)
    → pick w g.nppbv (packed_rows g row) * pick w g.nppbh (packed_columns g column) * g.nbpp ≤ 8 * band_bytes g
unfolding pick band_bytes
run_fits true g row column = omega arith
run_fits false g row column =
    let a : packed_rows g row * packed_columns g column ≤ g.nppbv * g.nppbh =
    mul-le-mul (held-le g.edges (rows-le g row)).1 (held-le g.edges (columns-le g column)).1 in
    omega (arith, mul-le-mul_right g.nbpp a)

-- a block's runs do not meet, and their bytes can be counted
pub record RunsIn (m : InterleaveMode) (g : Grid) (index : ℕ) : Type 0 where
  pub apart : band_bytes g ≤ runs_apart m g
  pub counted : first_byte m g index + g.bands * runs_apart m g ≤ 2 * image_bytes g

pub runs_in : (m : InterleaveMode) (g : Grid) → Facts g → (index : ℕ) → index < blocks g → RunsIn m g index
unfolding pick
runs_in m g f index h = go (bands_apart m) refl
  where
    go : (s : Bool) → bands_apart m ≡ s → RunsIn m g index
    go true e =
        let a : index * band_bytes g ≤ blocks g * band_bytes g = omega (arith, mul-le-mul_right (band_bytes g) h) in
        let b : blocks g * band_bytes g ≤ image_bytes g = omega (arith, mul-le-mul_left (blocks g * band_bytes g) f.sides.bands-pos) in
        record { apart = rw e (omega (arith, mul-le-mul_right (band_bytes g) (blocks-pos g f))); counted = rw e (omega arith) }
    go false e = record { apart = rw e (omega arith); counted = rw e (omega (arith, mul-le-mul_right (g.bands * band_bytes g) h)) }

pub sound : (g : Grid) → Facts g → (row column : ℕ) → Block g row column → Sound (layout_of g row column)
sound g f row column t =
    let w = runs_in g.imode g f (block_index g row column) (index_lt g row column t) in
    record {
      size = f.size;
      some-bands = f.sides.bands-pos;
      some-rows = rows-pos g f row t.in_row;
      some-columns = columns-pos g f column t.in_column;
      rows-le = rows-held (byte_multiple g) g row;
      columns-le = columns-held (byte_multiple g) g column;
      run_fits = run_fits (byte_multiple g) g row column;
      runs-apart = w.apart;
      counted = omega (arith, w.counted, f.image-le);
    }

-- ---- the whole block lies inside the image

pub whole_in : (g : Grid) (row column : ℕ) → Block g row column → whole_start g row column + whole_length g ≤ image_bytes g
unfolding whole_start whole_length pick
whole_in g row column t = go (bands_apart g.imode)
  where
    go : (s : Bool) → pick s 0 (block_index g row column * (g.bands * band_bytes g)) + pick s 0 (g.bands * band_bytes g) ≤ image_bytes g
    go true = omega arith
    go false = block-end-le g row column t
