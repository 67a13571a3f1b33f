-- Laws of samples that stand evenly: in a layout with strides, and along a row inside a run.
-- Assumes nothing.
use Prim.Native.Nat.{ℕ, ◌+◌, ◌-◌, ◌*◌, ◌/◌, ◌%◌, ◌^◌, ◌≤◌, ◌<◌}
use mathlib.Core.Path.{◌≡◌, refl, sym, ap, ◌∙◌, ap₂}
use mathlib.Core.Bool.{Bool, true, false}
use mathlib.Core.List.{[], ◌∷◌}
use native.Mathlib.Omega.{arith}
use native.Mathlib.Nat.{div-add-mod', mul-le-mul_left, mul-le-mul_right}
use lib.Arith.{digits_lt, digits_div, digits_mod}
use borrow.Author.Tests.{eqb-true}
use Rattle.layout.specs.declared.InterleaveMode.{InterleaveMode}
use Rattle.layout.specs.declared.InterleaveMode.TheVariants.{B, P, R, S}
use Rattle.common.specs.Tests.{some}
use Rattle.layout.specs.Order.{ordinal}
use Rattle.layout.specs.Internal.Spacing.{own_runs, has_strides, band_stride, row_stride, column_stride, column_steps, rest_of_run}
use Rattle.common.proofs.Arith.{part-start, ceil_pos}
use Rattle.common.proofs.Tests.{true_false}
use Rattle.layout.specs.declared.BlockLayout.{BlockLayout}
use Rattle.layout.specs.Internal.Layout.{run_size, ordinal_in, bit_of, place, Sample, Sound}
use Rattle.layout.proofs.Places.{sample-size, run_place, sizes}

-- ---- runs without a gap

-- samples that follow each other without a gap
no_gap : (f k a m w s : ℕ) → 8 * a ≡ s * w → 8 * (f + k * a) + m * w ≡ 8 * f + (k * s + m) * w
no_gap f k a m w s e = let q : k * (8 * a) ≡ k * (s * w) = ap (λ (x : ℕ). k * x) e in omega arith

-- the strides of a mode, counted in samples
counted : (m : InterleaveMode) (l : BlockLayout) (b r c : ℕ) → 8 * l.apart ≡ run_size l * l.nbpp
    → ordinal m l.bands l.run_rows l.run_columns b r c * l.nbpp
    ≡ ordinal m l.bands l.run_rows l.run_columns 0 0 0 * l.nbpp + b * band_stride m l + r * row_stride m l + c * column_stride m l
counted B l b r c e = let q : b * (8 * l.apart) ≡ b * (run_size l * l.nbpp) = ap (λ (x : ℕ). b * x) e in omega arith
counted P l b r c e = omega arith
counted R l b r c e = omega arith
counted S l b r c e = let q : b * (8 * l.apart) ≡ b * (run_size l * l.nbpp) = ap (λ (x : ℕ). b * x) e in omega arith

pub gapless : (l : BlockLayout) (n : ℕ) → 8 * l.apart ≡ run_size l * l.nbpp → bit_of l n ≡ 8 * l.first + n * l.nbpp
gapless l n e =
    no_gap l.first (n / run_size l) l.apart (n % run_size l) l.nbpp (run_size l) e
    ∙ ap (λ (x : ℕ). 8 * l.first + x * l.nbpp) (div-add-mod' n (run_size l))

-- ---- bands with runs of their own

-- the order is by band
by-band : (m : InterleaveMode) (n v h b r c : ℕ) → own_runs m ≡ true → ordinal m n v h b r c ≡ (b * v + r) * h + c
by-band B n v h b r c o = refl
by-band S n v h b r c o = refl
by-band P n v h b r c o = true_false (sym o)
by-band R n v h b r c o = true_false (sym o)

own : (l : BlockLayout) (b r c : ℕ) → own_runs l.mode ≡ true → r < l.run_rows → c < l.run_columns
    → bit_of l (ordinal_in l b r c) ≡ 8 * (l.first + b * l.apart) + (r * l.run_columns + c) * l.nbpp
own l b r c o hr hc =
    let v : ℕ = l.run_rows in
    let h : ℕ = l.run_columns in
    let q : ordinal_in l b r c ≡ b * (v * h) + (r * h + c) = by-band l.mode l.bands v h b r c o ∙ regroup b v r h c in
    let d : r * h + c < v * h = digits_lt {q = r} {m = v} hr hc in
    ap₂ (λ (k x : ℕ). 8 * (l.first + k * l.apart) + x * l.nbpp)
    (ap (λ (x : ℕ). x / (v * h)) q ∙ digits_div b d) (ap (λ (x : ℕ). x % (v * h)) q ∙ digits_mod b d)
  where
    regroup : (b v r h c : ℕ) → (b * v + r) * h + c ≡ b * (v * h) + (r * h + c)
    regroup b v r h c = omega arith

own-sum : (m : InterleaveMode) (l : BlockLayout) (b r c : ℕ) → own_runs m ≡ true
    → 8 * (l.first + b * l.apart) + (r * l.run_columns + c) * l.nbpp
    ≡ 8 * (l.first + 0 * l.apart) + (0 * l.run_columns + 0) * l.nbpp + b * band_stride m l + r * row_stride m l + c * column_stride m l
own-sum B l b r c o = omega arith
own-sum S l b r c o = omega arith
own-sum P l b r c o = true_false (sym o)
own-sum R l b r c o = true_false (sym o)

-- ---- both

one : {C : Type 0} (a b : Bool) → some (a ∷ b ∷ []) ≡ true → (a ≡ true → C) → (b ≡ true → C) → C
unfolding some
one true b e f g = f refl
one false true e f g = g refl
one false false e f g = true_false (sym e)

-- where samples stand evenly, a place is the block's first place and a stride for each band, row and column
pub place-even : (l : BlockLayout) → Sound l → (b r c : ℕ) → has_strides l ≡ true → r < l.run_rows → c < l.run_columns
    → place l b r c ≡ place l 0 0 0 + b * band_stride l.mode l + r * row_stride l.mode l + c * column_stride l.mode l
unfolding place has_strides
place-even l f b r c o hr hc =
    one _ _ o
    (λ e.
    let g : 8 * l.apart ≡ run_size l * l.nbpp = eqb-true _ _ e in
    gapless l (ordinal_in l b r c) g
    ∙ sum (8 * l.first) (ordinal_in l b r c * l.nbpp) _ _ _ _ (counted l.mode l b r c g)
    ∙ ap (λ (x : ℕ). x + b * band_stride l.mode l + r * row_stride l.mode l + c * column_stride l.mode l) (sym (gapless l (ordinal_in l 0 0 0) g)))
    (λ e.
    own l b r c e hr hc
    ∙ own-sum l.mode l b r c e
    ∙ ap (λ (x : ℕ). x + b * band_stride l.mode l + r * row_stride l.mode l + c * column_stride l.mode l) (sym (own l 0 0 0 e (omega arith) (omega arith))))
  where
    sum : (a x y p q s : ℕ) → x ≡ y + p + q + s → a + x ≡ a + y + p + q + s
    sum a x y p q s e = omega arith

-- ---- along a row, inside a run

-- the order counts on by the same number from column to column
along : (m : InterleaveMode) (l : BlockLayout) (v h b r c j : ℕ)
    → ordinal m l.bands v h b r (c + j) ≡ ordinal m l.bands v h b r c + j * column_steps m l
along B l v h b r c j = omega arith
along P l v h b r c j = omega arith
along R l v h b r c j = omega arith
along S l v h b r c j = omega arith

pub stride-is : (m : InterleaveMode) (l : BlockLayout) → column_stride m l ≡ column_steps m l * l.nbpp
stride-is B l = omega arith
stride-is P l = refl
stride-is R l = omega arith
stride-is S l = omega arith

pub steps_pos : (m : InterleaveMode) (l : BlockLayout) → 0 < l.bands → 0 < column_steps m l
steps_pos B l h = omega arith
steps_pos P l h = h
steps_pos R l h = omega arith
steps_pos S l h = omega arith

pub steps_le : (m : InterleaveMode) (l : BlockLayout) → 0 < l.bands → column_steps m l ≤ l.bands
steps_le B l h = h
steps_le P l h = omega arith
steps_le R l h = h
steps_le S l h = h

-- a number that stays below the next multiple
pub stays : (n d N : ℕ) → 0 < N → n % N + d < N → ((n + d) / N ≡ n / N) × ((n + d) % N ≡ n % N + d)
stays n d N h l =
    let e : n + d ≡ n / N * N + (n % N + d) = omega (arith, div-add-mod' n N) in
    (ap (λ (x : ℕ). x / N) e ∙ digits_div (n / N) l, ap (λ (x : ℕ). x % N) e ∙ digits_mod (n / N) l)

-- inside a run neighbours stand a column's stride apart, in every layout
pub place-along : (l : BlockLayout) (b r c j : ℕ) → ordinal_in l b r c % run_size l + j * column_steps l.mode l < run_size l
    → place l b r (c + j) ≡ place l b r c + j * column_stride l.mode l
unfolding place
place-along l b r c j h =
    let n : ℕ = ordinal_in l b r c in
    let k : ℕ = column_steps l.mode l in
    let q = stays n (j * k) (run_size l) (omega arith) h in
    let e : ordinal_in l b r (c + j) ≡ n + j * k = along l.mode l l.run_rows l.run_columns b r c j in
    ap₂ (λ (i x : ℕ). 8 * (l.first + i * l.apart) + x * l.nbpp)
    (ap (λ (x : ℕ). x / run_size l) e ∙ q.0)
    (ap (λ (x : ℕ). x % run_size l) e ∙ q.1)
    ∙ regroup (8 * (l.first + n / run_size l * l.apart)) (n % run_size l) j k l.nbpp (column_stride l.mode l) (stride-is l.mode l)
  where
    regroup : (a i j k w t : ℕ) → t ≡ k * w → a + (i + j * k) * w ≡ a + i * w + j * t
    regroup a i j k w t e = rw e (omega arith)

-- the samples of a row that are counted as the rest of a run are in it
pub rest_in : (l : BlockLayout) (b r c j : ℕ) → 0 < l.bands → j < rest_of_run l b r c
    → ordinal_in l b r c % run_size l + j * column_steps l.mode l < run_size l
unfolding rest_of_run
rest_in l b r c j h k = omega (arith, part-start _ (column_steps l.mode l) j (steps_pos l.mode l h) k)

-- there is at least one
pub rest-pos : (l : BlockLayout) → Sound l → (b r c : ℕ) → Sample l b r c → 0 < rest_of_run l b r c
unfolding rest_of_run
rest-pos l f b r c t =
    ceil_pos (run_size l - ordinal_in l b r c % run_size l) (column_steps l.mode l) (steps_pos l.mode l f.some-bands)
    (omega (arith, (run_place l f b r c t).in_lt))

-- ---- the strides fit

pub record StridesFit (l : BlockLayout) : Type 0 where
  pub line : l.run_columns * l.nbpp ≤ 2 ^ 59
  pub pixel : l.bands * l.nbpp ≤ 2 ^ 59
  pub pixels : l.run_columns * (l.bands * l.nbpp) ≤ 2 ^ 59
  pub lines : l.bands * (l.run_columns * l.nbpp) ≤ 2 ^ 59
  pub stride : column_stride l.mode l ≤ 2 ^ 59
  pub bands-le : l.bands ≤ 2 ^ 59
  pub rows-le : l.rows ≤ 2 ^ 59
  pub columns-le : l.columns ≤ 2 ^ 59

-- n bands of runs of v rows of h samples of w bits
strides_in : (n v h w : ℕ) → 0 < n → 0 < v → 0 < h → 0 < w → n * (v * h * w) ≤ 2 ^ 59
    → (h * w ≤ 2 ^ 59) × (n * w ≤ 2 ^ 59) × (h * (n * w) ≤ 2 ^ 59) × (n * (h * w) ≤ 2 ^ 59) × (w ≤ 2 ^ 59) × (n ≤ 2 ^ 59)
strides_in n v h w hn hv hh hw k =
    let a : h * w ≤ v * h * w = omega (arith, mul-le-mul_right (h * w) hv) in
    let b : n * (h * w) ≤ n * (v * h * w) = mul-le-mul_left n a in
    let c : h * w ≤ n * (h * w) = omega (arith, mul-le-mul_right (h * w) hn) in
    let d : w ≤ h * w = omega (arith, mul-le-mul_right w hh) in
    let e : n * w ≤ n * (h * w) = mul-le-mul_left n d in
    let g : n ≤ n * w = omega (arith, mul-le-mul_left n hw) in
    let x : h * (n * w) ≡ n * (h * w) = swap h n w in
    (omega arith, omega arith, omega arith, omega arith, omega arith, omega arith)
  where
    swap : (h n w : ℕ) → h * (n * w) ≡ n * (h * w)
    swap h n w = omega arith

pub strides_fit : (l : BlockLayout) → Sound l → StridesFit l
strides_fit l f =
    let hv : 0 < l.run_rows = omega (arith, f.some-rows, f.rows-le) in
    let hh : 0 < l.run_columns = omega (arith, f.some-columns, f.columns-le) in
    let q = strides_in l.bands l.run_rows l.run_columns l.nbpp f.some-bands hv hh (sample-size l f).bits_pos (sizes l f).block_bits in
    record {
      line = q.0;
      pixel = q.1;
      pixels = q.2;
      lines = q.3;
      stride = by l.mode q.1 q.4;
      bands-le = q.5;
      rows-le = omega (arith, f.rows-le, (sizes l f).run_le, mul-le-mul_left l.run_rows hh);
      columns-le = omega (arith, f.columns-le, (sizes l f).run_le, mul-le-mul_right l.run_columns hv);
    }
  where
    by : (m : InterleaveMode) → l.bands * l.nbpp ≤ 2 ^ 59 → l.nbpp ≤ 2 ^ 59 → column_stride m l ≤ 2 ^ 59
    by B p w = w
    by P p w = p
    by R p w = w
    by S p w = w

-- ---- samples that fill their bytes start at bytes, as far apart as bytes

times : (m w : ℕ) → w % 8 ≡ 0 → m * w % 8 ≡ 0
times m w e =
    let d : w ≡ w / 8 * 8 = omega arith in
    let q : m * w ≡ m * (w / 8) * 8 = ap (λ (x : ℕ). m * x) d ∙ assoc m (w / 8) in
    omega arith
  where
    assoc : (m s : ℕ) → m * (s * 8) ≡ m * s * 8
    assoc m s = omega arith

pub whole-place : (l : BlockLayout) (b r c : ℕ) → l.nbpp % 8 ≡ 0 → place l b r c % 8 ≡ 0
unfolding place
whole-place l b r c e = omega (arith, times (ordinal_in l b r c % run_size l) l.nbpp e)

pub whole-stride : (l : BlockLayout) → l.nbpp % 8 ≡ 0 → column_stride l.mode l % 8 ≡ 0
whole-stride l e = omega (arith, stride-is l.mode l, times (column_steps l.mode l) l.nbpp e)
