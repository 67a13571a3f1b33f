-- Laws of windows: a window and the blocks it crosses, question 7, and the bytes of an answer.
-- Assumes nothing.
use Prim.Native.Nat.{ℕ, ◌+◌, ◌-◌, ◌*◌, ◌/◌, ◌%◌, ◌≤◌, ◌<◌}
use mathlib.Core.Path.{◌≡◌, refl, sym}
use mathlib.Core.Bool.{Bool, true, false, not, ◌||◌}
use mathlib.Core.List.{List}
use native.Mathlib.Omega.{arith}
use native.Mathlib.Nat.{mod-lt, div-mul-le_self, lt-div-mul-add, div-lt_iff_lt-mul, le-div_iff_mul-le, mul-le-mul_right}
use borrow.Author.Tests.{ltb-true, leb-true, lt-ltb, le-leb}
use lib.Arith.{digits_div, digits_mod}
use lib.Dec.{leb}
use lib.ListN.{length}
use Rattle.grid.specs.declared.Grid.{Grid}
use Rattle.common.specs.Tests.{every}
use Rattle.grid.specs.Check.{Accepted}
use Rattle.grid.specs.Sizes.{image_bytes, actual_rows, actual_columns}
use Rattle.grid.specs.Layout.{block_end, Block, Sample}
use Rattle.common.proofs.Tests.{true_false, both_yes, every-at, below_at, all-below}
use Rattle.common.proofs.Arith.{part_lt, rest_lt}
use Rattle.grid.proofs.Accepted.{Facts, facts, rows-le, columns-le}
use Rattle.grid.proofs.SamplePlaces.{end_in, end_mono}
use Rattle.bits.proofs.Values.{values_ext, length-values}
use Rattle.calls.specs.Orders.{Window, q7_window, q10, crosses}
use Rattle.calls.specs.Reads.{sample_at, picture_at, bytes_of}

-- ---- tests

imply-yes : (a b : Bool) → (a ≡ true → b ≡ true) → not a || b ≡ true
imply-yes true b f = f refl
imply-yes false b f = refl

imply : (a b : Bool) → not a || b ≡ true → a ≡ true → b ≡ true
imply true b e q = e
imply false b e q = true_false (sym q)

-- ---- a place of the picture, and its block

pub block_of : (g : Grid) → Facts g → (y x : ℕ) → y < g.nrows → x < g.ncols → Block g (y / g.nppbv) (x / g.nppbh)
block_of g f y x hy hx =
    record {
      in_row = rw f.counts.down (part_lt g.nrows g.nppbv y f.sides.nppbv-pos hy);
      in_column = rw f.counts.across (part_lt g.ncols g.nppbh x f.sides.nppbh-pos hx);
    }

pub sample_of : (g : Grid) → Facts g → (b y x : ℕ) → b < g.bands → y < g.nrows → x < g.ncols
    → Sample g (y / g.nppbv) (x / g.nppbh) b (y % g.nppbv) (x % g.nppbh)
unfolding actual_rows actual_columns
sample_of g f b y x hb hy hx =
    record {
      block = block_of g f y x hy hx;
      in_b = hb;
      in_r = rest_lt g.nrows g.nppbv y f.sides.nppbv-pos hy;
      in_c = rest_lt g.ncols g.nppbh x f.sides.nppbh-pos hx;
    }

-- a sample of a block is the picture's number at the block's place
pub block-is-window : (g : Grid) (image : List ℕ) (row column b r c : ℕ) → r < actual_rows g row → c < actual_columns g column
    → picture_at g image b (row * g.nppbv + r) (column * g.nppbh + c) ≡ sample_at g image row column b r c
unfolding picture_at
block-is-window g image row column b r c hr hc =
    let r< : r < g.nppbv = omega (arith, rows-le g row) in
    let c< : c < g.nppbh = omega (arith, columns-le g column) in
    rw (digits_div row r<, digits_mod row r<, digits_div column c<, digits_mod column c<)

-- ---- question 10

pub record InPicture (g : Grid) (w : Window) : Type 0 where
  pub rows-pos : 0 < w.rows
  pub columns-pos : 0 < w.columns
  pub rows_end : w.row + w.rows ≤ g.nrows
  pub columns-end : w.column + w.columns ≤ g.ncols

pub q10-facts : (g : Grid) (w : Window) → q10 g w ≡ true → InPicture g w
unfolding q10
q10-facts g w e =
    let q = every-at _ e in
    record { rows-pos = leb-true 1 _ (q 0); columns-pos = leb-true 1 _ (q 1); rows_end = leb-true _ _ (q 2); columns-end = leb-true _ _ (q 3) }

-- ---- question 7

-- the window crosses the block of each of its places
crosses-at : (g : Grid) → Facts g → (w : Window) (r c : ℕ) → r < w.rows → c < w.columns
    → crosses g w ((w.row + r) / g.nppbv) ((w.column + c) / g.nppbh) ≡ true
unfolding crosses every
crosses-at g f w r c hr hc =
    let v : ℕ = g.nppbv in
    let h : ℕ = g.nppbh in
    let row : ℕ = (w.row + r) / v in
    let column : ℕ = (w.column + c) / h in
    simp (
      lt-ltb (row * v) (w.row + w.rows) (omega (arith, div-mul-le_self (w.row + r) v)),
      lt-ltb w.row ((row + 1) * v) (omega (arith, lt-div-mul-add {a = w.row + r} f.sides.nppbv-pos)),
      lt-ltb (column * h) (w.column + w.columns) (omega (arith, div-mul-le_self (w.column + c) h)),
      lt-ltb w.column ((column + 1) * h) (omega (arith, lt-div-mul-add {a = w.column + c} f.sides.nppbh-pos)),
    )

-- and it crosses none past that of its last place
crosses-le : (g : Grid) → Facts g → (w : Window) (row column : ℕ) → crosses g w row column ≡ true
    → (row ≤ (w.row + w.rows - 1) / g.nppbv) × (column ≤ (w.column + w.columns - 1) / g.nppbh)
unfolding crosses
crosses-le g f w row column e =
    let q = every-at _ e in
    let y : row * g.nppbv < w.row + w.rows = ltb-true _ _ (q 0) in
    let x : column * g.nppbh < w.column + w.columns = ltb-true _ _ (q 2) in
    ((le-div_iff_mul-le f.sides.nppbv-pos).1 (omega arith), (le-div_iff_mul-le f.sides.nppbh-pos).1 (omega arith))

-- n bytes that pass question 7 reach the end of the block of each place
pub q7-at : (g : Grid) → Facts g → (n : ℕ) (w : Window) → InPicture g w → q7_window g n w ≡ true → (r c : ℕ) → r < w.rows → c < w.columns
    → block_end g ((w.row + r) / g.nppbv) ((w.column + c) / g.nppbh) ≤ n
unfolding q7_window
q7-at g f n w p e r c hr hc =
    let t = block_of g f (w.row + r) (w.column + c) (omega arith) (omega arith) in
    leb-true _ _
    (imply (crosses g w ((w.row + r) / g.nppbv) ((w.column + c) / g.nppbh)) _
    (below_at g.nbpr _ (below_at g.nbpc _ e _ t.in_row) _ t.in_column)
    (crosses-at g f w r c hr hc))

-- question 7 is asked of the last block crossed alone
pub window-last : (g : Grid) → Accepted g → (n : ℕ) (w : Window) → q10 g w ≡ true
    → q7_window g n w ≡ leb (block_end g ((w.row + w.rows - 1) / g.nppbv) ((w.column + w.columns - 1) / g.nppbh)) n
unfolding q7_window
window-last g a n w e = both_yes (q7_window g n w) (leb (block_end g row' column') n) last each
  where
    f : Facts g
    f = facts g a

    p : InPicture g w
    p = q10-facts g w e

    row' : ℕ
    row' = (w.row + w.rows - 1) / g.nppbv

    column' : ℕ
    column' = (w.column + w.columns - 1) / g.nppbh

    last : q7_window g n w ≡ true → leb (block_end g row' column') n ≡ true
    last q =
        let i : w.row + (w.rows - 1) ≡ w.row + w.rows - 1 = omega (arith, p.rows-pos) in
        let j : w.column + (w.columns - 1) ≡ w.column + w.columns - 1 = omega (arith, p.columns-pos) in
        le-leb _ _ (rw (i, j) at (q7-at g f n w p q (w.rows - 1) (w.columns - 1) (omega (arith, p.rows-pos)) (omega (arith, p.columns-pos))))

    t : Block g row' column'
    t = block_of g f (w.row + w.rows - 1) (w.column + w.columns - 1) (omega (arith, p)) (omega (arith, p))

    each : leb (block_end g row' column') n ≡ true → q7_window g n w ≡ true
    each q =
        all-below g.nbpc _ (λ row hr. all-below g.nbpr _ (λ column hc.
        imply-yes (crosses g w row column) _ (λ x.
        let d = crosses-le g f w row column x in
        let k : row * g.nbpr ≤ row' * g.nbpr = mul-le-mul_right g.nbpr d.0 in
        let m : block_end g row column ≤ block_end g row' column'
        = end_mono g f row column row' column' (record { in_row = hr; in_column = hc }) t (omega (arith, d.1)) in
        le-leb (block_end g row column) n (omega (arith, leb-true (block_end g row' column') n q)))))

-- the whole image passes question 7
pub q7-whole : (g : Grid) → Facts g → (n : ℕ) (w : Window) → image_bytes g ≤ n → q7_window g n w ≡ true
unfolding q7_window
q7-whole g f n w h =
    all-below g.nbpc _ (λ row hr. all-below g.nbpr _ (λ column hc.
    imply-yes (crosses g w row column) _ (λ x.
    le-leb (block_end g row column) n (omega (arith, end_in g f row column (record { in_row = hr; in_column = hc }))))))

-- ---- question 8

-- ---- the bytes of an answer

pub bytes_of_ext : (s bands rows columns : ℕ) (f h : ℕ → ℕ → ℕ → ℕ) → 0 < rows → 0 < columns
    → ((k r c : ℕ) → k < bands → r < rows → c < columns → f k r c ≡ h k r c)
    → bytes_of s bands rows columns f ≡ bytes_of s bands rows columns h
unfolding bytes_of
bytes_of_ext s bands rows columns f h hr hc e =
    values_ext _ _ s (bands * rows * columns) (λ n l.
    e (n / columns / rows) (n / columns % rows) (n % columns)
    ((div-lt_iff_lt-mul hr).1 ((div-lt_iff_lt-mul hc).1 l)) (mod-lt (n / columns) hr) (mod-lt n hc))

pub length-bytes_of : (s bands rows columns : ℕ) (f : ℕ → ℕ → ℕ → ℕ) → length (bytes_of s bands rows columns f) ≡ bands * rows * columns * s
unfolding bytes_of
length-bytes_of s bands rows columns f = length-values _ s (bands * rows * columns)
