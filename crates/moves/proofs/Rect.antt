-- Laws of a rectangle of an answer: some bands, rows and columns of an answer of so many rows and columns a band.
-- Assumes nothing.
use Prim.Native.Nat.{ℕ, ◌+◌, ◌*◌, ◌/◌, ◌%◌, ◌≤◌, ◌<◌}
use mathlib.Core.Path.{◌≡◌, refl, sym, ap, ◌∙◌}
use mathlib.Core.Bool.{Bool, true, false}
use mathlib.Core.List.{List, [], ◌∷◌}
use native.Mathlib.Omega.{arith}
use native.Mathlib.Nat.{div-add-mod'}
use lib.Arith.{digits_div, digits_mod}
use lib.Dec.{leb, ltb}
use borrow.Author.Tests.{ltb-true, leb-true, lt-ltb, le-leb}
use Rattle.common.specs.Tests.{every}
use Rattle.common.proofs.Tests.{every-at}
use Rattle.samples.specs.Internal.Patched.{patched}
use Rattle.samples.proofs.Patched.{patched-none}
use Rattle.moves.specs.declared.part.Part.{Part}
use Rattle.moves.specs.Internal.Parts.{band_of, row_of, column_of, in_part}

-- is sample n of the answer in the first `count` bands, in the `lines` rows from `row` on and in the `size` columns
-- from `column` on
unfoldable pub in_rect : (count row lines column size rows columns n : ℕ) → Bool
in_rect count row lines column size rows columns n =
    every
    (ltb (band_of rows columns n) count
    ∷ leb row (row_of rows columns n)
    ∷ ltb (row_of rows columns n) (row + lines)
    ∷ leb column (column_of columns n)
    ∷ ltb (column_of columns n) (column + size)
    ∷ [])

-- the same as facts of numbers
pub record Inside (count row lines column size rows columns n : ℕ) : Type 0 where
  pub band_lt : band_of rows columns n < count
  pub row_from : row ≤ row_of rows columns n
  pub row_to : row_of rows columns n < row + lines
  pub column-from : column ≤ column_of columns n
  pub column_to : column_of columns n < column + size

pub inside : (count row lines column size rows columns n : ℕ) → in_rect count row lines column size rows columns n ≡ true
    → Inside count row lines column size rows columns n
unfolding in_rect
inside count row lines column size rows columns n e =
    let q = every-at _ e in
    record {
      band_lt = ltb-true _ _ (q 0);
      row_from = leb-true _ _ (q 1);
      row_to = ltb-true _ _ (q 2);
      column-from = leb-true _ _ (q 3);
      column_to = ltb-true _ _ (q 4);
    }

pub within_rect : (count row lines column size rows columns n : ℕ) → Inside count row lines column size rows columns n
    → in_rect count row lines column size rows columns n ≡ true
unfolding in_rect every
within_rect count row lines column size rows columns n i =
    simp (
      lt-ltb _ _ i.band_lt,
      le-leb _ _ i.row_from,
      lt-ltb _ _ i.row_to,
      le-leb _ _ i.column-from,
      lt-ltb _ _ i.column_to,
    )

-- a part's test is that of its rectangle
pub rect_part : (p : Part) (count rows columns n : ℕ)
    → in_rect count p.to_row p.rows p.to_column p.columns rows columns n ≡ in_part p count rows columns n
unfolding in_rect in_part
rect_part p count rows columns n = refl

-- ---- the band, row and column of a sample

-- sample n, put together again
pub number-of : (rows columns n : ℕ) → n ≡ (band_of rows columns n * rows + row_of rows columns n) * columns + column_of
    columns n
number-of rows columns n =
    sym (ap (λ (x : ℕ). x * columns + n % columns) (div-add-mod' (n / columns) rows) ∙ div-add-mod' n columns)

pub record Digits (rows columns k y x n : ℕ) : Type 0 where
  pub band : band_of rows columns n ≡ k
  pub row : row_of rows columns n ≡ y
  pub column : column_of columns n ≡ x

pub digits_of : (rows columns k y x n : ℕ) → y < rows → x < columns → n ≡ (k * rows + y) * columns + x
    → Digits rows columns k y x n
digits_of rows columns k y x n hy hx e =
    let q : n / columns ≡ k * rows + y = ap (λ (z : ℕ). z / columns) e ∙ digits_div (k * rows + y) hx in
    record {
      band = ap (λ (z : ℕ). z / rows) q ∙ digits_div k hy;
      row = ap (λ (z : ℕ). z % rows) q ∙ digits_mod k hy;
      column = ap (λ (z : ℕ). z % columns) e ∙ digits_mod (k * rows + y) hx;
    }

pub outside : (count row lines column size rows columns n : ℕ) → (Inside count row lines column size rows columns n → ⊥)
    → in_rect count row lines column size rows columns n ≡ false
outside count row lines column size rows columns n never = go (in_rect count row lines column size rows columns n) refl
  where
    go : (b : Bool) → in_rect count row lines column size rows columns n ≡ b → b ≡ false
    go true e = absurd (never (inside count row lines column size rows columns n e))
    go false e = refl

-- no rows
pub no_rows : (s : ℕ) (v : ℕ → ℕ) (d : List ℕ) (count row column size rows columns : ℕ)
    → d ≡ patched s v (in_rect count row 0 column size rows columns) d
no_rows s v d count row column size rows columns =
    sym (patched-none s v _ d (λ n l. outside count row 0 column size rows columns n (λ i. omega arith)))
