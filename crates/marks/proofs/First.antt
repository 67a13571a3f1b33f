-- The search for the first block that does not pass: where it starts, a step, and its two ends.
-- Assumes nothing.
use mathlib.Core.Path.{◌≡◌, sym, ap, ap₂, ◌∙◌}
use mathlib.Core.Bool.{Bool, true, false}
use Prim.Native.Nat.{ℕ, zero, suc, ◌+◌, ◌-◌, ◌*◌, ◌/◌, ◌≤◌, ◌<◌}
use native.Mathlib.Nat.{sub-zero, suc-mul, div-mul-le_self, div-lt_iff_lt-mul}
use native.Mathlib.Numerals.{add-one}
use native.Mathlib.Omega.{arith}
use lib.Arith.{digits_div, digits_mod}
use Rattle.std.specs.Prelude.{Some, None}
use Rattle.marks.specs.Marks.{first_from, first_not}
use Rattle.marks.proofs.Marks.{passed, failed}

-- the search has come to index i, and all before pass
abbrev pub At : (ℕ → Bool) → ℕ → ℕ → ℕ → Type 0
At f across down i = first_from f across (down * across - i) i ≡ first_not f across down

-- at a block of the grid, one step more is left than after it
left : (f : ℕ → Bool) (across down i : ℕ) → i < down * across → At f across down i → first_from f across (suc (down * across - (i + 1))) i ≡ first_not f across down
left f across down i l a =
    let e : suc (down * across - (i + 1)) ≡ down * across - i = omega arith in
    ap (λ (k : ℕ). first_from f across k i) e ∙ a

pub passes : (f : ℕ → Bool) (across down i : ℕ) → i < down * across → f i ≡ true → At f across down i → At f across down (i + 1)
passes f across down i l p a =
    ap (first_from f across (down * across - (i + 1))) (add-one i)
    ∙ sym (passed f across (down * across - (i + 1)) i p)
    ∙ left f across down i l a

-- the search may begin at an index before which all pass
pub reaches : (f : ℕ → Bool) (across down i : ℕ) → i ≤ down * across → ((j : ℕ) → j < i → f j ≡ true) → At f across down i
reaches f across down zero l h = rw sub-zero
reaches f across down (suc i) l h =
    rw (add-one i) at (passes f across down i (omega arith) (h i (omega arith)) (reaches f across down i (omega arith) (λ j k. h j (omega arith))))

-- a row before which there are at most as many blocks as were passed
pub record RowOf (passed across down : ℕ) : Type 0 where
  pub in_grid : passed / across ≤ down
  pub before : passed / across * across ≤ passed

pub row_of : (passed across down : ℕ) → 0 < across → passed ≤ down * across → RowOf passed across down
row_of passed across down h l =
    let k : passed / across < suc down = (div-lt_iff_lt-mul {k = across} {x = passed} {y = suc down} h).1 (omega (arith, suc-mul down across)) in
    record { in_grid = omega arith; before = div-mul-le_self passed across }

pub stops : (f : ℕ → Bool) (across down row column : ℕ) → row * across + column < down * across → column < across
    → f (row * across + column) ≡ false → At f across down (row * across + column) → Some (row, column) ≡ first_not f across down
stops f across down row column l k p a =
    let i : ℕ = row * across + column in
    ap₂ (λ (r c : ℕ). Some (r, c)) (sym (digits_div row k)) (sym (digits_mod row k))
    ∙ sym (failed f across (down * across - (i + 1)) i p)
    ∙ left f across down i l a

pub ends : (f : ℕ → Bool) (across down : ℕ) → At f across down (down * across) → None ≡ first_not f across down
unfolding first_from
ends f across down a =
    let e : 0 ≡ down * across - down * across = omega arith in
    ap (λ (k : ℕ). first_from f across k (down * across)) e ∙ a
