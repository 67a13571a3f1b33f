-- The widths of question 2: past the table, and of a width that is taken.
-- Assumes nothing.
use mathlib.Core.Path.{◌≡◌, refl, sym, ◌∙◌}
use mathlib.Core.Bool.{Bool, true, false}
use Prim.Native.Nat.{ℕ, zero, suc, ◌*◌, ◌≤◌, ◌<◌}
use native.Mathlib.Omega.{arith}
use native.Mathlib.Decide.{dec_lt}
use borrow.Author.Tests.{lt-leb, le-leb, ne_eqb}
use Rattle.common.specs.Tests.{some, within, every, pick}
use Rattle.widths.specs.Widths.{width_taken, width_bytes}
use Rattle.common.specs.Rounding.{ceil_div}
use Rattle.common.proofs.Tests.{true_false}

within-past : (lo hi x : ℕ) → hi < x → within lo hi x ≡ false
unfolding within every
within-past lo hi x h = go (dec_lt x lo)
  where
    go : Dec (x < lo) → within lo hi x ≡ false
    go (yes l) = simp (lt-leb lo x l)
    go (no l) = simp (le-leb lo x (omega arith), lt-leb x hi h)

-- past 56 only 64 is taken
past_56 : (n : ℕ) → 57 ≤ n → (n ≡ 64 → ⊥) → width_taken n ≡ false
unfolding width_taken some
past_56 n h ne =
    simp (
      within-past 1 16 n (omega arith),
      within-past 24 32 n (omega arith),
      ne_eqb n 40 (λ e. omega arith),
      ne_eqb n 48 (λ e. omega arith),
      ne_eqb n 56 (λ e. omega arith),
      ne_eqb n 64 ne,
    )

pub past : (n : ℕ) → 65 ≤ n → width_taken n ≡ false
past n h = past_56 n (omega arith) (λ e. omega arith)

zero-refused : width_taken 0 ≡ false
unfolding width_taken some within every
zero-refused = refl

pub taken-pos : (n : ℕ) → width_taken n ≡ true → 0 < n
taken-pos zero e = true_false (sym e ∙ zero-refused)
taken-pos (suc n) e = omega arith

pub taken-top : (n : ℕ) → width_taken n ≡ true → n ≤ 64
taken-top n e = go (dec_lt n 65)
  where
    go : Dec (n < 65) → n ≤ 64
    go (yes h) = omega arith
    go (no h) = true_false (sym e ∙ past n (omega arith))

-- a width that fills no whole bytes is narrow enough for eight bytes at any bit
pub narrow : (n : ℕ) → width_taken n ≡ true → n < 8 * ceil_div n 8 → n ≤ 57
narrow n e h = go (dec_lt n 58)
  where
    go : Dec (n < 58) → n ≤ 57
    go (yes l) = omega arith
    go (no l) = true_false (sym e ∙ past_56 n (omega arith) (λ q. omega arith))

-- the table says 0 exactly where the width is refused
pub refused : (n : ℕ) → width_bytes n ≡ 0 → width_taken n ≡ false
unfolding width_bytes pick
refused n e = go (width_taken n) refl e
  where
    go : (b : Bool) → width_taken n ≡ b → pick b (ceil_div n 8) 0 ≡ 0 → b ≡ false
    go false p q = refl
    go true p q = absurd (let h : 0 < n = taken-pos n p in omega arith)

pub taken : (n : ℕ) → (width_bytes n ≡ 0 → ⊥) → width_taken n ≡ true
unfolding width_bytes pick
taken n e = go (width_taken n) e
  where
    go : (b : Bool) → (pick b (ceil_div n 8) 0 ≡ 0 → ⊥) → b ≡ true
    go false q = absurd (q refl)
    go true q = refl
