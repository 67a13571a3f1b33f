-- Laws of a loop: where it starts, a turn, and what it keeps.
-- Assumes nothing.
use Prim.Native.Nat.{ℕ, zero, suc, ◌+◌, ◌<◌}
use mathlib.Core.Path.{◌≡◌, refl, sym, ap, subst, ◌∙◌}
use native.Mathlib.Numerals.{add-one}
use native.Mathlib.Omega.{arith}
use Rattle.common.specs.Turns.{iter}

module _ {A : Type 0} (f : ℕ → A → A) (a : A) where
  pub iter-none : a ≡ iter 0 f a
  unfolding iter
  iter-none = refl

  pub iter_turn : (n : ℕ) {x y : A} → x ≡ iter n f a → y ≡ f n x → y ≡ iter (n + 1) f a
  unfolding iter
  iter_turn n e h = h ∙ ap (f n) e ∙ ap (λ (k : ℕ). iter k f a) (sym (add-one n))

-- what holds before the first turn and of each turn's outcome, where it held of the outcome before
pub iter_steps : {A : Type 0} (P : ℕ → A → Type 0) (n : ℕ) (f : ℕ → A → A) (a : A) → ((k : ℕ) → k < n → (x : A) → P k x → P (k + 1) (f k x)) → P 0 a
    → P n (iter n f a)
unfolding iter
iter_steps P zero f a s p = p
iter_steps P (suc n) f a s p =
    subst (λ (k : ℕ). P k (f n (iter n f a))) (add-one n) (s n (omega arith) (iter n f a) (iter_steps P n f a (λ k h. s k (omega arith)) p))

-- what every turn keeps
pub iter_keep : {A : Type 0} (P : A → Type 0) (n : ℕ) (f : ℕ → A → A) (a : A) → ((k : ℕ) → k < n → (x : A) → P x → P (f k x)) → P a
    → P (iter n f a)
iter_keep P n f a s p = iter_steps (λ k x. P x) n f a s p

-- turns that do the same
pub iter_ext : {A : Type 0} (n : ℕ) (f g : ℕ → A → A) (a : A) → ((k : ℕ) → k < n → (x : A) → f k x ≡ g k x) → iter n f a ≡ iter n g a
unfolding iter
iter_ext zero f g a h = refl
iter_ext (suc n) f g a h = h n (omega arith) (iter n f a) ∙ ap (g n) (iter_ext n f g a (λ k l. h k (omega arith)))
