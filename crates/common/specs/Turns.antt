-- A loop of so many turns, each of which knows its number.
-- Assumes nothing.
use Rattle.std.specs.Prelude.{ℕ, zero, suc}

-- n turns of a loop
unfoldable pub iter {ℓ} : {A : Type ℓ} → ℕ → (ℕ → A → A) → A → A
iter zero f a = a
iter (suc n) f a = f n (iter n f a)
