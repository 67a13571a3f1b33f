-- Questions before work: each "no" gives its number, in the order listed for the call; 0 is acceptance.
-- Assumes nothing.
use Rattle.std.specs.Prelude.{ℕ, zero, suc, Bool, true, false}

-- question n, answered by ok; where that is yes, the questions after it
abbrev pub ask : ℕ → Bool → ℕ → ℕ
ask n true rest = rest
ask n false rest = n

-- what a call gives, by its number: the first where it is accepted, else what the second gives for the number
unfoldable pub outcome {ℓ} : {A : Type ℓ} → ℕ → A → (ℕ → A) → A
outcome zero accepted refused = accepted
outcome (suc n) accepted refused = refused (suc n)
