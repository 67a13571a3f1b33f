-- Laws of questions: what an answer of 0 tells.
-- Assumes nothing.
use mathlib.Core.Path.{◌≡◌, refl, sym, ap, ◌∙◌}
use mathlib.Core.Bool.{Bool, true, false}
use Prim.Native.Nat.{ℕ, zero, suc, ◌<◌}
use native.Mathlib.Decide.{ℕ_discrete}
use native.Mathlib.Omega.{arith}
use Rattle.common.specs.Questions.{ask, outcome}

pub ask-yes : (n : ℕ) {b : Bool} (rest : ℕ) → b ≡ true → ask n b rest ≡ rest
ask-yes n rest e = rw e

pub ask-no : (n : ℕ) {b : Bool} (rest : ℕ) → b ≡ false → ask n b rest ≡ n
ask-no n rest e = rw e

-- 0 tells that the question was answered yes, and so were those after it
pub ask-inv : (n : ℕ) (b : Bool) (rest : ℕ) → 0 < n → ask n b rest ≡ 0 → (b ≡ true) × (rest ≡ 0)
ask-inv n true rest h e = (refl, e)
ask-inv n false rest h e = absurd (omega arith)

-- ---- a call's outcome

-- what is done with either outcome is done with both
pub outcome-map : {A B : Type 0} (f : A → B) (n : ℕ) (accepted : A) (refused : ℕ → A)
    → outcome n (f accepted) (λ k. f (refused k)) ≡ f (outcome n accepted refused)
unfolding outcome
outcome-map f zero accepted refused = refl
outcome-map f (suc n) accepted refused = refl

pub outcome-yes {ℓ} : {A : Type ℓ} {n : ℕ} (accepted : A) (refused : ℕ → A) → n ≡ 0 → outcome n accepted refused ≡ accepted
unfolding outcome
outcome-yes accepted refused e = rw e

pub outcome-no {ℓ} : {A : Type ℓ} (n : ℕ) (accepted : A) (refused : ℕ → A) → (n ≡ 0 → ⊥) → outcome n accepted refused ≡ refused n
unfolding outcome
outcome-no zero accepted refused ne = absurd (ne refl)
outcome-no (suc n) accepted refused ne = refl

-- where the answer has its own number, acceptance is known by it
pub outcome-zero {ℓ} : {A : Type ℓ} (n : ℕ) (accepted : A) (refused : ℕ → A) (number : A → ℕ)
    → ((k : ℕ) → number (refused k) ≡ k) → number (outcome n accepted refused) ≡ 0 → n ≡ 0
unfolding outcome
outcome-zero zero accepted refused number own e = refl
outcome-zero (suc n) accepted refused number own e = sym (own (suc n)) ∙ e

-- the same of a number that the code has as k
pub refused-by {ℓ} : {A : Type ℓ} {k n : ℕ} (accepted : A) (refused : ℕ → A) → k ≡ n → (k ≡ 0 → ⊥) → refused k ≡ outcome n accepted refused
refused-by {n = n} accepted refused e ne = ap refused e ∙ sym (outcome-no n accepted refused (λ z. ne (e ∙ z)))

-- ---- questions before others

-- questions before others, whose number by themselves the code has as k:
-- where one of them says no the others make no difference, else the others decide
pub record Before (asked : ℕ → ℕ) : Type 0 where
  pub refuses : {k : ℕ} → k ≡ asked 0 → (k ≡ 0 → ⊥) → (rest : ℕ) → k ≡ asked rest
  pub accepts : {k : ℕ} → k ≡ asked 0 → k ≡ 0 → (rest : ℕ) → asked rest ≡ rest

-- 0 tells that none of them says no, and none of the others
pub before-inv : (asked : ℕ → ℕ) → Before asked → (rest : ℕ) → asked rest ≡ 0 → rest ≡ 0
before-inv asked b rest e = go (ℕ_discrete (asked 0) 0)
  where
    go : Dec (asked 0 ≡ 0) → rest ≡ 0
    go (yes z) = sym (b.accepts refl z rest) ∙ e
    go (no ne) = absurd (ne (b.refuses refl ne rest ∙ e))

-- one question more
pub ask-before : (asked : ℕ → ℕ) (n : ℕ) (ok : Bool) → 0 < n → Before asked → Before (λ rest. asked (ask n ok rest))
ask-before asked n true h b = b
ask-before asked n false h b =
    record { refuses = λ e ne rest. e; accepts = λ e z rest. absurd (omega (arith, before-inv asked b n (sym e ∙ z))) }
