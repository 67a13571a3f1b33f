-- Laws of refusals: their numbers, and what a `?` that fails passes on.
-- Assumes nothing.
use mathlib.Core.Path.{◌≡◌, ◌∙◌}
use Prim.Native.Nat.{ℕ}
use native.Mathlib.Omega.{arith}
use Rattle.std.specs.Prelude.{Result, Err}
use Rattle.std.specs.Result.{IsErrAnd}
use Rattle.std.proofs.lemmas.Result.{err_from_is_err_and}
use Rattle.refusals.specs.declared.Refusal.{Refusal}
use Rattle.refusals.proofs.Numbers.{number-pos}
use Rattle.refusals.specs.Refusals.{number_of, answer_number}
use Rattle.common.specs.Questions.{outcome}
use Rattle.common.proofs.Questions.{Before, refused-by}

-- a refusal by the first questions is one by these and the rest
pub refused-first : {A : Type 0} (asked : ℕ → ℕ) → Before asked → (rest : ℕ)
    (r : Result A Refusal) (refusal : Refusal)
    → IsErrAnd r (λ e. e ≡ refusal) → number_of refusal ≡ asked 0 → answer_number r ≡ asked rest
refused-first asked b rest r refusal p e =
    let q = err_from_is_err_and r p in
    rw (q.1, q.2) (b.refuses e (λ z. omega (arith, number-pos refusal)) rest)

-- what C is answered for a refusal is the outcome
pub refused-outcome : {A B : Type 0} (answered : Result A Refusal → B) (accepted : B) (refused : ℕ → B)
    → ((refusal : Refusal) → answered (Err refusal) ≡ refused (number_of refusal))
    → {n : ℕ} (r : Result A Refusal) (refusal : Refusal)
    → IsErrAnd r (λ e. e ≡ refusal) → number_of refusal ≡ n
    → answered r ≡ outcome n accepted refused
refused-outcome answered accepted refused own r refusal p e =
    let q = err_from_is_err_and r p in
    rw (q.1, q.2) (own refusal ∙ refused-by accepted refused e (λ z. omega (arith, number-pos refusal)))
