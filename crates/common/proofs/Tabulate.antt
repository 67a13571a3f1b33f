-- Laws of a list by its elements.
-- Assumes nothing.
use mathlib.Core.Path.{◌≡◌, refl, sym, ◌∙◌}
use mathlib.Core.List.{List, [], ◌∷◌, ◌++◌}
use Prim.Native.Nat.{ℕ, zero, suc, ◌<◌}
use native.Mathlib.Numerals.{add-one}
use native.Mathlib.Decide.{ℕ_discrete}
use native.Mathlib.Omega.{arith}
use lib.ListN.{length, get_or, length-append, get_or-append}
use lib.Seq.{get_or_at}
use Rattle.std.proofs.lemmas.List.{ext_get_or}
use Rattle.common.specs.Lists.{tabulate}

pub length-tabulate : (n : ℕ) (f : ℕ → ℕ) → length (tabulate n f) ≡ n
unfolding tabulate
length-tabulate zero f = refl
length-tabulate (suc n) f = length-append (tabulate n f) (f n ∷ []) ∙ rw (length-tabulate n f) (add-one n)

pub get_d_tabulate : (n : ℕ) (f : ℕ → ℕ) (k : ℕ) → k < n → get_or (tabulate n f) k 0 ≡ f k
unfolding tabulate
get_d_tabulate zero f k h = absurd (omega arith)
get_d_tabulate (suc n) f k h = go (ℕ_discrete k n) (get_d_tabulate n f k)
  where
    go : Dec (k ≡ n) → (k < n → get_or (tabulate n f) k 0 ≡ f k) → get_or (tabulate n f ++ (f n ∷ [])) k 0 ≡ f k
    go (yes e) before = rw e (get_or_at (tabulate n f) (f n) [] 0 n (length-tabulate n f))
    go (no ne) before =
        let l : k < n = omega arith in
        get_or-append (tabulate n f) (f n ∷ []) 0 k (rw length-tabulate l) ∙ before l

-- a list that has these elements
pub tabulate_is : (n : ℕ) (f : ℕ → ℕ) (xs : List ℕ) → length xs ≡ n
    → ((k : ℕ) → k < n → get_or xs k 0 ≡ f k) → xs ≡ tabulate n f
tabulate_is n f xs l e =
    ext_get_or 0 xs (tabulate n f) (l ∙ sym (length-tabulate n f))
    (λ k h. let b : k < n = omega arith in e k b ∙ sym (get_d_tabulate n f k b))
