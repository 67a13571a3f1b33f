-- Tests, and a choice by a test.
-- Assumes nothing.
use Rattle.std.specs.Prelude.{ℕ, zero, suc, Bool, true, false, List, [], ◌∷◌, leb}

-- are all of them so
unfoldable pub every : List Bool → Bool
every [] = true
every (true ∷ bs) = every bs
every (false ∷ bs) = false

-- is one of them so
unfoldable pub some : List Bool → Bool
some [] = false
some (true ∷ bs) = true
some (false ∷ bs) = some bs

-- is x from lo to hi
unfoldable pub within : ℕ → ℕ → ℕ → Bool
within lo hi x = every (leb lo x ∷ leb x hi ∷ [])

-- do all below n pass the test
unfoldable pub all_below : ℕ → (ℕ → Bool) → Bool
all_below zero f = true
all_below (suc n) f = every (all_below n f ∷ f n ∷ [])

-- the first where the test is true, else the second
unfoldable pub pick {ℓ} : {A : Type ℓ} → Bool → A → A → A
pick true a b = a
pick false a b = b
