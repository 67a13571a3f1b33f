-- What `all` answers of a list, as a test of its places.
-- Assumes nothing.
use Rattle.std.proofs.Common.{◌≡◌, ℕ, ◌<◌, ◌≤◌, Bool, true, false, List, length, get_or, sym, arith}
use Rattle.std.specs.List.{AllWithin, HoldsAt}
use Rattle.std.specs.Bool.{MatchBool}
use borrow.Author.Tests.{lt-ltb, le-ltb}
use lib.Dec.{ltb}
use Rattle.common.specs.Tests.{all_below}
use Rattle.common.proofs.Tests.{all-below, below_fails}

pub below-from_all : (b : Bool) (xs : List ℕ) (m : ℕ)
    → MatchBool b (AllWithin (λ x. x < m) xs 0 (length xs)) ((k : ℕ) × (k < length xs) × HoldsAt (λ x. m ≤ x) xs k)
    → b ≡ all_below (length xs) (λ k. ltb (get_or xs k 0) m)
below-from_all true xs m h = sym (all-below (length xs) _ (λ k l. lt-ltb _ _ (h k 0 (omega arith) l)))
below-from_all false xs m h = sym (below_fails (length xs) _ h.0 h.1 (le-ltb _ _ (h.2 0)))
