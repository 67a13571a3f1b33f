-- The constant's entries follow the rule.
-- Assumes nothing.
use mathlib.Core.Path.{◌≡◌, refl}
use mathlib.Core.List.{List, [], ◌∷◌}
use mathlib.Core.Bool.{Bool}
use Prim.Native.Nat.{ℕ, ◌<◌}
use lib.Dec.{eqb, ltb, eqb→eq}
use lib.ListN.{get_or}
use Rattle.common.specs.Lists.{tabulate}
use Rattle.common.specs.Tests.{pick, within, every, some}
use Rattle.common.proofs.Tabulate.{tabulate_is}
use Rattle.widths.specs.Widths.{width_taken, width_bytes}
use Rattle.widths.proofs.Table.{at}

unfoldable pub constant : List ℕ
constant = 0 ∷ 1 ∷ 1 ∷ 1 ∷ 1 ∷ 1 ∷ 1 ∷ 1 ∷ 1 ∷ 2 ∷ 2 ∷ 2 ∷ 2 ∷ 2 ∷ 2 ∷ 2 ∷ 2 ∷ 0 ∷ 0 ∷ 0 ∷ 0 ∷ 0 ∷ 0 ∷ 0 ∷ 3 ∷ 4 ∷ 4 ∷ 4 ∷ 4 ∷ 4 ∷ 4 ∷ 4 ∷ 4 ∷ 0 ∷ 0 ∷ 0 ∷ 0 ∷ 0 ∷ 0 ∷ 0 ∷ 5 ∷ 0 ∷ 0 ∷ 0 ∷ 0 ∷ 0 ∷ 0 ∷ 0 ∷ 6 ∷ 0 ∷ 0 ∷ 0 ∷ 0 ∷ 0 ∷ 0 ∷ 0 ∷ 7 ∷ 0 ∷ 0 ∷ 0 ∷ 0 ∷ 0 ∷ 0 ∷ 0 ∷ 8 ∷ []

-- the test of an entry, and that it is small
right : ℕ → ℕ → Bool
right k x = eqb x (width_bytes k)

unfoldable pub small : ℕ → ℕ → Bool
small k x = ltb x 9

pub constant-at : (n : ℕ) → n < 65 → get_or constant n 0 ≡ width_bytes n
unfolding constant right width_bytes width_taken pick some within every
constant-at n h = eqb→eq (get_or constant n 0) (width_bytes n) (at right constant tt n h)

pub constant_is : constant ≡ tabulate 65 width_bytes
unfolding constant
constant_is = tabulate_is 65 width_bytes constant refl (λ k h. constant-at k h)
