-- What question 26 tells of the data of a write.
-- Assumes nothing.
use Prim.Native.Nat.{ℕ, ◌*◌, ◌/◌, ◌%◌, ◌^◌, ◌<◌}
use mathlib.Core.Path.{◌≡◌, subst}
use mathlib.Core.Bool.{true}
use mathlib.Core.List.{List}
use native.Mathlib.Omega.{arith}
use borrow.Author.Tests.{eqb-true, ltb-true, lt-ltb}
use lib.ListN.{length}
use Rattle.bits.specs.Bits.{be_at, Bytes}
use Rattle.bits.proofs.BigEndian.{be_at_lt}
use Rattle.common.proofs.Tests.{below_at, all-below}
use Rattle.grid.specs.declared.Grid.{Grid}
use Rattle.grid.specs.Sizes.{sample_bytes, byte_multiple}
use Rattle.calls.specs.Orders.{q26}

-- each sample is below 2 to the NBPP
pub fit_at : (g : Grid) (dat : List ℕ) → q26 g dat ≡ true → (k : ℕ) → k < length dat / sample_bytes g
    → be_at dat (k * sample_bytes g) (sample_bytes g) < 2 ^ g.nbpp
unfolding q26
fit_at g dat e k h = ltb-true _ _ (below_at _ _ e k h)

-- byte multiples never give 26
pub whole-fits : (g : Grid) (dat : List ℕ) → Bytes dat → byte_multiple g ≡ true → q26 g dat ≡ true
unfolding q26
whole-fits g dat b e =
    let whole : 8 * sample_bytes g ≡ g.nbpp = omega (arith, eqb-true (g.nbpp % 8) 0 e) in
    all-below _ _ (λ k h.
    lt-ltb _ _ (subst (λ (x : ℕ). be_at dat (k * sample_bytes g) (sample_bytes g) < 2 ^ x) whole (be_at_lt dat (k * sample_bytes g) (sample_bytes g) b)))
