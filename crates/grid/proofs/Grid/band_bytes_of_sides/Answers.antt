-- `grid::Grid::band_bytes_of_sides` meets its contract.
-- Assumes nothing.
use mathlib.Core.Path.{refl}
use native.Mathlib.Omega.{arith}
use Prim.Native.Nat.{◌*◌, ◌≤◌}
use Rattle.grid.specs.Sizes.{band_bytes}
use Rattle.grid.specs.declared.Grid.{Grid}
use Rattle.common.proofs.Arith.{prod_le}
use Rattle.grid.proofs.Accepted.{Sized, sized}
use Rattle.grid.proofs.Grid.band_bytes_of_sides.Goals as goal

whole : (g : Grid) → Sized g → g.nppbh * g.nppbv * g.nbpp ≤ 99_999_999 * 99_999_999 * 64
whole g s = prod_le _ _ _ _ (prod_le _ _ _ _ s.nppbh-le s.nppbv-le) s.nbpp-le

pub overflow_mul-result-2 : goal.overflow_mul-result-2
overflow_mul-result-2 c = omega (arith, whole c.args.self (sized c.args.self c.requires.0 c.requires.1))

pub overflow_add-result : goal.overflow_add-result
overflow_add-result c = omega (arith, whole c.args.self (sized c.args.self c.requires.0 c.requires.1))

pub returns : goal.returns
unfolding band_bytes
returns c = refl
