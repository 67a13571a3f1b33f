-- Laws of the records of a table: how many there are, which one lookup takes, and whose the filled ones are.
-- Assumes nothing.
use mathlib.Core.Path.{◌≡◌, refl}
use mathlib.Core.Bool.{Bool, true, false}
use Prim.Native.Nat.{ℕ, ◌*◌, ◌/◌, ◌≤◌, ◌<◌}
use native.Mathlib.Nat.{div-lt_iff_lt-mul, mul-le-mul_left}
use native.Mathlib.Omega.{arith}
use lib.Arith.{digits_lt}
use Rattle.common.specs.Tests.{pick}
use Rattle.layout.specs.Order.{bands_apart}
use Rattle.grid.specs.declared.Grid.{Grid}
use Rattle.grid.specs.Check.{Accepted}
use Rattle.grid.specs.Sizes.{blocks, block_index}
use Rattle.grid.specs.Layout.{Block}
use Rattle.grid.proofs.Accepted.{facts, index_lt}
use Rattle.mask.specs.Table.{records, lookup_record, filled_block}

pub records-le : (g : Grid) → Accepted g → records g ≤ 9_997_900_119_999
unfolding records pick
records-le g a = go (bands_apart g.imode)
  where
    go : (apart : Bool) → pick apart (blocks g * g.bands) (blocks g) ≤ 9_997_900_119_999
    go true = (facts g a).slots_le
    go false = omega (arith, (facts g a).blocks-le)

-- lookup takes a record that the table has
pub lookup_lt : (g : Grid) (row column band : ℕ) → Block g row column → band < g.bands
    → lookup_record g row column band < records g
unfolding records lookup_record pick
lookup_lt g row column band b h = go (bands_apart g.imode) refl
  where
    go : (apart : Bool) → bands_apart g.imode ≡ apart → lookup_record g row column band < records g
    go true e =
        let i : ℕ = block_index g row column in
        let l : i < blocks g = index_lt g row column b in
        let one : 1 ≤ g.bands = omega arith in
        rw e (omega (arith, mul-le-mul_left i one, digits_lt {q = i} {m = blocks g} {r = band} {c = g.bands} l h))
    go false e = rw e (index_lt g row column b)

-- the block whose record is filled is one of the grid's
pub filled_lt : (g : Grid) (k : ℕ) → Accepted g → k < records g → filled_block g k < blocks g
unfolding records filled_block pick
filled_lt g k a h = go (bands_apart g.imode) h
  where
    go : (apart : Bool) → k < pick apart (blocks g * g.bands) (blocks g) → pick apart (k / g.bands) k < blocks g
    go true l = (div-lt_iff_lt-mul {k = g.bands} {x = k} {y = blocks g} (facts g a).sides.bands-pos).1 l
    go false l = l
