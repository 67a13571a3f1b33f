-- What is read from a table and counted fits its type.
-- Assumes nothing.
use mathlib.Core.Path.{◌≡◌}
use mathlib.Core.List.{List}
use Prim.Native.Nat.{ℕ, ◌+◌, ◌*◌, ◌^◌, ◌≤◌, ◌<◌}
use native.Mathlib.Nat.{lt_of_lt_of_le}
use native.Mathlib.Omega.{arith}
use lib.Pow.{pow_mono}
use Rattle.common.proofs.Arith.{prod_le}
use Rattle.bits.specs.Bits.{Bytes, be_at}
use Rattle.bits.proofs.BigEndian.{be_at_lt}
use Rattle.grid.specs.declared.Grid.{Grid}
use Rattle.grid.specs.Check.{Accepted}
use Rattle.mask.specs.Table.{records}
use Rattle.mask.proofs.Records.{records-le}

pub read_lt : (xs : List ℕ) (p s : ℕ) {r : ℕ} → Bytes xs → r ≡ be_at xs p s → r < 2 ^ (8 * s)
read_lt xs p s b e = rw e (be_at_lt xs p s b)

-- a pad code
pub code_lt : (xs : List ℕ) (s : ℕ) {r : ℕ} → Bytes xs → s ≤ 4 → r ≡ be_at xs 10 s → r < 2 ^ 32
code_lt xs s b h e = lt_of_lt_of_le (read_lt xs 10 s b e) (pow_mono {i = 8 * s} {j = 32} (omega arith))

-- the records' bytes, for record lengths of 16 bits each
pub record_bytes-le : (g : Grid) (r b p : ℕ) → Accepted g → r ≡ records g → b ≤ 65_535 → p ≤ 65_535
    → r * (b + p) ≤ 9_997_900_119_999 * 131_070
record_bytes-le g r b p a e hb hp = prod_le r (b + p) 9_997_900_119_999 131_070 (rw e (records-le g a)) (omega arith)
