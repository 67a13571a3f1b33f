-- `mask::ImageDataMask::code_fits` meets its contract.
-- Assumes nothing.
use Rattle.std.proofs.Common.{◌≡◌, ℕ, ◌*◌, ◌^◌, ◌≤◌, ◌<◌, true, arith}
use native.Mathlib.Nat.{lt_of_lt_of_le}
use lib.Dec.{ltb}
use lib.Pow.{pow_mono}
use borrow.Author.Tests.{lt-ltb, le-leb}
use Rattle.mask.proofs.ImageDataMask.code_fits.Goals as goal

-- four bytes hold every code
wide : (x n : ℕ) → x < 2 ^ 32 → 4 ≤ n → ltb x (2 ^ (8 * n)) ≡ true
wide x n h l = lt-ltb x (2 ^ (8 * n)) (lt_of_lt_of_le h (pow_mono {i = 32} {j = 8 * n} (omega arith)))

pub returns-then-bytes-ge4 : goal.returns-then-bytes-ge4
returns-then-bytes-ge4 c =
    rw (
      le-leb 4 _ c.if-bytes-ge4.true,
      wide c.args.self.pad_pixel_code _ (omega arith) (rw c.code_bytes-bytes.ensures at c.if-bytes-ge4.true),
    )
