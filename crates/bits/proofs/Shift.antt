-- Shifts of a 64-bit number that lose nothing.
-- Assumes nothing.
use mathlib.Core.Path.{◌≡◌, ap, ◌∙◌}
use Prim.Native.Nat.{ℕ, ◌+◌, ◌*◌, ◌%◌, ◌^◌, ◌<◌, ◌≤◌}
use native.Mathlib.Nat.{one-mul}
use native.Mathlib.Omega.{arith}
use lib.Pow.{shl_exact}
use lib.Bits.{bit_or, or_shifted}

-- `1 << n`
pub one_shl : (n : ℕ) → n < 64 → 1 * 2 ^ n % 2 ^ 64 ≡ 2 ^ n
one_shl n h = shl_exact 1 n 64 (omega arith) (omega arith) ∙ one-mul (2 ^ n)

-- `(a << n) | b`, for an a of j bits and a b of n
pub shl_or : (a j n b : ℕ) → a < 2 ^ j → j + n ≤ 64 → b < 2 ^ n → bit_or (a * 2 ^ n % 2 ^ 64) b ≡ a * 2 ^ n + b
shl_or a j n b h l k = ap (λ (x : ℕ). bit_or x b) (shl_exact j n 64 h l) ∙ or_shifted a n b k
