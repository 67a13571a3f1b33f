-- Numbers side by side, each in its big-endian bytes.
-- Assumes nothing.
use Rattle.std.specs.Prelude.{List, [], ◌++◌, ℕ, zero, suc, ◌+◌, ◌*◌}
use Rattle.bits.specs.Bits.{be_at, be_bytes}

-- v 0, v 1, up to v (n - 1), in s big-endian bytes each
unfoldable pub values : (ℕ → ℕ) → ℕ → ℕ → List ℕ
values v s zero = []
values v s (suc n) = values v s n ++ be_bytes s (v n)

-- number k of those of s bytes each that stand side by side from index `from` of xs on
unfoldable pub side_by_side : List ℕ → ℕ → ℕ → ℕ → ℕ
side_by_side xs from s k = be_at xs (from + k * s) s
