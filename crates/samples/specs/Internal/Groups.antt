-- Samples side by side as one number.
-- Assumes nothing.
use Rattle.std.specs.Prelude.{ℕ, zero, suc, ◌+◌, ◌*◌, ◌%◌, ◌^◌}

-- the low w bits of v 0, v 1, up to v (n - 1), one after the other, as one number
unfoldable pub joined : (ℕ → ℕ) → ℕ → ℕ → ℕ
joined v w zero = 0
joined v w (suc n) = joined v w n * 2 ^ w + v n % 2 ^ w
