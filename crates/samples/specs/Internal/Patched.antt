-- A list some of whose samples are replaced, each told by its number: how a contract gives a whole buffer that is
-- filled out of order.
-- Assumes nothing.
use Rattle.std.specs.Prelude.{Bool, List, ℕ, ◌/◌, ◌%◌, length, get_or}
use Rattle.bits.specs.Bits.{be_bytes}
use Rattle.common.specs.Lists.{tabulate}
use Rattle.common.specs.Tests.{pick}

-- d with v n in s big-endian bytes for each sample n that passes the test; samples are counted from the first byte on
unfoldable pub patched : ℕ → (ℕ → ℕ) → (ℕ → Bool) → List ℕ → List ℕ
patched s v test d =
    tabulate (length d) (λ i. pick (test (i / s)) (get_or (be_bytes s (v (i / s))) (i % s) 0) (get_or d i 0))
