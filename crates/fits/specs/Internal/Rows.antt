-- The first bytes of samples, in rows of 128 bytes, four of which are compared at once.
-- Assumes nothing.
use Rattle.std.specs.Prelude.{List, Bool, ℕ, ◌+◌, ◌*◌, ◌/◌, max, ltb, length, get_or}
use Rattle.common.specs.Tests.{all_below}

-- are the first bytes of the whole samples of `size` bytes in xs below the limit
unfoldable pub first_bytes_below : List ℕ → ℕ → ℕ → Bool
first_bytes_below xs size limit = all_below (length xs / size) (λ k. ltb (get_or xs (k * size) 0) limit)

-- the greatest byte at place j of the four rows of xs
unfoldable pub greatest_of_four : List ℕ → ℕ → ℕ
greatest_of_four xs j =
    max (max (get_or xs j 0) (get_or xs (128 + j) 0)) (max (get_or xs (256 + j) 0) (get_or xs (384 + j) 0))
