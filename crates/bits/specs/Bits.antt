-- Numbers in bytes, high bit first. Bit p of a list of bytes is bit 7 - p % 8 of byte p / 8, where bit 0 of a number is
-- its lowest.
-- Assumes nothing.
use Rattle.std.specs.Prelude.{List, [], ◌∷◌, ◌++◌, ℕ, zero, suc, ◌+◌, ◌-◌, ◌*◌, ◌/◌, ◌%◌, ◌^◌, ◌<◌, get_or, set}

-- bit k of a number, the lowest being bit 0
abbrev pub bit_of : ℕ → ℕ → ℕ
bit_of x k = x / 2 ^ k % 2

-- the number x with v for its bit k
unfoldable pub with_bit : ℕ → ℕ → ℕ → ℕ
with_bit x k v = (x / 2 ^ suc k * 2 + v) * 2 ^ k + x % 2 ^ k

-- the number x with v for its n bits from bit k up
unfoldable pub with_field : ℕ → ℕ → ℕ → ℕ → ℕ
with_field x k n v = (x / 2 ^ (k + n) * 2 ^ n + v) * 2 ^ k + x % 2 ^ k

-- bit p of the bytes xs, high bit first
unfoldable pub bit_at : List ℕ → ℕ → ℕ
bit_at xs p = bit_of (get_or xs (p / 8) 0) (7 - p % 8)

-- the number in the n bits of xs from bit p on, high bit first
unfoldable pub bits_at : List ℕ → ℕ → ℕ → ℕ
bits_at xs p zero = 0
bits_at xs p (suc n) = bits_at xs p n * 2 + bit_at xs (p + n)

-- the bytes xs with v for bit p
unfoldable pub set_bit : List ℕ → ℕ → ℕ → List ℕ
set_bit xs p v = set xs (p / 8) (with_bit (get_or xs (p / 8) 0) (7 - p % 8) v)

-- the bytes xs with the n low bits of v in their n bits from bit p on, high bit first
unfoldable pub put_bits : List ℕ → ℕ → ℕ → ℕ → List ℕ
put_bits xs p zero v = xs
put_bits xs p (suc n) v = set_bit (put_bits xs p n (v / 2)) (p + n) (v % 2)

-- the big-endian number in the s bytes of xs from index k on
unfoldable pub be_at : List ℕ → ℕ → ℕ → ℕ
be_at xs k zero = 0
be_at xs k (suc s) = be_at xs k s * 256 + get_or xs (k + s) 0

-- the s low bytes of v, high byte first
unfoldable pub be_bytes : ℕ → ℕ → List ℕ
be_bytes zero v = []
be_bytes (suc s) v = be_bytes s (v / 256) ++ (v % 256 ∷ [])

-- every element is a byte
abbrev pub Bytes : List ℕ → Type 0
Bytes xs = (i : ℕ) → get_or xs i 0 < 256
