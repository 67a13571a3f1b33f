-- Numbers in decimal digits, the bytes 0x30 to 0x39, high digit first.
-- Assumes nothing.
use Rattle.std.specs.Prelude.{ℕ, zero, suc, ◌+◌, ◌-◌, ◌*◌, ◌/◌, ◌%◌, ◌^◌, ◌<◌, ◌≡◌, Bool, true, List, [], ◌∷◌, ◌++◌, length}
use Rattle.common.specs.Tests.{every, within}

-- is a byte a digit
abbrev pub is_digit : ℕ → Bool
is_digit x = within 0x30 0x39 x

-- are all bytes digits
unfoldable pub are_digits : List ℕ → Bool
are_digits [] = true
are_digits (x ∷ xs) = every (is_digit x ∷ are_digits xs ∷ [])

-- the number n with the digits of the list after its own
unfoldable pub with_digits : ℕ → List ℕ → ℕ
with_digits n [] = n
with_digits n (x ∷ xs) = with_digits (n * 10 + (x - 0x30)) xs

-- the number that digits give
abbrev pub number_of : List ℕ → ℕ
number_of xs = with_digits 0 xs

-- the low digits of a number, so many of them
unfoldable pub digit_bytes : ℕ → ℕ → List ℕ
digit_bytes zero n = []
digit_bytes (suc size) n = digit_bytes size (n / 10) ++ ((0x30 + n % 10) ∷ [])

-- a number that fits so many digits is written in just so many, all digits, and comes back from them
abbrev pub DigitsComeBack : Type 0
DigitsComeBack =
    (size n : ℕ) → n < 10 ^ size
    → (length (digit_bytes size n) ≡ size) × (are_digits (digit_bytes size n) ≡ true) × (number_of (digit_bytes size n) ≡ n)
