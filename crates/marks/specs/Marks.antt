-- Marks in lent 64-bit words: block i is bit i mod 64, lowest first, of word i / 64.
-- Assumes nothing.
use Rattle.std.specs.Prelude.{ℕ, zero, suc, ◌+◌, ◌*◌, ◌/◌, ◌%◌, ◌<◌, ◌≡◌, Bool, true, false, List, Option, Some, None, leb, eqb, get_or, set}
use Rattle.bits.specs.Bits.{bit_of, with_bit}
use Rattle.common.specs.Tests.{pick}
use Rattle.common.specs.Rounding.{ceil_div}

-- the words that hold n marks
abbrev pub mark_words : ℕ → ℕ
mark_words n = ceil_div n 64

-- question 12: are there words for n marks
unfoldable pub q12 : ℕ → ℕ → Bool
q12 n words = leb (mark_words n) words

-- is mark i one
unfoldable pub marked : List ℕ → ℕ → Bool
marked ms i = eqb (bit_of (get_or ms (i / 64) 0) (i % 64)) 1

-- are the first n marks one
abbrev pub AllMarked : List ℕ → ℕ → Type 0
AllMarked ms n = (i : ℕ) → i < n → marked ms i ≡ true

-- the words with mark i set
unfoldable pub mark : List ℕ → ℕ → List ℕ
mark ms i = set ms (i / 64) (with_bit (get_or ms (i / 64) 0) (i % 64) 1)

abbrev pub one_if : Bool → ℕ
one_if true = 1
one_if false = 0

-- how many of the first n pass the test
unfoldable pub count : ℕ → (ℕ → Bool) → ℕ
count zero f = 0
count (suc n) f = count n f + one_if (f n)

-- the first of k blocks from index i on that does not pass the test, in a grid that is `across` blocks wide.
-- An index is block row × `across` + block column, so the first by index is the first by rows, then columns
unfoldable pub first_from : (ℕ → Bool) → ℕ → ℕ → ℕ → Option (ℕ × ℕ)
first_from f across zero i = None
first_from f across (suc k) i = pick (f i) (first_from f across k (suc i)) (Some (i / across, i % across))

-- the first block of a grid that does not pass the test, by rows, then columns
abbrev pub first_not : (ℕ → Bool) → ℕ → ℕ → Option (ℕ × ℕ)
first_not f across down = first_from f across (down * across) 0

-- document 01's number and values for each answer: question 15, and the block's row and column
abbrev pub unmarked_number : Option (ℕ × ℕ) → ℕ
unmarked_number None = 0
unmarked_number (Some block) = 15

abbrev pub unmarked_row : Option (ℕ × ℕ) → ℕ
unmarked_row None = 0
unmarked_row (Some block) = block.0

abbrev pub unmarked_column : Option (ℕ × ℕ) → ℕ
unmarked_column None = 0
unmarked_column (Some block) = block.1
