-- Question 2: the widths that are taken, the bytes of a sample, and the table that a call is handed.
-- Assumes nothing.
use Rattle.std.specs.Prelude.{ℕ, ◌≡◌, Bool, true, not, List, [], ◌∷◌, eqb, get_or}
use Rattle.common.specs.Lists.{tabulate}
use Rattle.common.specs.Rounding.{ceil_div}
use Rattle.common.specs.Tests.{within, some, every, pick}
use Rattle.widths.specs.declared.Widths.{Widths}

-- NBPP is 1 to 16, 24 to 32, 40, 48, 56 or 64
unfoldable pub width_taken : ℕ → Bool
width_taken n = some (within 1 16 n ∷ within 24 32 n ∷ eqb n 40 ∷ eqb n 48 ∷ eqb n 56 ∷ eqb n 64 ∷ [])

-- the constant, document 01's table: bytes of a sample of n bits, zero where the width is refused
unfoldable pub width_bytes : ℕ → ℕ
width_bytes n = pick (width_taken n) (ceil_div n 8) 0

-- the table of entries for NBPP 0, 1, and so on to 64: an entry that is not there is 0
unfoldable pub table_of : List ℕ → Widths
table_of entries = record { entries = tabulate 65 (λ n. get_or entries n 0) }

-- the constant as a table
unfoldable pub standard : Widths
standard = record { entries = tabulate 65 width_bytes }

-- the entry of a table for NBPP n; past 64 there is none
abbrev pub entry : Widths → ℕ → ℕ
entry ws n = get_or ws.entries n 0

-- question 2, by a site's own widths, document 02's term: the table as it is handed in holds the constant's value for
-- NBPP n, and not 0
unfoldable pub takes : Widths → ℕ → Bool
takes ws n = every (not (eqb (entry ws n) 0) ∷ eqb (entry ws n) (width_bytes n) ∷ [])

-- the constant table takes each width that is taken, and no table takes another
abbrev pub StandardTakesAll : Type 0
StandardTakesAll = (n : ℕ) → takes standard n ≡ width_taken n

abbrev pub NoneTakesMore : Type 0
NoneTakesMore = (ws : Widths) (n : ℕ) → takes ws n ≡ true → width_taken n ≡ true
