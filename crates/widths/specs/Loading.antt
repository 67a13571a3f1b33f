-- Loading a site's own widths, document 02's term.
-- Assumes nothing.
use Rattle.std.specs.Prelude.{ℕ, Bool, List, [], ◌∷◌, eqb, get_or, length, drop, Result, Ok, Err}
use Rattle.common.specs.Questions.{ask, outcome}
use Rattle.common.specs.Tests.{every, some, all_below}
use Rattle.bits.specs.Bits.{be_at}
use Rattle.refusals.specs.declared.Refusal.{Refusal}
use Rattle.refusals.specs.Refusals.{number_of}
use Rattle.widths.specs.declared.Widths.{Widths}
use Rattle.widths.specs.Widths.{width_bytes, table_of, entry}

-- an entry is 0 or the constant's value
unfoldable pub is_entry : ℕ → ℕ → Bool
is_entry n e = some (eqb e 0 ∷ eqb e (width_bytes n) ∷ [])

unfoldable pub entries_fit : Widths → Bool
entries_fit ws = all_below 65 (λ n. is_entry n (entry ws n))

-- the table in the 65 bytes after length and version
abbrev pub table_in : List ℕ → Widths
table_in bytes = table_of (drop 3 bytes)

-- 33: are there 68 bytes, the 2-byte length 66, the version byte 1, and then the bytes per sample for NBPP 0 to 64
unfoldable pub header_fits : List ℕ → Bool
header_fits bytes = every (eqb (length bytes) 68 ∷ eqb (be_at bytes 0 2) 66 ∷ eqb (get_or bytes 2 0) 1 ∷ [])

abbrev pub q33 : List ℕ → Bool
q33 bytes = every (header_fits bytes ∷ entries_fit (table_in bytes) ∷ [])

-- the number of a loading, and the table
pub record Loaded : Type 0 where
  pub number : ℕ
  pub widths : Widths

-- beside a refusal: a table of zeros, which bars all
abbrev pub not_loaded : ℕ → Loaded
not_loaded n = record { number = n; widths = table_of [] }

-- what an answer says
abbrev pub loaded_of : Result Widths Refusal → Loaded
loaded_of (Ok ws) = record { number = 0; widths = ws }
loaded_of (Err refusal) = not_loaded (number_of refusal)

-- loading
unfoldable pub load : List ℕ → Loaded
load bytes = outcome (ask 33 (q33 bytes) 0) (record { number = 0; widths = table_in bytes }) not_loaded
