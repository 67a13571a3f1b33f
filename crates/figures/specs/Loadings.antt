-- Tables of widths as a site stores them, and what loading them gives.
-- Assumes nothing.
use Rattle.std.specs.Prelude.{ℕ, ◌+◌, List, [], ◌∷◌, get_or, set}
use Rattle.widths.specs.Loading.{Loaded, load}

-- the constant table's 68 bytes, from document 01: length 66, version 1, the entries
abbrev pub constant : List ℕ
constant =
    0 ∷ 66 ∷ 1
    ∷ 0 ∷ 1 ∷ 1 ∷ 1 ∷ 1 ∷ 1 ∷ 1 ∷ 1 ∷ 1 ∷ 2 ∷ 2 ∷ 2 ∷ 2 ∷ 2 ∷ 2 ∷ 2 ∷ 2
    ∷ 0 ∷ 0 ∷ 0 ∷ 0 ∷ 0 ∷ 0 ∷ 0 ∷ 3 ∷ 4 ∷ 4 ∷ 4 ∷ 4 ∷ 4 ∷ 4 ∷ 4 ∷ 4
    ∷ 0 ∷ 0 ∷ 0 ∷ 0 ∷ 0 ∷ 0 ∷ 0 ∷ 5 ∷ 0 ∷ 0 ∷ 0 ∷ 0 ∷ 0 ∷ 0 ∷ 0 ∷ 6
    ∷ 0 ∷ 0 ∷ 0 ∷ 0 ∷ 0 ∷ 0 ∷ 0 ∷ 7 ∷ 0 ∷ 0 ∷ 0 ∷ 0 ∷ 0 ∷ 0 ∷ 0 ∷ 8 ∷ []

-- the same with another entry for NBPP n
abbrev pub entry_changed : ℕ → ℕ → List ℕ
entry_changed n e = set constant (3 + n) e

-- the number of a loading, and the entry for NBPP n of the table that it gives
unfoldable pub loaded_with : ℕ → List ℕ → List ℕ
loaded_with n bytes =
    let l : Loaded = load bytes in
    l.number ∷ get_or l.widths.entries n 0 ∷ []
