-- Questions 1 to 4, which every call with a grid asks first, and two that several calls ask of it.
-- Assumes nothing.
use Rattle.std.specs.Prelude.{ℕ, ◌≡◌, Bool, [], ◌∷◌, leb, ltb, eqb}
use Rattle.common.specs.Questions.{ask}
use Rattle.common.specs.Tests.{every, some, within}
use Rattle.common.specs.Rounding.{ceil_div}
use Rattle.widths.specs.declared.Widths.{Widths}
use Rattle.widths.specs.Widths.{width_taken, takes}
use Rattle.grid.specs.Sizes.{image_bytes}
use Rattle.grid.specs.declared.EdgeRule.{EdgeRule}
use Rattle.grid.specs.declared.Grid.{Grid}
use Rattle.layout.specs.declared.InterleaveMode.{InterleaveMode}

-- a side of a block is 1 to 8,192, or the picture's own
unfoldable pub block_side : ℕ → ℕ → Bool
block_side side picture = some (within 1 8_192 side ∷ eqb side picture ∷ [])

-- NROWS and NCOLS are 1 to 99,999,999, NPPBH and NPPBV 1 to 8,192 or NCOLS and NROWS, bands 1 to 99,999
unfoldable pub q1 : Grid → Bool
q1 g =
    every
    (within 1 99_999_999 g.nrows
    ∷ within 1 99_999_999 g.ncols
    ∷ block_side g.nppbh g.ncols
    ∷ block_side g.nppbv g.nrows
    ∷ within 1 99_999 g.bands
    ∷ [])

-- 2: does the table take NBPP
abbrev pub q2 : Widths → Grid → Bool
q2 ws g = takes ws g.nbpp

-- NBPR and NBPC are what the sides give, both at most 9,999
unfoldable pub q3 : Grid → Bool
q3 g =
    every
    (eqb g.nbpr (ceil_div g.ncols g.nppbh)
    ∷ eqb g.nbpc (ceil_div g.nrows g.nppbv)
    ∷ leb g.nbpr 9_999
    ∷ leb g.nbpc 9_999
    ∷ [])

-- the image is at most 4,294,967,294 bytes
unfoldable pub q4 : Grid → Bool
q4 g = leb (image_bytes g) 4_294_967_294

-- 6: is the block inside the grid
unfoldable pub q6 : Grid → ℕ → ℕ → Bool
q6 g row column = every (ltb row g.nbpc ∷ ltb column g.nbpr ∷ [])

-- 11: do n bytes hold the image
unfoldable pub q11 : Grid → ℕ → Bool
q11 g n = leb (image_bytes g) n

-- questions 1, 2, 3, 4, then the rest, where 2 is answered
abbrev pub ask_sides : Bool → Grid → ℕ → ℕ
ask_sides width g rest = ask 1 (q1 g) (ask 2 width (ask 3 (q3 g) (ask 4 (q4 g) rest)))

-- questions 1, 2, 3, 4, asked of a grid with the table that the call is handed, then the rest
abbrev pub ask_grid : Widths → Grid → ℕ → ℕ
ask_grid ws g rest = ask_sides (q2 ws g) g rest

-- the number of the first "no" of questions 1 to 4, or 0
unfoldable pub grid_number : Widths → Grid → ℕ
grid_number ws g = ask_grid ws g 0

-- a grid that questions 1 to 4 accept with some table: its width is one that is taken
abbrev pub Accepted : Grid → Type 0
Accepted g = ask_sides (width_taken g.nbpp) g 0 ≡ 0

-- the grid of a picture in blocks of NPPBV rows and NPPBH columns
abbrev pub grid_of : ℕ → ℕ → ℕ → ℕ → InterleaveMode → EdgeRule → ℕ → ℕ → Grid
grid_of nrows ncols bands nbpp imode edges nppbh nppbv =
    record {
      nrows = nrows;
      ncols = ncols;
      bands = bands;
      nbpp = nbpp;
      imode = imode;
      edges = edges;
      nppbh = nppbh;
      nppbv = nppbv;
      nbpr = ceil_div ncols nppbh;
      nbpc = ceil_div nrows nppbv;
    }
