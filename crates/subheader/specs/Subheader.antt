-- Reading and writing the three parts.
-- Assumes nothing.
use Rattle.std.specs.Prelude.{ℕ, Bool, List, [], ◌∷◌, ◌++◌, leb, eqb, length, replicate, Result, Ok, Err}
use Rattle.common.specs.Questions.{ask, outcome}
use Rattle.common.specs.Tests.{every}
use Rattle.layout.specs.declared.InterleaveMode.TheVariants.{B}
use Rattle.refusals.specs.declared.Refusal.{Refusal}
use Rattle.refusals.specs.Refusals.{number_of}
use Rattle.grid.specs.declared.EdgeRule.{EdgeRule}
use Rattle.grid.specs.declared.EdgeRule.TheVariants.{Tight}
use Rattle.widths.specs.declared.Widths.{Widths}
use Rattle.grid.specs.declared.Grid.{Grid}
use Rattle.grid.specs.Check.{ask_grid}
use Rattle.fields.specs.declared.named.PixelValueType.TheVariants.{UnsignedInt}
use Rattle.fields.specs.declared.named.PixelJustification.TheVariants.{Right}
use Rattle.fields.specs.declared.named.ImageCompression.TheVariants.{NC}
use Rattle.subheader.specs.declared.ImageSubheader.{ImageSubheader}
use Rattle.fields.specs.Named.{is_named, value_of, pvtypes, pvtype_text, pjusts, pjust_text, ics, ic_text}
use Rattle.fields.specs.Named.{imodes, imode_text}
use Rattle.fields.specs.Sides.{effective, written_side}
use Rattle.fields.specs.Fields.{bytes_in, is_number, number_in, Entry, number, text, put_all}
use Rattle.fields.specs.Fields.{NROWS, NCOLS, PVTYPE, IREP, ICAT, ABPP, PJUST, IC}
use Rattle.fields.specs.Fields.{IMODE, NBPR, NBPC, NPPBH, NPPBV, NBPP}

-- ---- reading

-- 23: the parts have 38, 2 and 19 bytes, and the numeric fields are all digits
unfoldable pub parts_fit : ℕ → ℕ → ℕ → Bool
parts_fit a b c = every (eqb a 38 ∷ eqb b 2 ∷ eqb c 19 ∷ [])

unfoldable pub first_numbers : List ℕ → Bool
first_numbers first = every (is_number first NROWS ∷ is_number first NCOLS ∷ is_number first ABPP ∷ [])

unfoldable pub third_numbers : List ℕ → Bool
third_numbers third =
    every
    (is_number third NBPR
    ∷ is_number third NBPC
    ∷ is_number third NPPBH
    ∷ is_number third NPPBV
    ∷ is_number third NBPP
    ∷ [])

unfoldable pub q23 : List ℕ → List ℕ → List ℕ → Bool
q23 first second third =
    every (parts_fit (length first) (length second) (length third) ∷ first_numbers first ∷ third_numbers third ∷ [])

-- 24: PVTYPE, PJUST, IC and IMODE are named values
unfoldable pub q24 : List ℕ → List ℕ → List ℕ → Bool
q24 first second third =
    every
    (is_named pvtype_text pvtypes (bytes_in first PVTYPE)
    ∷ is_named pjust_text pjusts (bytes_in first PJUST)
    ∷ is_named ic_text ics (bytes_in second IC)
    ∷ is_named imode_text imodes (bytes_in third IMODE)
    ∷ [])

-- NPPBH and NPPBV as they are meant
abbrev pub effective_nppbh : List ℕ → List ℕ → ℕ
effective_nppbh first third = effective (number_in third NPPBH) (number_in third NBPR) (number_in first NCOLS)

abbrev pub effective_nppbv : List ℕ → List ℕ → ℕ
effective_nppbv first third = effective (number_in third NPPBV) (number_in third NBPC) (number_in first NROWS)

-- the grid of the fields, a count of bands and an edge rule
abbrev pub grid_of_parts : List ℕ → List ℕ → ℕ → EdgeRule → Grid
grid_of_parts first third bands edges =
    record {
      nrows = number_in first NROWS;
      ncols = number_in first NCOLS;
      bands = bands;
      nbpp = number_in third NBPP;
      imode = value_of imode_text imodes B (bytes_in third IMODE);
      edges = edges;
      nppbh = effective_nppbh first third;
      nppbv = effective_nppbv first third;
      nbpr = number_in third NBPR;
      nbpc = number_in third NBPC;
    }

-- all fields
abbrev pub fields_in : List ℕ → List ℕ → List ℕ → ℕ → EdgeRule → ImageSubheader
fields_in first second third bands edges =
    record {
      pvtype = value_of pvtype_text pvtypes UnsignedInt (bytes_in first PVTYPE);
      irep = bytes_in first IREP;
      icat = bytes_in first ICAT;
      abpp = number_in first ABPP;
      pjust = value_of pjust_text pjusts Right (bytes_in first PJUST);
      ic = value_of ic_text ics NC (bytes_in second IC);
      grid = grid_of_parts first third bands edges;
    }

-- 23, 24, then 1, 2, 3, 4
unfoldable pub read_number : Widths → List ℕ → List ℕ → List ℕ → ℕ → EdgeRule → ℕ
read_number ws first second third bands edges =
    ask 23 (q23 first second third)
    (ask 24 (q24 first second third) (ask_grid ws (grid_of_parts first third bands edges) 0))

-- what stands beside a refusal: zeros, and of PVTYPE, PJUST, IC, IMODE and the edge rule the first value
abbrev pub no_grid : Grid
no_grid =
    record {
      nrows = 0;
      ncols = 0;
      bands = 0;
      nbpp = 0;
      imode = B;
      edges = Tight;
      nppbh = 0;
      nppbv = 0;
      nbpr = 0;
      nbpc = 0;
    }

abbrev pub no_subheader : ImageSubheader
no_subheader =
    record {
      pvtype = UnsignedInt;
      irep = replicate 8 0;
      icat = replicate 8 0;
      abpp = 0;
      pjust = Right;
      ic = NC;
      grid = no_grid;
    }

-- the reader's number and the fields
pub record ReadSubheader : Type 0 where
  pub number : ℕ
  pub subheader : ImageSubheader

abbrev pub read_as : ℕ → ImageSubheader → ReadSubheader
read_as n subheader = record { number = n; subheader = subheader }

-- what an answer says
abbrev pub read_as_of : Result ImageSubheader Refusal → ReadSubheader
read_as_of (Ok subheader) = read_as 0 subheader
read_as_of (Err refusal) = read_as (number_of refusal) no_subheader

-- the reader
unfoldable pub read_subheader : Widths → List ℕ → List ℕ → List ℕ → ℕ → EdgeRule → ReadSubheader
read_subheader ws first second third bands edges =
    outcome (read_number ws first second third bands edges)
    (read_as 0 (fields_in first second third bands edges))
    (λ n. read_as n no_subheader)

-- ---- writing

-- 24 of the writer: is ABPP at most 99; PVTYPE, PJUST, IC and IMODE are named values by their types
unfoldable pub q24_write : ImageSubheader → Bool
q24_write s = leb s.abpp 99

-- 9: do so many bytes hold the three parts
unfoldable pub q9_write : ℕ → ℕ → ℕ → Bool
q9_write a b c = every (leb 38 a ∷ leb 2 b ∷ leb 19 c ∷ [])

-- 24, then 1, 2, 3, 4, then 9
unfoldable pub write_number : Widths → ImageSubheader → ℕ → ℕ → ℕ → ℕ
write_number ws s a b c = ask 24 (q24_write s) (ask_grid ws s.grid (ask 9 (q9_write a b c) 0))

-- what is to stand in the first part
abbrev pub side_entries : ImageSubheader → List Entry
side_entries s = number NROWS s.grid.nrows ∷ number NCOLS s.grid.ncols ∷ []

abbrev pub kind_entries : ImageSubheader → List Entry
kind_entries s = text PVTYPE (pvtype_text s.pvtype) ∷ text IREP s.irep ∷ text ICAT s.icat ∷ []

abbrev pub used_bits_entries : ImageSubheader → List Entry
used_bits_entries s = number ABPP s.abpp ∷ text PJUST (pjust_text s.pjust) ∷ []

abbrev pub first_entries : ImageSubheader → List Entry
first_entries s = side_entries s ++ kind_entries s ++ used_bits_entries s

-- and in the second and the third
abbrev pub second_entries : ImageSubheader → List Entry
second_entries s = text IC (ic_text s.ic) ∷ []

abbrev pub third_entries : ImageSubheader → List Entry
third_entries s =
    text IMODE (imode_text s.grid.imode)
    ∷ number NBPR s.grid.nbpr
    ∷ number NBPC s.grid.nbpc
    ∷ number NPPBH (written_side s.grid.nppbh)
    ∷ number NPPBV (written_side s.grid.nppbv)
    ∷ number NBPP s.grid.nbpp
    ∷ []

-- the writer's number and the parts that it leaves
pub record PartsOut : Type 0 where
  pub number : ℕ
  pub first : List ℕ
  pub second : List ℕ
  pub third : List ℕ

abbrev pub parts_out : ℕ → List ℕ → List ℕ → List ℕ → PartsOut
parts_out n first second third = record { number = n; first = first; second = second; third = third }

-- the writer: each part at the front of its output
unfoldable pub write_subheader : Widths → ImageSubheader → List ℕ → List ℕ → List ℕ → PartsOut
write_subheader ws s first second third =
    outcome (write_number ws s (length first) (length second) (length third))
    (parts_out 0 (put_all first (first_entries s)) (put_all second (second_entries s)) (put_all third (third_entries s)))
    (λ n. parts_out n first second third)
