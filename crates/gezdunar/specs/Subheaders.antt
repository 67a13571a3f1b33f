-- The subheader's fields across the C boundary: named values as their bytes. A byte that is no edge rule is refused with
-- 99, then one that is no named value with 24, before question 1.
-- Assumes nothing.
use Rattle.std.specs.Prelude.{ℕ, ◌≡◌, Bool, List, [], ◌∷◌, Some, get_or, replicate}
use Rattle.common.specs.Questions.{outcome}
use Rattle.common.specs.Tests.{every, pick}
use Rattle.layout.specs.declared.InterleaveMode.TheVariants.{B}
use Rattle.widths.specs.declared.Widths.{Widths}
use Rattle.grid.specs.declared.EdgeRule.{EdgeRule}
use Rattle.grid.specs.declared.Grid.{Grid}
use Rattle.fields.specs.declared.named.PixelValueType.TheVariants.{UnsignedInt}
use Rattle.fields.specs.declared.named.PixelJustification.TheVariants.{Right}
use Rattle.fields.specs.declared.named.ImageCompression.TheVariants.{NC}
use Rattle.subheader.specs.declared.ImageSubheader.{ImageSubheader}
use Rattle.fields.specs.Named.{is_named, value_of, pvtypes, pvtype_text, pjusts, pjust_text, ics, ic_text}
use Rattle.fields.specs.Named.{imodes, imode_text}
use Rattle.subheader.specs.Subheader.{ReadSubheader, PartsOut, parts_out, write_subheader}
use Rattle.gezdunar.specs.declared.GridNumbers.{GridNumbers}
use Rattle.gezdunar.specs.declared.SubheaderBytes.{SubheaderBytes}
use Rattle.gezdunar.specs.declared.SubheaderAnswer.{SubheaderAnswer}
use Rattle.gezdunar.specs.Boundary.{edges_letter, rule_of, on_known, grid_in, named_grid}

-- ---- reading

-- a grid's numbers
abbrev pub numbers_in : Grid → GridNumbers
numbers_in g =
    record {
      nrows = g.nrows;
      ncols = g.ncols;
      bands = g.bands;
      nbpp = g.nbpp;
      imode = get_or (imode_text g.imode) 0 0;
      edges = edges_letter g.edges;
      nppbh = g.nppbh;
      nppbv = g.nppbv;
      nbpr = g.nbpr;
      nbpc = g.nbpc;
    }

-- the numbers that the reader answers name its grid in every call
abbrev pub NumbersNameTheGrid : Type 0
NumbersNameTheGrid = (g : Grid) → named_grid (numbers_in g) ≡ Some g

abbrev pub bytes_of : ImageSubheader → SubheaderBytes
bytes_of s =
    record {
      pvtype = pvtype_text s.pvtype;
      irep = s.irep;
      icat = s.icat;
      abpp = s.abpp;
      pjust = get_or (pjust_text s.pjust) 0 0;
      ic = ic_text s.ic;
      grid = numbers_in s.grid;
    }

-- what stands beside a refusal: zeros
abbrev pub no_numbers : GridNumbers
no_numbers =
    record {
      nrows = 0;
      ncols = 0;
      bands = 0;
      nbpp = 0;
      imode = 0;
      edges = 0;
      nppbh = 0;
      nppbv = 0;
      nbpr = 0;
      nbpc = 0;
    }

abbrev pub no_bytes : ℕ → SubheaderAnswer
no_bytes n =
    record {
      number = n;
      subheader = record {
        pvtype = replicate 3 0;
        irep = replicate 8 0;
        icat = replicate 8 0;
        abpp = 0;
        pjust = 0;
        ic = replicate 2 0;
        grid = no_numbers;
      };
    }

-- the reader's answer as it crosses
unfoldable pub answer_of : ReadSubheader → SubheaderAnswer
answer_of r = outcome r.number (record { number = 0; subheader = bytes_of r.subheader }) no_bytes

-- ---- writing

-- 24: PVTYPE, PJUST, IC and IMODE are named values
unfoldable pub are_named : SubheaderBytes → Bool
are_named s =
    every
    (is_named pvtype_text pvtypes s.pvtype
    ∷ is_named pjust_text pjusts (s.pjust ∷ [])
    ∷ is_named ic_text ics s.ic
    ∷ is_named imode_text imodes (s.grid.imode ∷ [])
    ∷ [])

-- the fields that the bytes name, under an edge rule
abbrev pub fields_of : SubheaderBytes → EdgeRule → ImageSubheader
fields_of s e =
    record {
      pvtype = value_of pvtype_text pvtypes UnsignedInt s.pvtype;
      irep = s.irep;
      icat = s.icat;
      abpp = s.abpp;
      pjust = value_of pjust_text pjusts Right (s.pjust ∷ []);
      ic = value_of ic_text ics NC s.ic;
      grid = grid_in s.grid (value_of imode_text imodes B (s.grid.imode ∷ [])) e;
    }

-- the writer, on fields that cross as bytes, under a rule and where its byte is none; the rule is not written
unfoldable pub write_under : Widths → EdgeRule → SubheaderBytes → List ℕ → List ℕ → List ℕ → PartsOut
write_under ws e s first second third =
    pick (are_named s) (write_subheader ws (fields_of s e) first second third) (parts_out 24 first second third)

unfoldable pub write_bytes : Widths → SubheaderBytes → List ℕ → List ℕ → List ℕ → PartsOut
write_bytes ws s first second third =
    on_known (rule_of s.grid.edges) (λ e. write_under ws e s first second third) (parts_out 99 first second third)
