-- A written subheader reads as the same fields with the table of widths that the write was handed; a read one, written
-- again, reads as the same. The edge rule is not written.
-- Assumes nothing.
use Rattle.std.specs.Prelude.{ℕ, ◌≡◌, true, List, length, take}
use Rattle.common.specs.Tests.{pick}
use Rattle.widths.specs.declared.Widths.{Widths}
use Rattle.widths.specs.Widths.{takes}
use Rattle.grid.specs.declared.EdgeRule.{EdgeRule}
use Rattle.grid.specs.EdgeRules.{with_rule}
use Rattle.subheader.specs.declared.ImageSubheader.{ImageSubheader}
use Rattle.subheader.specs.Subheader.{PartsOut, ReadSubheader, q9_write, no_subheader, read_as}
use Rattle.subheader.specs.Subheader.{read_subheader, write_subheader}

-- what the reader answers for the parts that the writer left, at the front of its outputs
abbrev pub read_back : Widths → PartsOut → ℕ → EdgeRule → ReadSubheader
read_back ws out bands edges =
    read_subheader ws (take 38 out.first) (take 2 out.second) (take 19 out.third) bands edges

-- IREP and ICAT are arrays of eight bytes
pub record Eights (s : ImageSubheader) : Type 0 where
  pub irep_eight : length s.irep ≡ 8
  pub icat_eight : length s.icat ≡ 8

-- an accepted write is read as the fields that were written, with the table that the write was handed
abbrev pub WrittenReadsBack : Type 0
WrittenReadsBack =
    (ws : Widths) (s : ImageSubheader) (first second third : List ℕ) → Eights s
    → (write_subheader ws s first second third).number ≡ 0
    → read_back ws (write_subheader ws s first second third) s.grid.bands s.grid.edges ≡ read_as 0 s

-- with another table, question 2 decides: one that takes NBPP reads the same fields, and one that bars it is refused by
-- 2
abbrev pub OtherWidthsReadBack : Type 0
OtherWidthsReadBack =
    (ws vs : Widths) (s : ImageSubheader) (first second third : List ℕ) → Eights s
    → (write_subheader ws s first second third).number ≡ 0
    → read_back vs (write_subheader ws s first second third) s.grid.bands s.grid.edges
    ≡ pick (takes vs s.grid.nbpp) (read_as 0 s) (read_as 2 no_subheader)

-- an accepted read, written to outputs that hold the parts, is accepted and read as the same
abbrev pub ReadWrittenAgain : Type 0
ReadWrittenAgain =
    (ws : Widths) (first second third : List ℕ) (bands : ℕ) (edges : EdgeRule) (a b c : List ℕ)
    → (read_subheader ws first second third bands edges).number ≡ 0 → q9_write (length a) (length b) (length c) ≡ true
    → ((write_subheader ws (read_subheader ws first second third bands edges).subheader a b c).number ≡ 0)
    × (read_back ws (write_subheader ws (read_subheader ws first second third bands edges).subheader a b c) bands edges
    ≡ read_subheader ws first second third bands edges)

-- the fields with another edge rule
abbrev pub fields_under : EdgeRule → ImageSubheader → ImageSubheader
fields_under e s =
    record {
      pvtype = s.pvtype;
      irep = s.irep;
      icat = s.icat;
      abpp = s.abpp;
      pjust = s.pjust;
      ic = s.ic;
      grid = with_rule e s.grid;
    }

-- the edge rule is not written: the writer leaves the same parts under both
abbrev pub RuleNotWritten : Type 0
RuleNotWritten =
    (ws : Widths) (e : EdgeRule) (s : ImageSubheader) (first second third : List ℕ)
    → write_subheader ws (fields_under e s) first second third ≡ write_subheader ws s first second third
