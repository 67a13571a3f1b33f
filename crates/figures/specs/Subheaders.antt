-- Three parts of a subheader, byte by byte: 3 rows by 9,000 columns of 8 bits in one block, NPPBH zero; and what the
-- reader answers for them, and the writer for its answer.
-- Assumes nothing.
use Rattle.std.specs.Prelude.{ℕ, List, [], ◌∷◌, ◌++◌, replicate}
use Rattle.widths.specs.Widths.{standard}
use Rattle.grid.specs.declared.EdgeRule.TheVariants.{Tight}
use Rattle.grid.specs.declared.Grid.{Grid}
use Rattle.subheader.specs.Subheader.{PartsOut, ReadSubheader, read_subheader, write_subheader}

-- 00000003 00009000 INT MONO VIS 08 R
abbrev pub first_part : List ℕ
first_part =
    (0x30 ∷ 0x30 ∷ 0x30 ∷ 0x30 ∷ 0x30 ∷ 0x30 ∷ 0x30 ∷ 0x33 ∷ [])
    ++ (0x30 ∷ 0x30 ∷ 0x30 ∷ 0x30 ∷ 0x39 ∷ 0x30 ∷ 0x30 ∷ 0x30 ∷ [])
    ++ (0x49 ∷ 0x4E ∷ 0x54 ∷ [])
    ++ (0x4D ∷ 0x4F ∷ 0x4E ∷ 0x4F ∷ 0x20 ∷ 0x20 ∷ 0x20 ∷ 0x20 ∷ [])
    ++ (0x56 ∷ 0x49 ∷ 0x53 ∷ 0x20 ∷ 0x20 ∷ 0x20 ∷ 0x20 ∷ 0x20 ∷ [])
    ++ (0x30 ∷ 0x38 ∷ [])
    ++ (0x52 ∷ [])

-- NC
abbrev pub second_part : List ℕ
second_part = 0x4E ∷ 0x43 ∷ []

-- B 0001 0001 0000 0003 08
abbrev pub third_part : List ℕ
third_part =
    (0x42 ∷ [])
    ++ (0x30 ∷ 0x30 ∷ 0x30 ∷ 0x31 ∷ [])
    ++ (0x30 ∷ 0x30 ∷ 0x30 ∷ 0x31 ∷ [])
    ++ (0x30 ∷ 0x30 ∷ 0x30 ∷ 0x30 ∷ [])
    ++ (0x30 ∷ 0x30 ∷ 0x30 ∷ 0x33 ∷ [])
    ++ (0x30 ∷ 0x38 ∷ [])

abbrev pub the_read : ReadSubheader
the_read = read_subheader standard first_part second_part third_part 1 Tight

-- the grid's numbers, in the order of its fields
abbrev pub numbers : Grid → List ℕ
numbers g =
    g.nrows ∷ g.ncols ∷ g.bands ∷ g.nbpp ∷ g.nppbh ∷ g.nppbv ∷ g.nbpr ∷ g.nbpc ∷ []

-- the number, the grid's numbers, ABPP, IREP and ICAT
unfoldable pub read_found : List ℕ
read_found =
    (the_read.number ∷ []) ++ numbers the_read.subheader.grid
    ++ (the_read.subheader.abpp ∷ []) ++ the_read.subheader.irep ++ the_read.subheader.icat

abbrev pub read_by_hand : List ℕ
read_by_hand =
    (0 ∷ [])
    ++ (3 ∷ 9_000 ∷ 1 ∷ 8 ∷ 9_000 ∷ 3 ∷ 1 ∷ 1 ∷ [])
    ++ (8 ∷ [])
    ++ (0x4D ∷ 0x4F ∷ 0x4E ∷ 0x4F ∷ 0x20 ∷ 0x20 ∷ 0x20 ∷ 0x20 ∷ [])
    ++ (0x56 ∷ 0x49 ∷ 0x53 ∷ 0x20 ∷ 0x20 ∷ 0x20 ∷ 0x20 ∷ 0x20 ∷ [])

-- the writer's number and parts, on outputs of zeros of which the third has a byte more
abbrev pub the_write : PartsOut
the_write = write_subheader standard the_read.subheader (replicate 38 0) (replicate 2 0) (replicate 20 0)

unfoldable pub write_found : List ℕ
write_found = (the_write.number ∷ []) ++ the_write.first ++ the_write.second ++ the_write.third

abbrev pub write_by_hand : List ℕ
write_by_hand = (0 ∷ []) ++ first_part ++ second_part ++ third_part ++ (0 ∷ [])
