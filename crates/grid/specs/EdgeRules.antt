-- One grid under either edge rule: what the rule changes, and what it does not.
-- Assumes nothing.
use Rattle.std.specs.Prelude.{ℕ, ◌≡◌, true}
use Rattle.widths.specs.declared.Widths.{Widths}
use Rattle.grid.specs.declared.EdgeRule.{EdgeRule}
use Rattle.grid.specs.declared.EdgeRule.TheVariants.{Full}
use Rattle.grid.specs.declared.Grid.{Grid}
use Rattle.grid.specs.Sizes.{byte_multiple, image_bytes, actual_rows, actual_columns}
use Rattle.grid.specs.Check.{grid_number}
use Rattle.grid.specs.Layout.{place, block_end, whole_start, whole_length}

-- the grid under a rule
abbrev pub with_rule : EdgeRule → Grid → Grid
with_rule e g =
    record {
      nrows = g.nrows;
      ncols = g.ncols;
      bands = g.bands;
      nbpp = g.nbpp;
      imode = g.imode;
      edges = e;
      nppbh = g.nppbh;
      nppbv = g.nppbv;
      nbpr = g.nbpr;
      nbpc = g.nbpc;
    }

-- the grid under full
abbrev pub under_full : Grid → Grid
under_full g = with_rule Full g

-- byte multiples lie the same under both rules
abbrev pub ByteMultiplesLieTheSame : Type 0
ByteMultiplesLieTheSame =
    (e : EdgeRule) (g : Grid) (row column b r c : ℕ) → byte_multiple g ≡ true
    → place (with_rule e g) row column b r c ≡ place g row column b r c

-- so does every block that is whole inside the picture, at every width
abbrev pub BlocksInsideLieTheSame : Type 0
BlocksInsideLieTheSame =
    (e : EdgeRule) (g : Grid) (row column b r c : ℕ)
    → actual_rows g row ≡ g.nppbv → actual_columns g column ≡ g.nppbh
    → place (with_rule e g) row column b r c ≡ place g row column b r c

-- at every width a grid has one number with each table of widths, one size of the image, and each block one end and one
-- place under both
pub record SameBlock (e : EdgeRule) (g : Grid) (row column : ℕ) : Type 0 where
  pub number : (ws : Widths) → grid_number ws (with_rule e g) ≡ grid_number ws g
  pub image : image_bytes (with_rule e g) ≡ image_bytes g
  pub end : block_end (with_rule e g) row column ≡ block_end g row column
  pub whole-start : whole_start (with_rule e g) row column ≡ whole_start g row column
  pub whole_length : whole_length (with_rule e g) ≡ whole_length g

abbrev pub RuleMovesNoBlock : Type 0
RuleMovesNoBlock = (e : EdgeRule) (g : Grid) (row column : ℕ) → SameBlock e g row column
