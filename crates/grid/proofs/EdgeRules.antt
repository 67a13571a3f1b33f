-- What the edge rule does not change.
-- Assumes nothing.
use Prim.Native.Nat.{ℕ}
use mathlib.Core.Path.{◌≡◌, refl}
use mathlib.Core.Bool.{Bool, true, false}
use Rattle.grid.specs.declared.EdgeRule.{EdgeRule}
use Rattle.grid.specs.declared.EdgeRule.TheVariants.{Tight, Full}
use Rattle.grid.specs.declared.Grid.{Grid}
use Rattle.grid.specs.Sizes.{byte_multiple, band_bytes, actual_rows, actual_columns}
use Rattle.grid.specs.Check.{grid_number, q1, q3, q4}
use Rattle.grid.specs.Layout.{held, place_by, place, block_end_by, block_end, whole_start, whole_length}
use Rattle.grid.specs.EdgeRules.{with_rule, ByteMultiplesLieTheSame, BlocksInsideLieTheSame, RuleMovesNoBlock}

pub byte_multiples_lie_the_same : ByteMultiplesLieTheSame
unfolding place band_bytes
byte_multiples_lie_the_same e g row column b r c h = rw h

-- where all rows, or columns, are actual, a run holds them under both
held_whole : (e : EdgeRule) (n : ℕ) → held e n n ≡ n
held_whole Tight n = refl
held_whole Full n = refl

place-held : (w : Bool) (e : EdgeRule) (g : Grid) (row column b r c : ℕ) → actual_rows g row ≡ g.nppbv → actual_columns g column ≡ g.nppbh
    → place_by w (with_rule e g) row column b r c ≡ place_by w g row column b r c
unfolding band_bytes actual_rows actual_columns
place-held true e g row column b r c hr hc = refl
place-held false e g row column b r c hr hc =
    rw (hr, hc, held_whole e g.nppbv, held_whole e g.nppbh, held_whole g.edges g.nppbv, held_whole g.edges g.nppbh)

pub blocks-inside_lie_the_same : BlocksInsideLieTheSame
unfolding place
blocks-inside_lie_the_same e g row column b r c hr hc = place-held (byte_multiple g) e g row column b r c hr hc

same_end : (w : Bool) (e : EdgeRule) (g : Grid) (row column : ℕ) → block_end_by w (with_rule e g) row column ≡ block_end_by w g row column
unfolding band_bytes actual_rows actual_columns
same_end true e g row column = refl
same_end false e g row column = refl

pub rule_moves_no-block : RuleMovesNoBlock
unfolding grid_number block_end band_bytes whole_start whole_length q1 q3 q4
rule_moves_no-block e g row column =
    record {
      number = λ ws. refl;
      image = refl;
      end = same_end (byte_multiple g) e g row column;
      whole-start = refl;
      whole_length = refl;
    }
