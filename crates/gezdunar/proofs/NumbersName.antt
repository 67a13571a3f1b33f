-- The numbers that the reader of a subheader answers name its grid.
-- Assumes nothing.
use mathlib.Core.Path.{◌≡◌, refl}
use lib.ListN.{get_or}
use Rattle.common.specs.Tests.{pick}
use Rattle.layout.specs.declared.InterleaveMode.{InterleaveMode}
use Rattle.layout.specs.declared.InterleaveMode.TheVariants.{B, P, R, S}
use Rattle.grid.specs.declared.EdgeRule.{EdgeRule}
use Rattle.grid.specs.declared.EdgeRule.TheVariants.{Tight, Full}
use Rattle.fields.specs.Named.{imode_text}
use Rattle.std.specs.Prelude.{Some}
use Rattle.gezdunar.specs.Boundary.{mode_of, edges_letter, rule_of, named_grid}
use Rattle.gezdunar.specs.Subheaders.{NumbersNameTheGrid}

mode_back : (m : InterleaveMode) → mode_of (get_or (imode_text m) 0 0) ≡ Some m
unfolding mode_of pick
mode_back B = refl
mode_back P = refl
mode_back R = refl
mode_back S = refl

rule_back : (e : EdgeRule) → rule_of (edges_letter e) ≡ Some e
unfolding rule_of pick
rule_back Tight = refl
rule_back Full = refl

pub numbers_name_the_grid : NumbersNameTheGrid
unfolding named_grid
numbers_name_the_grid g = rw (mode_back g.imode, rule_back g.edges)
