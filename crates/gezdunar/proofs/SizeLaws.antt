-- The sizes of a grid, as the boundary answers them.
-- Assumes nothing.
use mathlib.Core.Path.{◌≡◌, sym, ap, ◌∙◌}
use Rattle.std.specs.Prelude.{Result, Ok, Err, IfOk, MatchResult}
use Rattle.common.proofs.Questions.{outcome-yes, refused-by}
use Rattle.refusals.specs.declared.Refusal.{Refusal}
use Rattle.refusals.specs.Refusals.{number_of, answer_number}
use Rattle.refusals.proofs.Numbers.{number-some}
use Rattle.grid.specs.declared.AcceptedGrid.{AcceptedGrid}
use Rattle.widths.specs.declared.Widths.{Widths}
use Rattle.grid.specs.declared.Grid.{Grid}
use Rattle.grid.specs.Check.{grid_number}
use Rattle.gezdunar.specs.declared.GridSizes.{GridSizes}
use Rattle.gezdunar.specs.Boundary.{accepted_sizes, no_sizes, sizes_of}

-- by the grid's check
pub sizes-checked : (ws : Widths) (g : Grid) (checked : Result AcceptedGrid Refusal) {s : GridSizes}
    → answer_number checked ≡ grid_number ws g → IfOk checked (λ a. a.grid ≡ g)
    → MatchResult checked (λ a. s ≡ accepted_sizes a.grid) (λ refusal. s ≡ no_sizes (number_of refusal))
    → s ≡ sizes_of ws g
unfolding sizes_of
sizes-checked ws g (Ok a) e same told = told ∙ ap accepted_sizes same ∙ sym (outcome-yes _ no_sizes (sym e))
sizes-checked ws g (Err refusal) e same told = told ∙ refused-by _ no_sizes e (number-some refusal)
