-- `grid::Grid::check` meets its contract.
-- Assumes nothing.
use Rattle.std.proofs.Common.{sym}
use Rattle.grid.specs.Check.{grid_number}
use Rattle.widths.proofs.Standard.{takes-taken}
use Rattle.grid.proofs.Grid.check.Goals as goal

pub returns-then-not-sides_fit-clause-number : goal.returns-then-not-sides_fit-clause-number
unfolding grid_number
returns-then-not-sides_fit-clause-number c = simp (sym c.if-not-sides_fit.ensures)

pub returns-then-not-takes-clause-number : goal.returns-then-not-takes-clause-number
unfolding grid_number
returns-then-not-takes-clause-number c = simp (sym c.if-not-sides_fit.ensures, sym c.if-not-takes.ensures)

pub returns-then-not-blocks_fit-clause-number : goal.returns-then-not-blocks_fit-clause-number
unfolding grid_number
returns-then-not-blocks_fit-clause-number c =
    simp (sym c.if-not-sides_fit.ensures, sym c.if-not-takes.ensures, sym c.if-not-blocks_fit.ensures)

pub image_fits-requires : goal.image_fits-requires
image_fits-requires c = (
  sym c.if-not-sides_fit.ensures,
  takes-taken c.args.widths.now c.args.self.nbpp (sym c.if-not-takes.ensures),
  sym c.if-not-blocks_fit.ensures,
)

pub returns-then-not-image_fits-clause-number : goal.returns-then-not-image_fits-clause-number
unfolding grid_number
returns-then-not-image_fits-clause-number c =
    simp (
      sym c.if-not-sides_fit.ensures,
      sym c.if-not-takes.ensures,
      sym c.if-not-blocks_fit.ensures,
      sym c.if-not-image_fits.ensures,
    )

pub invariant_of-result : goal.invariant_of-result
invariant_of-result c =
    record {
      accepted =
          simp (
            sym c.if-not-sides_fit.ensures,
            takes-taken c.args.widths.now c.args.self.nbpp (sym c.if-not-takes.ensures),
            sym c.if-not-blocks_fit.ensures,
            sym c.if-not-image_fits.ensures,
          );
    }

pub returns-clause-number : goal.returns-clause-number
unfolding grid_number
returns-clause-number c =
    simp (
      sym c.if-not-sides_fit.ensures,
      sym c.if-not-takes.ensures,
      sym c.if-not-blocks_fit.ensures,
      sym c.if-not-image_fits.ensures,
    )
