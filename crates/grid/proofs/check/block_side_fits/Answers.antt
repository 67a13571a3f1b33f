-- `grid::check::block_side_fits` meets its contract.
-- Assumes nothing.
use Rattle.common.specs.Tests.{some}
use Rattle.common.proofs.Tests.{some-last}
use Rattle.std.proofs.Common.{sym, ◌∙◌}
use Rattle.grid.specs.Check.{block_side}
use Rattle.grid.proofs.check.block_side_fits.Goals as goal

pub returns-then-within : goal.returns-then-within
unfolding block_side some
returns-then-within c = rw c.if-within.true (simp (sym c.within.ensures ∙ c.if-within.true))

pub returns-else-within : goal.returns-else-within
unfolding block_side some
returns-else-within c = simp (sym c.within.ensures ∙ c.if-within.false) (some-last _)
