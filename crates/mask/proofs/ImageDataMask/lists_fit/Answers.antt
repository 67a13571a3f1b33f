-- `mask::ImageDataMask::lists_fit` meets its contract.
-- Assumes nothing.
use borrow.Author.Tests.{eq-eqb, ne_eqb}
use Rattle.common.specs.Tests.{every}
use Rattle.common.proofs.Tests.{every-last}
use Rattle.mask.proofs.ImageDataMask.lists_fit.Goals as goal

pub returns-then-blocks-pick : goal.returns-then-blocks-pick
unfolding every
returns-then-blocks-pick c =
    rw (
      ← c.record_count-records.ensures,
      ← c.pick.ensures,
      eq-eqb _ _ c.if-blocks-pick.true,
      ← c.pick-then-blocks-pick.ensures,
    )
    (every-last _)

pub returns-else-blocks-pick : goal.returns-else-blocks-pick
unfolding every
returns-else-blocks-pick c =
    rw (← c.record_count-records.ensures, ← c.pick.ensures, ne_eqb _ _ c.if-blocks-pick.false)
