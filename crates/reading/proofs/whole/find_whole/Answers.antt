-- `reading::whole::find_whole` meets its contract.
-- Assumes nothing.
use Rattle.std.proofs.Common.{refl, arith}
use Rattle.std.proofs.lemmas.Result.{err_from_is_err_and}
use borrow.Author.Tests.{le-leb, lt-leb}
use Rattle.refusals.proofs.Numbers.{number-some}
use Rattle.grid.proofs.Accepted.{facts}
use Rattle.grid.proofs.BlockLayouts.{whole_in}
use Rattle.grid.proofs.Checked.{grid-refused, grid-accepted, block-refused, block-yes, same-block}
use Rattle.calls.specs.Orders.{whole_number}
use Rattle.reading.proofs.whole.find_whole.Goals as goal

pub returns-in_err-accepted-clause-number : goal.returns-in_err-accepted-clause-number
unfolding whole_number
returns-in_err-accepted-clause-number c =
    let p = err_from_is_err_and c.from_residual.result c.from_residual.ensures.1 in
    rw (p.1, p.2) (grid-refused _ _ _ c.in_err-accepted.ensures.number (number-some _))

pub returns-in_err-block-clause-number : goal.returns-in_err-block-clause-number
unfolding whole_number
returns-in_err-block-clause-number c =
    let p = err_from_is_err_and c.from_residual-in_err-block.result c.from_residual-in_err-block.ensures.1 in
    rw (p.1, p.2, grid-accepted _ _ _ c.in_ok-accepted.ensures.number)
    (block-refused _ _ _ c.in_ok-accepted.ensures.same c.in_err-block.ensures.number (number-some _))

pub overflow_add-span : goal.overflow_add-span
overflow_add-span c =
    let b = c.in_ok-block.block in
    rw c.whole-span.ensures (omega (arith, whole_in _ _ _ b.inside, (facts _ b.grid.accepted).image-le))

pub returns-then-image-span-clause-number : goal.returns-then-image-span-clause-number
unfolding whole_number
returns-then-image-span-clause-number c =
    let s = c.in_ok-accepted.ensures.same in
    let b = same-block c.in_ok-block.block s c.in_ok-block.ensures.same in
    rw (
      grid-accepted _ _ _ c.in_ok-accepted.ensures.number,
      block-yes _ _ s c.in_ok-block.ensures.number,
      lt-leb _ _ (rw (c.whole-span.ensures, b.0, b.1, b.2) at c.if-image-span.true),
    )
    refl

pub returns-clause-number : goal.returns-clause-number
unfolding whole_number
returns-clause-number c =
    let s = c.in_ok-accepted.ensures.same in
    let b = same-block c.in_ok-block.block s c.in_ok-block.ensures.same in
    rw (
      grid-accepted _ _ _ c.in_ok-accepted.ensures.number,
      block-yes _ _ s c.in_ok-block.ensures.number,
      le-leb _ _ (rw (c.whole-span.ensures, b.0, b.1, b.2) at c.if-image-span.false),
    )
    refl
