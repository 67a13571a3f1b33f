-- `writing::check::check_buffers` meets its contract.
-- Assumes nothing.
use Rattle.std.proofs.Common.{refl, sym}
use Rattle.std.proofs.lemmas.Result.{err_from_is_err_and}
use Rattle.refusals.proofs.Numbers.{number-some}
use Rattle.grid.proofs.Checked.{grid-refused, grid-accepted}
use Rattle.calls.specs.Orders.{start_number}
use Rattle.writing.proofs.check.check_buffers.Goals as goal

pub returns-in_err-grid-clause-number : goal.returns-in_err-grid-clause-number
unfolding start_number
returns-in_err-grid-clause-number c =
    let p = err_from_is_err_and c.from_residual.result c.from_residual.ensures.1 in
    rw (p.1, p.2) (grid-refused _ _ _ c.in_err-grid.ensures.number (number-some _))

pub returns-then-not-fits_in-clause-number : goal.returns-then-not-fits_in-clause-number
unfolding start_number
returns-then-not-fits_in-clause-number c =
    let bytes = rw c.in_ok-grid.ensures.same at c.if-not-fits_in.ensures in
    rw (grid-accepted _ _ _ c.in_ok-grid.ensures.number, sym bytes) refl

pub returns-then-not-has_words-clause-number : goal.returns-then-not-has_words-clause-number
unfolding start_number
returns-then-not-has_words-clause-number c =
    let bytes = rw c.in_ok-grid.ensures.same at c.if-not-fits_in.ensures in
    let words = rw (c.blocks-2.ensures, c.in_ok-grid.ensures.same) at c.if-not-has_words.ensures in
    rw (grid-accepted _ _ _ c.in_ok-grid.ensures.number, sym bytes, sym words) refl

pub returns-clause-number : goal.returns-clause-number
unfolding start_number
returns-clause-number c =
    let bytes = rw c.in_ok-grid.ensures.same at c.if-not-fits_in.ensures in
    let words = rw (c.blocks-2.ensures, c.in_ok-grid.ensures.same) at c.if-not-has_words.ensures in
    rw (grid-accepted _ _ _ c.in_ok-grid.ensures.number, sym bytes, sym words) refl
