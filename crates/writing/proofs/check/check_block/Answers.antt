-- `writing::check::check_block` meets its contract.
-- Assumes nothing.
use Rattle.std.proofs.Common.{refl, sym, ◌∙◌}
use Rattle.std.proofs.lemmas.Result.{err_from_is_err_and}
use Rattle.refusals.proofs.Numbers.{number-some}
use Rattle.calls.specs.Orders.{start_number, skip_number}
use Rattle.calls.proofs.Numbers.{buffers-before}
use Rattle.writing.proofs.check.check_block.Goals as goal

pub returns-in_err-grid-clause-number : goal.returns-in_err-grid-clause-number
unfolding start_number skip_number
returns-in_err-grid-clause-number c =
    let p = err_from_is_err_and c.from_residual.result c.from_residual.ensures.1 in
    rw (p.1, p.2) ((buffers-before _ _ _ _).refuses c.in_err-grid.ensures.number (number-some _) _)

pub returns-clause-number : goal.returns-clause-number
unfolding start_number skip_number
returns-clause-number c =
    rw c.in_ok-grid.ensures.same at c.block.ensures.number ∙ sym ((buffers-before _ _ _ _).accepts c.in_ok-grid.ensures.number refl _)
