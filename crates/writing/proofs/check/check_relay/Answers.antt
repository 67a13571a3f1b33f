-- `writing::check::check_relay` meets its contract.
-- Assumes nothing.
use Rattle.std.proofs.Common.{refl, sym, ◌∙◌}
use Rattle.std.proofs.lemmas.Result.{err_from_is_err_and}
use Rattle.common.proofs.Flags.{yes, no}
use Rattle.refusals.proofs.Numbers.{number-some}
use Rattle.calls.specs.Orders.{start_number, relay_number}
use Rattle.calls.proofs.Numbers.{buffers-before}
use Rattle.writing.proofs.check.check_relay.Goals as goal

pub returns-in_err-grid-clause-number : goal.returns-in_err-grid-clause-number
unfolding start_number relay_number
returns-in_err-grid-clause-number c =
    let p = err_from_is_err_and c.from_residual.result c.from_residual.ensures.1 in
    rw (p.1, p.2) ((buffers-before _ _ _ _).refuses c.in_err-grid.ensures.number (number-some _) _)

pub returns-then-not-tight-clause-number : goal.returns-then-not-tight-clause-number
unfolding start_number relay_number
returns-then-not-tight-clause-number c =
    let full = no (rw c.in_ok-grid.ensures.same at c.is_tight-tight.ensures) c.if-not-tight.true in
    rw full refl ∙ sym ((buffers-before _ _ _ _).accepts c.in_ok-grid.ensures.number refl _)

pub returns-then-not-holds_block-clause-number : goal.returns-then-not-holds_block-clause-number
unfolding start_number relay_number
returns-then-not-holds_block-clause-number c =
    let tight = yes (rw c.in_ok-grid.ensures.same at c.is_tight-tight.ensures) c.if-not-tight.false in
    let short = rw c.in_ok-grid.ensures.same at c.if-not-holds_block.ensures in
    rw (tight, sym short) refl ∙ sym ((buffers-before _ _ _ _).accepts c.in_ok-grid.ensures.number refl _)

pub returns-clause-number : goal.returns-clause-number
unfolding start_number relay_number
returns-clause-number c =
    let tight = yes (rw c.in_ok-grid.ensures.same at c.is_tight-tight.ensures) c.if-not-tight.false in
    let long = rw c.in_ok-grid.ensures.same at c.if-not-holds_block.ensures in
    rw (tight, sym long) refl ∙ sym ((buffers-before _ _ _ _).accepts c.in_ok-grid.ensures.number refl _)
