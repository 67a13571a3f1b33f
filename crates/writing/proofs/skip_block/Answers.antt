-- `writing::skip_block` meets its contract.
-- Assumes nothing.
use Rattle.std.proofs.Common.{refl, sym}
use Rattle.std.proofs.lemmas.Result.{err_from_is_err_and}
use Rattle.common.specs.Questions.{outcome}
use Rattle.common.proofs.Questions.{refused-by}
use Rattle.refusals.proofs.Numbers.{number-some}
use Rattle.calls.specs.Writes.{unchanged, skip}
use Rattle.calls.proofs.Numbers.{skip-facts}
use Rattle.calls.proofs.Refused.{skip-alone}
use Rattle.writing.proofs.Stores.{mark_in}
use Rattle.writing.proofs.skip_block.Goals as goal

pub returns-in_err-block : goal.returns-in_err-block
unfolding skip
returns-in_err-block c =
    let a = c.args in
    let p = err_from_is_err_and c.from_residual.result c.from_residual.ensures.1 in
    let e = c.in_err-block.ensures.number in
    rw (p.1, p.2, skip-alone _ _ _ _ _ _ _ e) (refused-by _ (unchanged a.image.now a.marks.now) e (number-some _))

pub set_mark-requires : goal.set_mark-requires
set_mark-requires c =
    let b = c.in_ok-block.ensures.block in
    let k = skip-facts _ _ _ _ _ _ (sym c.in_ok-block.ensures.number) in
    rw (c.index-index.ensures, b.0, b.1, b.2) (mark_in _ _ _ _ k.0.words k.1)

pub returns : goal.returns
unfolding skip outcome
returns c =
    let b = c.in_ok-block.ensures.block in
    rw (c.set_mark.ensures, c.index-index.ensures, b.0, b.1, b.2, sym c.in_ok-block.ensures.number) refl
