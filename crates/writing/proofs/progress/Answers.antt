-- `writing::progress` meets its contract.
-- Assumes nothing.
use Rattle.std.proofs.Common.{refl, sym, arith}
use Rattle.std.proofs.lemmas.Result.{err_from_is_err_and}
use Rattle.common.specs.Questions.{outcome}
use Rattle.common.proofs.Questions.{refused-by}
use Rattle.refusals.proofs.Numbers.{number-some}
use Rattle.calls.specs.Writes.{number, progress}
use Rattle.calls.proofs.Numbers.{progress-facts}
use Rattle.calls.proofs.Refused.{progress-alone}
use Rattle.writing.proofs.progress.Goals as goal

pub returns-in_err-grid : goal.returns-in_err-grid
unfolding progress
returns-in_err-grid c =
    let p = err_from_is_err_and c.from_residual.result c.from_residual.ensures.1 in
    let e = c.in_err-grid.ensures.number in
    rw (p.1, p.2, progress-alone _ _ _ _ e) (refused-by _ number e (number-some _))

pub count_marks-requires : goal.count_marks-requires
count_marks-requires c =
    let counted = rw c.in_ok-grid.ensures.same at c.blocks-blocks.ensures in
    omega (arith, counted, progress-facts _ _ _ (sym c.in_ok-grid.ensures.number))

pub returns : goal.returns
unfolding progress outcome
returns c = rw (c.count_marks.ensures, c.blocks-blocks.ensures, c.in_ok-grid.ensures.same, sym c.in_ok-grid.ensures.number) refl
