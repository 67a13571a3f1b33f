-- `windows::read_window` meets its contract.
-- Assumes nothing.
use Rattle.std.proofs.Common.{sym}
use Rattle.std.proofs.lemmas.Result.{err_from_is_err_and}
use Rattle.common.proofs.Questions.{refused-by}
use Rattle.refusals.proofs.Numbers.{number-some}
use Rattle.layout.specs.Bands.{bands_in}
use Rattle.calls.specs.Orders.{rectangle}
use Rattle.calls.specs.Reads.{no_shape, filled_with, window_of, window}
use Rattle.windows.proofs.Answers.{window-read}
use Rattle.windows.proofs.WindowQuestions.{asked-after}
use Rattle.windows.proofs.read_window.Goals as goal

pub returns-in_err-accepted : goal.returns-in_err-accepted
unfolding window window_of
returns-in_err-accepted c =
    let p = err_from_is_err_and c.from_residual.result c.from_residual.ensures.1 in
    rw (p.1, p.2) (refused-by _ (λ n. filled_with (no_shape n) _) c.in_err-accepted.ensures.number (number-some _))

pub read_rectangle-requires : goal.read_rectangle-requires
read_rectangle-requires c =
    rw c.in_ok-accepted.ensures.same (asked-after _ _ _ _ _ c.in_ok-accepted.ensures.number)

pub returns : goal.returns
returns c =
    let a = c.args in
    rw c.band_count.ensures
    (window-read a.widths.now a.grid a.image.now
    (rectangle a.area.row a.area.column a.area.rows a.area.columns (bands_in a.asked)) a.out.now
    (sym c.in_ok-accepted.ensures.number) (rw c.in_ok-accepted.ensures.same at c.read_rectangle.ensures))
