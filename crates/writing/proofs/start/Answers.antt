-- `writing::start` meets its contract: the buffers are long enough; what is cleared is put in their fronts.
-- Assumes nothing.
use Rattle.std.proofs.Common.{ℕ, refl, sym, arith}
use Rattle.std.proofs.lemmas.List.{length-take}
use Rattle.std.proofs.lemmas.Result.{err_from_is_err_and}
use Rattle.common.specs.Questions.{outcome}
use Rattle.common.proofs.Over.{front_filled}
use Rattle.common.proofs.Questions.{refused-by}
use Rattle.refusals.proofs.Numbers.{number-some}
use Rattle.calls.specs.Writes.{unchanged, start}
use Rattle.calls.proofs.Numbers.{start-facts}
use Rattle.calls.proofs.Refused.{start-alone}
use Rattle.writing.proofs.start.Goals as goal

pub returns-in_err-grid : goal.returns-in_err-grid
unfolding start
returns-in_err-grid c =
    let a = c.args in
    let p = err_from_is_err_and c.from_residual.result c.from_residual.ensures.1 in
    let e = c.in_err-grid.ensures.number in
    rw (p.1, p.2, start-alone _ _ _ _ _ e) (refused-by _ (unchanged a.image.now a.marks.now) e (number-some _))

pub slice_bounds-fill-end : goal.slice_bounds-fill-end
slice_bounds-fill-end c =
    rw (c.image_bytes-bytes.ensures, c.in_ok-grid.ensures.same) (start-facts _ _ _ _ (sym c.in_ok-grid.ensures.number)).bytes

pub slice_bounds-fill-end-2 : goal.slice_bounds-fill-end-2
slice_bounds-fill-end-2 c =
    let e = rw c.in_ok-grid.ensures.same at c.image_bytes-bytes.ensures in
    omega (arith, length-take {A = ℕ}, e, start-facts _ _ _ _ (sym c.in_ok-grid.ensures.number))

pub slice_bounds-fill-end-3 : goal.slice_bounds-fill-end-3
slice_bounds-fill-end-3 c =
    rw (c.mark_words-words.ensures, c.blocks-2.ensures, c.in_ok-grid.ensures.same) (start-facts _ _ _ _ (sym c.in_ok-grid.ensures.number)).words

pub slice_bounds-fill-end-4 : goal.slice_bounds-fill-end-4
slice_bounds-fill-end-4 c =
    let e = rw (c.blocks-2.ensures, c.in_ok-grid.ensures.same) at c.mark_words-words.ensures in
    omega (arith, length-take {A = ℕ}, e, start-facts _ _ _ _ (sym c.in_ok-grid.ensures.number))

pub returns : goal.returns
unfolding start outcome
returns c =
    let e = start-facts _ _ _ _ (sym c.in_ok-grid.ensures.number) in
    let bytes = rw c.in_ok-grid.ensures.same at c.image_bytes-bytes.ensures in
    let words = rw (c.blocks-2.ensures, c.in_ok-grid.ensures.same) at c.mark_words-words.ensures in
    rw (
      front_filled _ _ 0 (rw bytes e.bytes) (c.fill.ensures.after (λ y z. z)),
      front_filled _ _ 0 (rw words e.words) (c.fill-2.ensures.after (λ y z. z)),
      bytes,
      words,
      sym c.in_ok-grid.ensures.number,
    )
    refl
