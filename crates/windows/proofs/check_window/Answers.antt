-- `windows::check_window` meets its contract.
-- Assumes nothing.
use Rattle.std.proofs.Common.{refl, sym, ◌∙◌, arith}
use Rattle.std.proofs.lemmas.Result.{err_from_is_err_and}
use borrow.Author.Tests.{le-leb, lt-leb}
use Rattle.refusals.proofs.Numbers.{number-some}
use Rattle.common.specs.Tests.{every}
use Rattle.layout.specs.Bands.{bands_in}
use Rattle.layout.proofs.Listed.{room-is}
use Rattle.grid.specs.Check.{Accepted}
use Rattle.grid.proofs.Accepted.{facts, accepted_by}
use Rattle.grid.proofs.Checked.{grid-refused}
use Rattle.calls.specs.Orders.{window_number, rectangle}
use Rattle.calls.proofs.WindowLaws.{q10-facts}
use Rattle.windows.proofs.WindowQuestions.{after-grid, q10-sides, q10-yes, last_block, q7-last, plane}
use Rattle.windows.proofs.check_window.Goals as goal

pub returns-in_err-accepted-clause-number : goal.returns-in_err-accepted-clause-number
unfolding window_number
returns-in_err-accepted-clause-number c =
    let p = err_from_is_err_and c.from_residual.result c.from_residual.ensures.1 in
    rw (p.1, p.2) (grid-refused _ _ _ c.in_err-accepted.ensures.number (number-some _))

pub returns-then-not-is_inside-clause-number : goal.returns-then-not-is_inside-clause-number
unfolding every
returns-then-not-is_inside-clause-number c =
    let a = c.args in
    let g = a.grid in
    let w = rectangle a.window.row a.window.column a.window.rows a.window.columns (bands_in a.asked) in
    let after = after-grid _ g a.image w a.room c.in_ok-accepted.ensures.number in
    rw (after, q10-sides g w, sym c.if-not-is_inside.ensures) refl

pub returns-then-not-is_inside-2-clause-number : goal.returns-then-not-is_inside-2-clause-number
unfolding every
returns-then-not-is_inside-2-clause-number c =
    let a = c.args in
    let g = a.grid in
    let w = rectangle a.window.row a.window.column a.window.rows a.window.columns (bands_in a.asked) in
    let after = after-grid _ g a.image w a.room c.in_ok-accepted.ensures.number in
    rw (after, q10-sides g w, sym c.if-not-is_inside.ensures, sym c.if-not-is_inside-2.ensures) refl

pub overflow_sub-last : goal.overflow_sub-last
overflow_sub-last c =
    let a = c.args in
    let g = a.grid in
    let w = rectangle a.window.row a.window.column a.window.rows a.window.columns (bands_in a.asked) in
    (q10-facts g w (q10-yes g w c.if-not-is_inside.ensures c.if-not-is_inside-2.ensures)).rows-pos

pub overflow_add-last : goal.overflow_add-last
overflow_add-last c =
    let a = c.args in
    let g = a.grid in
    let w = rectangle a.window.row a.window.column a.window.rows a.window.columns (bands_in a.asked) in
    let ok : Accepted g = accepted_by _ g (sym c.in_ok-accepted.ensures.number) in
    let p = q10-facts g w (q10-yes g w c.if-not-is_inside.ensures c.if-not-is_inside-2.ensures) in
    omega (arith, p.rows_end, (facts g ok).sides.nrows-le)

pub nonzero_div-last : goal.nonzero_div-last
nonzero_div-last c = (facts _ (accepted_by _ _ (sym c.in_ok-accepted.ensures.number))).sides.nppbv-pos

pub overflow_sub-last-2 : goal.overflow_sub-last-2
overflow_sub-last-2 c =
    let a = c.args in
    let g = a.grid in
    let w = rectangle a.window.row a.window.column a.window.rows a.window.columns (bands_in a.asked) in
    (q10-facts g w (q10-yes g w c.if-not-is_inside.ensures c.if-not-is_inside-2.ensures)).columns-pos

pub overflow_add-last-2 : goal.overflow_add-last-2
overflow_add-last-2 c =
    let a = c.args in
    let g = a.grid in
    let w = rectangle a.window.row a.window.column a.window.rows a.window.columns (bands_in a.asked) in
    let ok : Accepted g = accepted_by _ g (sym c.in_ok-accepted.ensures.number) in
    let p = q10-facts g w (q10-yes g w c.if-not-is_inside.ensures c.if-not-is_inside-2.ensures) in
    omega (arith, p.columns-end, (facts g ok).sides.ncols-le)

pub nonzero_div-last-2 : goal.nonzero_div-last-2
nonzero_div-last-2 c = (facts _ (accepted_by _ _ (sym c.in_ok-accepted.ensures.number))).sides.nppbh-pos

pub invariant_of-last : goal.invariant_of-last
invariant_of-last c =
    let a = c.args in
    let g = a.grid in
    let w = rectangle a.window.row a.window.column a.window.rows a.window.columns (bands_in a.asked) in
    let ok : Accepted g = accepted_by _ g (sym c.in_ok-accepted.ensures.number) in
    let p = q10-facts g w (q10-yes g w c.if-not-is_inside.ensures c.if-not-is_inside-2.ensures) in
    record { inside = rw c.in_ok-accepted.ensures.same (last_block g (facts g ok) w p) }

pub returns-then-image-end-clause-number : goal.returns-then-image-end-clause-number
returns-then-image-end-clause-number c =
    let a = c.args in
    let g = a.grid in
    let w = rectangle a.window.row a.window.column a.window.rows a.window.columns (bands_in a.asked) in
    let ok : Accepted g = accepted_by _ g (sym c.in_ok-accepted.ensures.number) in
    let ten = q10-yes g w c.if-not-is_inside.ensures c.if-not-is_inside-2.ensures in
    let seven = q7-last g ok a.image w ten ∙ lt-leb _ _ (rw (c.end.ensures, c.in_ok-accepted.ensures.same) at c.if-image-end.true) in
    let after = after-grid _ g a.image w a.room c.in_ok-accepted.ensures.number in
    rw (after, ten, seven) refl

pub returns-then-not-bands_below-clause-number : goal.returns-then-not-bands_below-clause-number
returns-then-not-bands_below-clause-number c =
    let a = c.args in
    let g = a.grid in
    let w = rectangle a.window.row a.window.column a.window.rows a.window.columns (bands_in a.asked) in
    let ok : Accepted g = accepted_by _ g (sym c.in_ok-accepted.ensures.number) in
    let ten = q10-yes g w c.if-not-is_inside.ensures c.if-not-is_inside-2.ensures in
    let seven = q7-last g ok a.image w ten ∙ le-leb _ _ (rw (c.end.ensures, c.in_ok-accepted.ensures.same) at c.if-image-end.false) in
    let after = after-grid _ g a.image w a.room c.in_ok-accepted.ensures.number in
    rw (after, ten, seven, sym c.if-not-bands_below.ensures) refl

pub overflow_mul-plane-2 : goal.overflow_mul-plane-2
overflow_mul-plane-2 c =
    let a = c.args in
    let g = a.grid in
    let w = rectangle a.window.row a.window.column a.window.rows a.window.columns (bands_in a.asked) in
    let ok : Accepted g = accepted_by _ g (sym c.in_ok-accepted.ensures.number) in
    let p = q10-facts g w (q10-yes g w c.if-not-is_inside.ensures c.if-not-is_inside-2.ensures) in
    rw (c.sample_bytes.ensures, c.in_ok-accepted.ensures.same) (record { fits = (plane g (facts g ok) w p).bytes })

pub returns-then-not-product_fits-clause-number : goal.returns-then-not-product_fits-clause-number
returns-then-not-product_fits-clause-number c =
    let a = c.args in
    let g = a.grid in
    let w = rectangle a.window.row a.window.column a.window.rows a.window.columns (bands_in a.asked) in
    let ok : Accepted g = accepted_by _ g (sym c.in_ok-accepted.ensures.number) in
    let ten = q10-yes g w c.if-not-is_inside.ensures c.if-not-is_inside-2.ensures in
    let seven = q7-last g ok a.image w ten ∙ le-leb _ _ (rw (c.end.ensures, c.in_ok-accepted.ensures.same) at c.if-image-end.false) in
    let room = rw (c.band_count.ensures, c.sample_bytes.ensures, c.in_ok-accepted.ensures.same) at c.if-not-product_fits.ensures in
    let after = after-grid _ g a.image w a.room c.in_ok-accepted.ensures.number in
    rw (after, ten, seven, sym c.if-not-bands_below.ensures, sym (room ∙ room-is _ _ _ _ _)) refl

pub returns-clause-number : goal.returns-clause-number
returns-clause-number c =
    let a = c.args in
    let g = a.grid in
    let w = rectangle a.window.row a.window.column a.window.rows a.window.columns (bands_in a.asked) in
    let ok : Accepted g = accepted_by _ g (sym c.in_ok-accepted.ensures.number) in
    let ten = q10-yes g w c.if-not-is_inside.ensures c.if-not-is_inside-2.ensures in
    let seven = q7-last g ok a.image w ten ∙ le-leb _ _ (rw (c.end.ensures, c.in_ok-accepted.ensures.same) at c.if-image-end.false) in
    let room = rw (c.band_count.ensures, c.sample_bytes.ensures, c.in_ok-accepted.ensures.same) at c.if-not-product_fits.ensures in
    let after = after-grid _ g a.image w a.room c.in_ok-accepted.ensures.number in
    rw (after, ten, seven, sym c.if-not-bands_below.ensures, sym (room ∙ room-is _ _ _ _ _)) refl
