-- `reading::find_block` meets its contract.
-- Assumes nothing.
use Rattle.std.proofs.Common.{refl, sym, ◌∙◌}
use Rattle.std.proofs.lemmas.Result.{err_from_is_err_and}
use borrow.Author.Tests.{eq-eqb, ne_eqb, le-leb, lt-leb}
use Rattle.refusals.proofs.Numbers.{number-some}
use Rattle.layout.proofs.Listed.{room-is}
use Rattle.grid.proofs.Checked.{grid-refused, grid-accepted, block-refused, block-yes, same-block}
use Rattle.calls.specs.Orders.{block_number}
use Rattle.reading.proofs.BlockNumbers.{plane}
use Rattle.reading.proofs.find_block.Goals as goal

pub returns-in_err-grid-clause-number : goal.returns-in_err-grid-clause-number
unfolding block_number
returns-in_err-grid-clause-number c =
    let p = err_from_is_err_and c.from_residual.result c.from_residual.ensures.1 in
    rw (p.1, p.2) (grid-refused _ _ _ c.in_err-grid.ensures.number (number-some _))

pub returns-then-resolution_level-ne0-clause-number : goal.returns-then-resolution_level-ne0-clause-number
unfolding block_number
returns-then-resolution_level-ne0-clause-number c =
    rw (grid-accepted _ _ _ c.in_ok-grid.ensures.number, ne_eqb _ _ c.if-resolution_level-ne0.true) refl

pub returns-in_err-block-clause-number : goal.returns-in_err-block-clause-number
unfolding block_number
returns-in_err-block-clause-number c =
    let p = err_from_is_err_and c.from_residual-in_err-block.result c.from_residual-in_err-block.ensures.1 in
    rw (p.1, p.2, grid-accepted _ _ _ c.in_ok-grid.ensures.number, eq-eqb _ _ c.if-resolution_level-ne0.false)
    (block-refused _ _ _ c.in_ok-grid.ensures.same c.in_err-block.ensures.number (number-some _))

pub returns-then-image-end-clause-number : goal.returns-then-image-end-clause-number
unfolding block_number
returns-then-image-end-clause-number c =
    let s = c.in_ok-grid.ensures.same in
    let b = same-block c.in_ok-block.block s c.in_ok-block.ensures.same in
    rw (
      grid-accepted _ _ _ c.in_ok-grid.ensures.number,
      eq-eqb _ _ c.if-resolution_level-ne0.false,
      block-yes _ _ s c.in_ok-block.ensures.number,
      lt-leb _ _ (rw (c.end.ensures, b.0, b.1, b.2) at c.if-image-end.true),
    )
    refl

pub returns-then-not-bands_below-clause-number : goal.returns-then-not-bands_below-clause-number
unfolding block_number
returns-then-not-bands_below-clause-number c =
    let s = c.in_ok-grid.ensures.same in
    let b = same-block c.in_ok-block.block s c.in_ok-block.ensures.same in
    rw (
      grid-accepted _ _ _ c.in_ok-grid.ensures.number,
      eq-eqb _ _ c.if-resolution_level-ne0.false,
      block-yes _ _ s c.in_ok-block.ensures.number,
      le-leb _ _ (rw (c.end.ensures, b.0, b.1, b.2) at c.if-image-end.false),
      sym (rw s at c.if-not-bands_below.ensures),
    )
    refl

pub overflow_mul-plane : goal.overflow_mul-plane
overflow_mul-plane c =
    let b = c.in_ok-block.block in
    rw (c.rows.ensures, c.columns.ensures) (record { fits = (plane _ b.grid.accepted _ _ b.inside).samples })

pub overflow_mul-plane-2 : goal.overflow_mul-plane-2
overflow_mul-plane-2 c =
    let b = c.in_ok-block.block in
    rw (c.rows.ensures, c.columns.ensures, c.sample_bytes.ensures, ← c.in_ok-block.ensures.same.0)
    (record { fits = (plane _ b.grid.accepted _ _ b.inside).bytes })

pub returns-then-not-product_fits-clause-number : goal.returns-then-not-product_fits-clause-number
unfolding block_number
returns-then-not-product_fits-clause-number c =
    let s = c.in_ok-grid.ensures.same in
    let b = same-block c.in_ok-block.block s c.in_ok-block.ensures.same in
    let room =
    rw (c.band_count.ensures, c.rows.ensures, c.columns.ensures, c.sample_bytes.ensures, b.0, b.1, b.2, s) at
    c.if-not-product_fits.ensures in
    rw (
      grid-accepted _ _ _ c.in_ok-grid.ensures.number,
      eq-eqb _ _ c.if-resolution_level-ne0.false,
      block-yes _ _ s c.in_ok-block.ensures.number,
      le-leb _ _ (rw (c.end.ensures, b.0, b.1, b.2) at c.if-image-end.false),
      sym (rw s at c.if-not-bands_below.ensures),
      sym (room ∙ room-is _ _ _ _ _),
    )
    refl

pub returns-clause-number : goal.returns-clause-number
unfolding block_number
returns-clause-number c =
    let s = c.in_ok-grid.ensures.same in
    let b = same-block c.in_ok-block.block s c.in_ok-block.ensures.same in
    let room =
    rw (c.band_count.ensures, c.rows.ensures, c.columns.ensures, c.sample_bytes.ensures, b.0, b.1, b.2, s) at
    c.if-not-product_fits.ensures in
    rw (
      grid-accepted _ _ _ c.in_ok-grid.ensures.number,
      eq-eqb _ _ c.if-resolution_level-ne0.false,
      block-yes _ _ s c.in_ok-block.ensures.number,
      le-leb _ _ (rw (c.end.ensures, b.0, b.1, b.2) at c.if-image-end.false),
      sym (rw s at c.if-not-bands_below.ensures),
      sym (room ∙ room-is _ _ _ _ _),
    )
    refl
