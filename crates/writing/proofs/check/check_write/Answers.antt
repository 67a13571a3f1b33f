-- `writing::check::check_write` meets its contract.
-- Assumes nothing.
use Rattle.std.proofs.Common.{length, refl, sym}
use Rattle.std.proofs.lemmas.Result.{err_from_is_err_and}
use borrow.Author.Tests.{eq-eqb, ne_eqb}
use Rattle.refusals.proofs.Numbers.{number-some}
use Rattle.grid.proofs.Accepted.{facts}
use Rattle.calls.specs.Orders.{q26, skip_number, write_number}
use Rattle.calls.proofs.Numbers.{block-before}
use Rattle.writing.proofs.Shapes.{q13-is, q14-is, write-asks, shaped, products, size_of}
use Rattle.writing.proofs.check.check_write.Goals as goal

pub returns-in_err-block-clause-number : goal.returns-in_err-block-clause-number
unfolding skip_number write_number
returns-in_err-block-clause-number c =
    let p = err_from_is_err_and c.from_residual.result c.from_residual.ensures.1 in
    rw (p.1, p.2) ((block-before _ _ _ _ _ _).refuses c.in_err-block.ensures.number (number-some _) _)

pub returns-then-ne-clause-number : goal.returns-then-ne-clause-number
returns-then-ne-clause-number c =
    let a = c.args in
    let b = c.in_ok-block.ensures.block in
    let shape = q13-is a.grid a.block_row a.block_col a.shape.bands a.shape.rows a.shape.columns (rw (c.rows.ensures, c.columns.ensures, b.0, b.1, b.2) at c.if-ne.ensures) in
    rw (write-asks a.widths.now a.grid a.image a.words a.block_row a.block_col a.shape.bands a.shape.rows a.shape.columns (length a.«data».now) (q26 a.grid a.«data».now) c.in_ok-block.ensures.number, shape) refl

pub overflow_mul-shape : goal.overflow_mul-shape
overflow_mul-shape c =
    let a = c.args in
    let b = c.in_ok-block.ensures.block in
    let shape = q13-is a.grid a.block_row a.block_col a.shape.bands a.shape.rows a.shape.columns (rw (c.rows.ensures, c.columns.ensures, b.0, b.1, b.2) at c.if-ne.ensures) in
    record { fits = (products c.in_ok-block.block _ _ _ _ _ _ _ b (shaped _ _ _ _ _ _ shape) (rw b.0 at c.sample_bytes-size.ensures)).lines }

pub overflow_mul-shape-2 : goal.overflow_mul-shape-2
overflow_mul-shape-2 c =
    let a = c.args in
    let b = c.in_ok-block.ensures.block in
    let shape = q13-is a.grid a.block_row a.block_col a.shape.bands a.shape.rows a.shape.columns (rw (c.rows.ensures, c.columns.ensures, b.0, b.1, b.2) at c.if-ne.ensures) in
    record { fits = (products c.in_ok-block.block _ _ _ _ _ _ _ b (shaped _ _ _ _ _ _ shape) (rw b.0 at c.sample_bytes-size.ensures)).samples }

pub overflow_mul-shape-3 : goal.overflow_mul-shape-3
overflow_mul-shape-3 c =
    let a = c.args in
    let b = c.in_ok-block.ensures.block in
    let shape = q13-is a.grid a.block_row a.block_col a.shape.bands a.shape.rows a.shape.columns (rw (c.rows.ensures, c.columns.ensures, b.0, b.1, b.2) at c.if-ne.ensures) in
    record { fits = (products c.in_ok-block.block _ _ _ _ _ _ _ b (shaped _ _ _ _ _ _ shape) (rw b.0 at c.sample_bytes-size.ensures)).bytes }

pub returns-then-data-shape-clause-number : goal.returns-then-data-shape-clause-number
returns-then-data-shape-clause-number c =
    let a = c.args in
    let b = c.in_ok-block.ensures.block in
    let shape = q13-is a.grid a.block_row a.block_col a.shape.bands a.shape.rows a.shape.columns (rw (c.rows.ensures, c.columns.ensures, b.0, b.1, b.2) at c.if-ne.ensures) in
    rw (
      write-asks a.widths.now a.grid a.image a.words a.block_row a.block_col a.shape.bands a.shape.rows a.shape.columns (length a.«data».now) (q26 a.grid a.«data».now) c.in_ok-block.ensures.number,
      shape,
      q14-is a.grid a.block_row a.block_col (length a.«data».now) a.shape.bands a.shape.rows a.shape.columns c.sample_bytes-size.result (shaped _ _ _ _ _ _ shape) (rw b.0 at c.sample_bytes-size.ensures),
      ne_eqb _ _ c.if-data-shape.true,
    )
    refl

pub all_fit-requires : goal.all_fit-requires
all_fit-requires c =
    let b = c.in_ok-block.ensures.block in
    let f = facts _ c.in_ok-block.block.grid.accepted in
    rw (c.sample_bytes-size.ensures, ← b.0) (size_of _ f.sides.nbpp-pos f.sides.nbpp-le)

pub returns-then-not-all_fit-clause-number : goal.returns-then-not-all_fit-clause-number
unfolding q26
returns-then-not-all_fit-clause-number c =
    let a = c.args in
    let b = c.in_ok-block.ensures.block in
    let size = rw b.0 at c.sample_bytes-size.ensures in
    let shape = q13-is a.grid a.block_row a.block_col a.shape.bands a.shape.rows a.shape.columns (rw (c.rows.ensures, c.columns.ensures, b.0, b.1, b.2) at c.if-ne.ensures) in
    rw (
      write-asks a.widths.now a.grid a.image a.words a.block_row a.block_col a.shape.bands a.shape.rows a.shape.columns (length a.«data».now) (q26 a.grid a.«data».now) c.in_ok-block.ensures.number,
      shape,
      q14-is a.grid a.block_row a.block_col (length a.«data».now) a.shape.bands a.shape.rows a.shape.columns c.sample_bytes-size.result (shaped _ _ _ _ _ _ shape) size,
      eq-eqb _ _ c.if-data-shape.false,
      sym (rw size at c.if-not-all_fit.ensures),
    )
    refl

pub returns-clause-number : goal.returns-clause-number
unfolding q26
returns-clause-number c =
    let a = c.args in
    let b = c.in_ok-block.ensures.block in
    let size = rw b.0 at c.sample_bytes-size.ensures in
    let shape = q13-is a.grid a.block_row a.block_col a.shape.bands a.shape.rows a.shape.columns (rw (c.rows.ensures, c.columns.ensures, b.0, b.1, b.2) at c.if-ne.ensures) in
    rw (
      write-asks a.widths.now a.grid a.image a.words a.block_row a.block_col a.shape.bands a.shape.rows a.shape.columns (length a.«data».now) (q26 a.grid a.«data».now) c.in_ok-block.ensures.number,
      shape,
      q14-is a.grid a.block_row a.block_col (length a.«data».now) a.shape.bands a.shape.rows a.shape.columns c.sample_bytes-size.result (shaped _ _ _ _ _ _ shape) size,
      eq-eqb _ _ c.if-data-shape.false,
      sym (rw size at c.if-not-all_fit.ensures),
    )
    refl
