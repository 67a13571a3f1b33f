-- `mask::ImageDataMask::check_table` meets its contract: each "no" gives its number.
-- Assumes nothing.
use Rattle.std.proofs.Common.{sym}
use borrow.Author.Tests.{le-leb, lt-leb, leb-true}
use Rattle.grid.specs.Check.{grid_number, ask_grid}
use Rattle.grid.proofs.Accepted.{grid-yes, grid-before}
use Rattle.mask.specs.Mask.{parse_number}
use Rattle.mask.proofs.Refusals.{refused-first}
use Rattle.mask.proofs.ImageDataMask.check_table.Goals as goal

pub returns-in_err-grid-clause-number : goal.returns-in_err-grid-clause-number
unfolding grid_number parse_number
returns-in_err-grid-clause-number c =
    refused-first (ask_grid c.args.widths.now c.args.grid) (grid-before _ _) _ _ _
    c.from_residual.ensures.1 c.in_err-grid.ensures.number

pub returns-then-not-has_header-clause-number : goal.returns-then-not-has_header-clause-number
unfolding parse_number
returns-then-not-has_header-clause-number c =
    rw (grid-yes _ _ _ (sym c.in_ok-grid.ensures.number), ← c.if-not-has_header.ensures)

pub lengths-head-requires : goal.lengths-head-requires
lengths-head-requires c = leb-true _ _ (sym c.if-not-has_header.ensures)

pub returns-then-not-has_record_lengths-clause-number : goal.returns-then-not-has_record_lengths-clause-number
unfolding parse_number
returns-then-not-has_record_lengths-clause-number c =
    rw (
      grid-yes _ _ _ (sym c.in_ok-grid.ensures.number),
      ← c.if-not-has_header.ensures,
      ← rw c.lengths-head.ensures at c.if-not-has_record_lengths.ensures,
    )

pub returns-then-head-gt-MAX_CODE_BITS-clause-number : goal.returns-then-head-gt-MAX_CODE_BITS-clause-number
unfolding parse_number
returns-then-head-gt-MAX_CODE_BITS-clause-number c =
    rw (
      grid-yes _ _ _ (sym c.in_ok-grid.ensures.number),
      ← c.if-not-has_header.ensures,
      ← rw c.lengths-head.ensures at c.if-not-has_record_lengths.ensures,
      lt-leb _ 32 (rw c.lengths-head.ensures at c.if-head-gt-MAX_CODE_BITS.true),
    )

pub returns-then-table-table_bytes-clause-number : goal.returns-then-table-table_bytes-clause-number
unfolding parse_number
returns-then-table-table_bytes-clause-number c =
    let size = rw (c.lengths-head.ensures, c.in_ok-grid.ensures.same) at c.table_bytes.ensures in
    rw (
      grid-yes _ _ _ (sym c.in_ok-grid.ensures.number),
      ← c.if-not-has_header.ensures,
      ← rw c.lengths-head.ensures at c.if-not-has_record_lengths.ensures,
      le-leb _ 32 (rw c.lengths-head.ensures at c.if-head-gt-MAX_CODE_BITS.false),
      lt-leb _ _ (rw size at c.if-table-table_bytes.true),
    )

pub returns-clause-number : goal.returns-clause-number
unfolding parse_number
returns-clause-number c =
    let size = rw (c.lengths-head.ensures, c.in_ok-grid.ensures.same) at c.table_bytes.ensures in
    rw (
      grid-yes _ _ _ (sym c.in_ok-grid.ensures.number),
      ← c.if-not-has_header.ensures,
      ← rw c.lengths-head.ensures at c.if-not-has_record_lengths.ensures,
      le-leb _ 32 (rw c.lengths-head.ensures at c.if-head-gt-MAX_CODE_BITS.false),
      le-leb _ _ (rw size at c.if-table-table_bytes.false),
    )
