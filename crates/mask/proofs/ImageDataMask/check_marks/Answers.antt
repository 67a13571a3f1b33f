-- `mask::ImageDataMask::check_marks` meets its contract: each "no" gives its number.
-- Assumes nothing.
use Rattle.std.proofs.Common.{sym}
use borrow.Author.Tests.{le-leb, lt-leb}
use Rattle.grid.specs.Check.{grid_number, ask_grid}
use Rattle.grid.proofs.Accepted.{grid-yes, grid-before}
use Rattle.mask.specs.Mask.{from_marks_number}
use Rattle.mask.proofs.Refusals.{refused-first}
use Rattle.mask.proofs.ImageDataMask.check_marks.Goals as goal

pub returns-in_err-grid-clause-number : goal.returns-in_err-grid-clause-number
unfolding grid_number from_marks_number
returns-in_err-grid-clause-number c =
    refused-first (ask_grid c.args.widths.now c.args.grid) (grid-before _ _) _ _ _
    c.from_residual.ensures.1 c.in_err-grid.ensures.number

pub returns-then-not-has_words-clause-number : goal.returns-then-not-has_words-clause-number
unfolding from_marks_number
returns-then-not-has_words-clause-number c =
    let grid = c.in_ok-grid.ensures in
    let words = rw (c.blocks-2.ensures, grid.same) at c.if-not-has_words.ensures in
    rw (grid-yes _ _ _ (sym grid.number), ← words)

pub returns-then-room-record_count-clause-number : goal.returns-then-room-record_count-clause-number
unfolding from_marks_number
returns-then-room-record_count-clause-number c =
    let grid = c.in_ok-grid.ensures in
    let words = rw (c.blocks-2.ensures, grid.same) at c.if-not-has_words.ensures in
    let room = rw (c.record_count.ensures, grid.same) at c.if-room-record_count.true in
    rw (grid-yes _ _ _ (sym grid.number), ← words, lt-leb _ _ room)

pub returns-clause-number : goal.returns-clause-number
unfolding from_marks_number
returns-clause-number c =
    let grid = c.in_ok-grid.ensures in
    let words = rw (c.blocks-2.ensures, grid.same) at c.if-not-has_words.ensures in
    let room = rw (c.record_count.ensures, grid.same) at c.if-room-record_count.false in
    rw (grid-yes _ _ _ (sym grid.number), ← words, le-leb _ _ room)
