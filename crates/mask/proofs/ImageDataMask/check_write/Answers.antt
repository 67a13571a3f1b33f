-- `mask::ImageDataMask::check_write` meets its contract: each "no" gives its number.
-- Assumes nothing.
use Rattle.std.proofs.Common.{◌≡◌, ℕ, ◌≤◌, true, sym}
use borrow.Author.Tests.{le-leb, lt-leb}
use Rattle.common.specs.Questions.{ask}
use Rattle.widths.specs.declared.Widths.{Widths}
use Rattle.grid.specs.declared.Grid.{Grid}
use Rattle.grid.specs.Check.{grid_number, ask_grid}
use Rattle.grid.proofs.Accepted.{grid-yes, grid-before}
use Rattle.mask.specs.declared.ImageDataMask.{ImageDataMask}
use Rattle.mask.specs.Table.{mask_size}
use Rattle.mask.specs.Mask.{q17, q20, q22, q9_write, mask_write_number}
use Rattle.mask.proofs.Refusals.{refused-first}
use Rattle.mask.proofs.ImageDataMask.check_write.Goals as goal

-- the number past question 21
past_21 : (ws : Widths) (g : Grid) (mask : ImageDataMask) (n m l : ℕ) → 0 ≡ grid_number ws g → true ≡ q17 mask
    → mask.pad_pixel_code_length ≤ 32 → true ≡ q20 mask → mask_size g mask ≤ 4_294_967_295
    → mask_write_number ws g mask n m l ≡ ask 22 (q22 g mask n m) (ask 9 (q9_write g mask l) 0)
unfolding mask_write_number
past_21 ws g mask n m l a lengths bits code size =
    rw (grid-yes ws g _ (sym a), ← lengths, le-leb _ 32 bits, ← code, le-leb _ _ size)

pub returns-in_err-grid-clause-number : goal.returns-in_err-grid-clause-number
unfolding grid_number mask_write_number
returns-in_err-grid-clause-number c =
    refused-first (ask_grid c.args.widths.now c.args.grid) (grid-before _ _) _ _ _
    c.from_residual.ensures.1 c.in_err-grid.ensures.number

pub returns-then-not-has_record_lengths-clause-number : goal.returns-then-not-has_record_lengths-clause-number
unfolding mask_write_number
returns-then-not-has_record_lengths-clause-number c =
    rw (grid-yes _ _ _ (sym c.in_ok-grid.ensures.number), ← c.if-not-has_record_lengths.ensures)

pub returns-then-self-gt-MAX_CODE_BITS-clause-number : goal.returns-then-self-gt-MAX_CODE_BITS-clause-number
unfolding mask_write_number
returns-then-self-gt-MAX_CODE_BITS-clause-number c =
    rw (
      grid-yes _ _ _ (sym c.in_ok-grid.ensures.number),
      ← c.if-not-has_record_lengths.ensures,
      lt-leb _ 32 c.if-self-gt-MAX_CODE_BITS.true,
    )

pub returns-then-not-code_fits-clause-number : goal.returns-then-not-code_fits-clause-number
unfolding mask_write_number
returns-then-not-code_fits-clause-number c =
    rw (
      grid-yes _ _ _ (sym c.in_ok-grid.ensures.number),
      ← c.if-not-has_record_lengths.ensures,
      le-leb _ 32 c.if-self-gt-MAX_CODE_BITS.false,
      ← c.if-not-code_fits.ensures,
    )

pub returns-then-size-gt-MAX_TABLE_BYTES-clause-number : goal.returns-then-size-gt-MAX_TABLE_BYTES-clause-number
unfolding mask_write_number
returns-then-size-gt-MAX_TABLE_BYTES-clause-number c =
    let size = rw c.in_ok-grid.ensures.same at c.table_bytes-size.ensures in
    rw (
      grid-yes _ _ _ (sym c.in_ok-grid.ensures.number),
      ← c.if-not-has_record_lengths.ensures,
      le-leb _ 32 c.if-self-gt-MAX_CODE_BITS.false,
      ← c.if-not-code_fits.ensures,
      lt-leb _ _ (rw size at c.if-size-gt-MAX_TABLE_BYTES.true),
    )

pub returns-then-not-lists_fit-clause-number : goal.returns-then-not-lists_fit-clause-number
returns-then-not-lists_fit-clause-number c =
    let size = rw c.in_ok-grid.ensures.same at c.table_bytes-size.ensures in
    rw (
      past_21 _ _ c.args.self _ _ _ c.in_ok-grid.ensures.number c.if-not-has_record_lengths.ensures
          c.if-self-gt-MAX_CODE_BITS.false c.if-not-code_fits.ensures (rw size at c.if-size-gt-MAX_TABLE_BYTES.false),
      ← rw c.in_ok-grid.ensures.same at c.if-not-lists_fit.ensures,
    )

pub returns-then-room-size-clause-number : goal.returns-then-room-size-clause-number
returns-then-room-size-clause-number c =
    let size = rw c.in_ok-grid.ensures.same at c.table_bytes-size.ensures in
    rw (
      past_21 _ _ c.args.self _ _ _ c.in_ok-grid.ensures.number c.if-not-has_record_lengths.ensures
          c.if-self-gt-MAX_CODE_BITS.false c.if-not-code_fits.ensures (rw size at c.if-size-gt-MAX_TABLE_BYTES.false),
      ← rw c.in_ok-grid.ensures.same at c.if-not-lists_fit.ensures,
      lt-leb _ _ (rw size at c.if-room-size.true),
    )

pub returns-clause-number : goal.returns-clause-number
returns-clause-number c =
    let size = rw c.in_ok-grid.ensures.same at c.table_bytes-size.ensures in
    rw (
      past_21 _ _ c.args.self _ _ _ c.in_ok-grid.ensures.number c.if-not-has_record_lengths.ensures
          c.if-self-gt-MAX_CODE_BITS.false c.if-not-code_fits.ensures (rw size at c.if-size-gt-MAX_TABLE_BYTES.false),
      ← rw c.in_ok-grid.ensures.same at c.if-not-lists_fit.ensures,
      le-leb _ _ (rw size at c.if-room-size.false),
    )
