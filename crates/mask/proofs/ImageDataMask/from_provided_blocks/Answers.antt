-- `mask::ImageDataMask::from_provided_blocks` meets its contract.
-- Assumes nothing.
use Rattle.std.proofs.Common.{refl, sym, arith}
use Rattle.common.specs.Questions.{outcome}
use Rattle.mask.specs.Mask.{no_parse, parsed_of, marks_with, from_provided_blocks}
use Rattle.mask.proofs.Numbers.{from-marks-facts}
use Rattle.mask.proofs.Refusals.{refused-outcome}
use Rattle.mask.proofs.ImageDataMask.from_provided_blocks.Goals as goal

pub returns-in_err-grid : goal.returns-in_err-grid
unfolding from_provided_blocks
returns-in_err-grid c =
    let out = c.args.out.now in
    refused-outcome (λ r. marks_with (parsed_of r) out) _ (λ n. marks_with (no_parse n) out) (λ e. refl) _ _
    c.from_residual.ensures.1 c.in_err-grid.ensures.number

pub fill_records-requires : goal.fill_records-requires
fill_records-requires c =
    let grid = c.in_ok-grid.ensures in
    let facts = from-marks-facts _ _ _ _ (sym grid.number) in
    rw grid.same (omega (arith, facts.words), facts.room)

pub returns : goal.returns
unfolding from_provided_blocks outcome
returns c =
    let grid = c.in_ok-grid.ensures in
    rw (← grid.number, c.fill_records.ensures, c.record_count.ensures, grid.same)
