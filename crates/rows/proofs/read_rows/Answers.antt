-- `rows::read_rows`: rows that follow each other are one, those of bytes are read as such, and of others one more is
-- read.
-- Assumes nothing.
use Rattle.common.proofs.Turns.{iter-none, iter_turn}
use Rattle.rows.proofs.Places.{one_in_image, one_in_data, one_is_read, byte_rows_in_image, byte_rows_are_read, row_is_read}
use Rattle.rows.proofs.read_rows.Goals as goal

pub read_samples-requires-clause-src_holds : goal.read_samples-requires-clause-src_holds
read_samples-requires-clause-src_holds c =
    one_in_image c.args.rows _ c.in-Some.ensures _ _ c.requires.movable c.requires.out_holds

pub read_samples-requires-clause-out_holds : goal.read_samples-requires-clause-out_holds
read_samples-requires-clause-out_holds c =
    one_in_data c.args.rows _ c.in-Some.ensures _ _ c.requires.movable c.requires.out_holds

pub returns-in-Some : goal.returns-in-Some
returns-in-Some c =
    let rows = c.args.rows in
    let one = c.in-Some.ensures in
    one_is_read rows _ one _ _ (one_in_data rows _ one _ _ c.requires.movable c.requires.out_holds) c.read_samples.ensures

pub whole_rows-requires-clause-src_holds : goal.whole_rows-requires-clause-src_holds
whole_rows-requires-clause-src_holds c =
    byte_rows_in_image c.args.rows _ c.bytes.ensures c.if-rows.true _ c.requires.movable

pub returns-then-rows-gt0 : goal.returns-then-rows-gt0
returns-then-rows-gt0 c =
    byte_rows_are_read c.args.rows _ c.bytes.ensures c.if-rows.true _ c.requires.movable _ _ c.whole_rows.ensures

pub loop-i-init : goal.loop-i-init
loop-i-init c = iter-none _ _

pub loop-i-preserved : goal.loop-i-preserved
loop-i-preserved c =
    iter_turn _ _ c.loop-i.i c.loop-i.invariant
    (row_is_read c.args.rows _ c.loop-i-test.true _ c.row.ensures _ _ c.read_samples-in-loop-i.ensures)
