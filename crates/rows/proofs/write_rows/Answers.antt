-- `rows::write_rows`: rows that follow each other are one, those of bytes are copied, and of others one more is
-- written.
-- Assumes nothing.
use borrow.Author.Rules.{rules}
use native.Mathlib.Omega.{arith}
use Rattle.common.proofs.Turns.{iter-none, iter_turn}
use Rattle.rows.proofs.Places.{one_at_bytes, one_in_image, one_in_data, one_fits, one_is_written, turned_in_data}
use Rattle.rows.proofs.Places.{turned_are_written, row_is_written}
use Rattle.rows.proofs.write_rows.Goals as goal

pub write_samples-requires-clause-data_holds : goal.write_samples-requires-clause-data_holds
write_samples-requires-clause-data_holds c =
    one_in_data c.args.rows _ c.in-Some.ensures _ _ c.requires.movable c.requires.data_holds

pub write_samples-requires-clause-whole_bytes : goal.write_samples-requires-clause-whole_bytes
write_samples-requires-clause-whole_bytes c =
    one_at_bytes c.args.rows _ c.in-Some.ensures _ _ c.requires.movable c.requires.data_holds

pub write_samples-requires-clause-image_holds : goal.write_samples-requires-clause-image_holds
write_samples-requires-clause-image_holds c =
    one_in_image c.args.rows _ c.in-Some.ensures _ _ c.requires.movable c.requires.data_holds

pub write_samples-requires-clause-samples_fit : goal.write_samples-requires-clause-samples_fit
write_samples-requires-clause-samples_fit c =
    one_fits c.args.rows _ c.in-Some.ensures _ c.requires.samples_fit

pub returns-in-Some : goal.returns-in-Some
returns-in-Some c = one_is_written c.args.rows _ c.in-Some.ensures _ _ c.write_samples.ensures

pub copy_byte_rows-requires-clause-out_holds : goal.copy_byte_rows-requires-clause-out_holds
copy_byte_rows-requires-clause-out_holds c =
    turned_in_data c.args.rows _ c.bytes.ensures c.if-rows-2.true _ c.requires.movable c.if-rows.true _ c.turned.ensures

pub returns-then-rows-2 : goal.returns-then-rows-2
returns-then-rows-2 c =
    turned_are_written c.args.rows _ c.bytes.ensures c.if-rows-2.true _ c.requires.movable c.if-rows.true _
    c.turned.ensures _ _ (λ i. (c.type_inv.dat i).fits) (search rules) (omega arith) c.copy_byte_rows.ensures

pub loop-i-init : goal.loop-i-init
loop-i-init c = iter-none _ _

pub loop-i-preserved : goal.loop-i-preserved
loop-i-preserved c =
    iter_turn _ _ c.loop-i.i c.loop-i.invariant
    (row_is_written c.args.rows _ c.loop-i-test.true _ c.row.ensures _ _ c.write_samples-in-loop-i.ensures)
