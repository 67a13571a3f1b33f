-- `rows::whole::gather_rows_any`: one more row is read.
-- Assumes nothing.
use Rattle.common.proofs.Turns.{iter-none, iter_turn}
use Rattle.rows.proofs.Places.{byte_row_from_samples}
use Rattle.rows.proofs.whole.gather_rows_any.Goals as goal

pub loop-i-init : goal.loop-i-init
loop-i-init c = iter-none _ _

pub loop-i-preserved : goal.loop-i-preserved
loop-i-preserved c =
    iter_turn _ _ c.loop-i.i c.loop-i.invariant (byte_row_from_samples c.args.rows c.loop-i.i _ _ c.gather_any.ensures)
