-- `rows::whole::copy_rows`: one more row is copied.
-- Assumes nothing.
use Rattle.std.proofs.Common.{arith}
use Rattle.common.proofs.Turns.{iter-none, iter_turn}
use Rattle.rows.proofs.WholeBytes.{copied_row}
use Rattle.rows.proofs.whole.copy_rows.Goals as goal

pub loop-i-init : goal.loop-i-init
loop-i-init c = iter-none _ _

pub loop-i-preserved : goal.loop-i-preserved
loop-i-preserved c =
    let a = c.args in
    iter_turn _ _ c.loop-i.i c.loop-i.invariant
    (copied_row a.src.now a.at a.row a.size a.count c.loop-i.i _ _ (λ i. (c.type_inv.src i).fits) (grind arith)
    c.copy.ensures)
