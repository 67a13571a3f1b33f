-- `rows::listed::gather_listed_any`: one more pixel is read.
-- Assumes nothing.
use Rattle.common.proofs.Turns.{iter-none, iter_turn}
use Rattle.rows.proofs.listed.gather_listed_any.Goals as goal

pub loop-c-init : goal.loop-c-init
loop-c-init c = iter-none _ _

pub loop-c-preserved : goal.loop-c-preserved
loop-c-preserved c = iter_turn _ _ c.loop-c.c c.loop-c.invariant c.gather_pixel.ensures
