-- `writing::edges::relay_blocks` meets its contract.
-- Assumes nothing.
use Rattle.std.proofs.Common.{◌≡◌, refl, ◌∙◌, arith}
use Rattle.common.proofs.Turns.{iter-none, iter_turn}
use Rattle.calls.specs.Relay.{relaid_by}
use Rattle.writing.proofs.edges.relay_blocks.Goals as goal

pub loop-row-init : goal.loop-row-init
loop-row-init c = (iter-none _ _, refl)

pub loop-row-preserved : goal.loop-row-preserved
loop-row-preserved c = (
  iter_turn _ _ c.loop-row.row c.loop-row.invariant.0 c.relay_row.ensures.image_is,
  c.relay_row.ensures.scratch_kept ∙ c.loop-row.invariant.1,
)

pub returns-clause-image_is : goal.returns-clause-image_is
unfolding relaid_by
returns-clause-image_is c =
    let e : c.loop-row.row ≡ c.args.grid.grid.nbpc = omega arith in
    c.loop-row.invariant.0 ∙ rw e refl
