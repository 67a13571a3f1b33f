-- `writing::edges::relay_row` meets its contract.
-- Assumes nothing.
use Rattle.std.proofs.Common.{refl, ◌∙◌}
use Rattle.common.proofs.Turns.{iter-none, iter_turn}
use Rattle.writing.proofs.Relays.{relay_is, relayable}
use Rattle.writing.proofs.edges.relay_row.Goals as goal

pub loop-column-init : goal.loop-column-init
loop-column-init c = (iter-none _ _, refl)

pub relay_block-requires : goal.relay_block-requires
relay_block-requires c =
    let a = c.args in
    rw (
      c.layout.ensures,
      c.layout-in-loop-column.ensures,
      c.under_full-full.ensures,
      c.loop-column.auto.image,
      c.loop-column.auto.scratch,
    )
    (relayable a.grid.grid a.grid.accepted a.row c.loop-column.column
    (record { in_row = c.requires.row_in; in_column = c.loop-column-test.true })
    _ _ c.requires.buffers_hold.0 c.requires.buffers_hold.1)

pub loop-column-preserved : goal.loop-column-preserved
loop-column-preserved c =
    let laid =
    c.relay_block.ensures.image_is
    ∙ rw (c.layout.ensures, c.layout-in-loop-column.ensures, c.under_full-full.ensures)
    (relay_is c.args.grid.grid c.args.row c.loop-column.column c.loop-column.image) in (
      iter_turn _ _ c.loop-column.column c.loop-column.invariant.0 laid,
      rw c.layout.ensures at c.relay_block.ensures.scratch_kept ∙ c.loop-column.invariant.1,
    )
