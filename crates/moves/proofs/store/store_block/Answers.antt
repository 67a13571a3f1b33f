-- `moves::store::store_block` meets its contract: its runs are cleared where they have to be, and its samples put.
-- Assumes nothing.
use Rattle.std.proofs.Common.{ap, ◌∙◌}
use Rattle.common.proofs.Flags.{yes, no}
use Rattle.layout.proofs.Places.{end-packed}
use Rattle.moves.specs.Internal.Stores.{put_block, store_by}
use Rattle.moves.proofs.store.store_block.Goals as goal
use Rattle.moves.proofs.store.store_block.Goals.{then-not-is_byte_multiple, else-not-is_byte_multiple}

pub clear_runs-requires-clause-image_holds : goal.clear_runs-requires-clause-image_holds
clear_runs-requires-clause-image_holds c =
    rw (end-packed _ (no c.is_byte_multiple.ensures c.if-not-is_byte_multiple.true)) at c.requires.image_holds

pub returns : goal.returns
unfolding store_by
returns c =
    let a = c.args in
    c.put_block.ensures
    ∙ elim c.if-not-is_byte_multiple.branch [
      | then-not-is_byte_multiple w ↦
          rw (no c.is_byte_multiple.ensures w.if-not-is_byte_multiple.true)
          (ap (put_block a.layout a.«data».now) (w.image-is ∙ w.clear_runs.ensures))
      | else-not-is_byte_multiple w ↦
          rw (yes c.is_byte_multiple.ensures w.if-not-is_byte_multiple.false)
          (ap (put_block a.layout a.«data».now) w.image-is)
    ]
