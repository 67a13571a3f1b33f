-- `moves::relay::put_saved` meets its contract: one more line of each row is put.
-- Assumes nothing.
use Rattle.std.proofs.Common.{arith}
use Rattle.moves.proofs.Relays.{block_turn, block_done}
use Rattle.moves.proofs.relay.put_saved.Goals as goal

pub loop-b-preserved : goal.loop-b-preserved
loop-b-preserved c =
    let a = c.args in
    let i = c.loop-b.invariant in
    record { bytes = i.bytes; put = block_turn a.from a.scratch.now a.to c.loop-b.b i.put c.put_lines.ensures }

pub returns : goal.returns
returns c =
    let a = c.args in
    let i = c.loop-b.invariant in
    block_done a.from a.scratch.now a.to c.requires.sound_to i.bytes c.requires.to_held c.loop-b.b (omega arith) i.put
