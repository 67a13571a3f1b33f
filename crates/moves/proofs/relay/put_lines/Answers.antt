-- `moves::relay::put_lines` meets its contract: the line of one more row is put.
-- Assumes nothing.
use Rattle.std.proofs.Common.{arith}
use Rattle.moves.proofs.Relays.{rows_turn, rows_done}
use Rattle.moves.proofs.relay.put_lines.Goals as goal

pub loop-r-preserved : goal.loop-r-preserved
loop-r-preserved c =
    let a = c.args in
    rows_turn a.from a.scratch.now a.to a.b c.loop-r.r c.loop-r.invariant c.put_line.ensures

pub returns : goal.returns
returns c =
    let a = c.args in
    rows_done a.from a.scratch.now a.to a.b c.loop-r.r (omega arith) c.loop-r.invariant
