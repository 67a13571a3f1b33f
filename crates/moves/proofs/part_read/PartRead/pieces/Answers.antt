-- `moves::part_read::PartRead::pieces` meets its contract: the samples of p parts of the bands are read.
-- Assumes nothing.
use Rattle.std.proofs.Common.{arith}
use Rattle.moves.proofs.Orders.{no-parts, parts-turn, parts-done, piece_starts, piece_inside, piece_way, piece_listed}
use Rattle.moves.proofs.part_read.PartRead.pieces.Goals as goal

pub loop-p-init : goal.loop-p-init
loop-p-init c = no-parts _ c.args.order c.args.area _

pub piece-requires : goal.piece-requires
piece-requires c = piece_starts c.requires.moves.moves _ c.loop-p-test.true

pub piece-requires-in-loop-p-clause-moves : goal.piece-requires-in-loop-p-clause-moves
piece-requires-in-loop-p-clause-moves c =
    let m = c.requires.moves in
    let h = c.loop-p-test.true in
    record {
      inside = piece_inside m.moves _ h c.piece.ensures;
      way-fits = rw c.requires.way_is at (piece_way m.moves _ h c.piece.ensures);
      listed = rw c.requires.way_is at (piece_listed m.moves _ h c.piece.ensures _ m.listed);
    }

pub loop-p-preserved : goal.loop-p-preserved
loop-p-preserved c = parts-turn _ c.requires.moves.moves _ c.piece.ensures c.loop-p.invariant c.piece-in-loop-p.ensures

pub returns : goal.returns
returns c = parts-done _ c.requires.moves.moves _ (omega (arith, c.loop-p-test.false)) c.loop-p.invariant
