-- Of the bands, the parts before p are read.
use Rattle.moves.specs.Internal.PartReads.{HasRead}
use Rattle.moves.proofs.Orders.{PartsBefore}
use Rattle.moves.proofs.part_read.PartRead.pieces.Given as goal

abbrev pub invariant-loop-p : goal.invariant-loop-p
invariant-loop-p l = HasRead l.self (PartsBefore l.order l.area l.p) l.initial.out l.out
