-- The lines of the rows before row r are put.
use Rattle.moves.specs.Internal.Relays.{InLines, Relaid}
use Rattle.moves.proofs.Putting.{Before}
use Rattle.moves.proofs.relay.put_lines.Given as goal

abbrev pub invariant-loop-r : goal.invariant-loop-r
invariant-loop-r l = Relaid l.from l.scratch l.to (Before (InLines l.to l.b) (λ b r c. r) l.r) l.initial.image l.image
