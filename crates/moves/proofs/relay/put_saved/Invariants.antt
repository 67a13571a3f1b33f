-- The lines before line b of each row are put.
use Rattle.bits.specs.Bits.{Bytes}
use Rattle.moves.specs.Internal.Relays.{Relaid}
use Rattle.moves.proofs.Relays.{LinesBefore}
use Rattle.moves.proofs.relay.put_saved.Given as goal

abbrev pub invariant-loop-b : goal.invariant-loop-b
invariant-loop-b l =
    record {
      bytes : Bytes l.initial.image;
      put : Relaid l.from l.scratch l.to (LinesBefore l.to l.b) l.initial.image l.image;
    }
