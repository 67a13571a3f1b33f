-- The first samples of the line are put.
use Rattle.std.proofs.Common.{◌-◌, ◌≤◌}
use Rattle.moves.specs.Internal.Relays.{InLine, Relaid}
use Rattle.moves.proofs.relay.put_line.Given as goal

abbrev pub invariant-loop-done : goal.invariant-loop-done
invariant-loop-done l =
    record {
      inside : l.done ≤ l.size;
      put : Relaid l.from l.scratch l.to (InLine l.to l.b l.r 0 l.done) l.initial.image l.image;
    }

abbrev pub decreases-loop-done : goal.decreases-loop-done
decreases-loop-done l = l.size - l.done
