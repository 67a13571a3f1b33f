-- The first `done` samples of the row are read.
use Rattle.std.proofs.Common.{◌≡◌, ℕ, ◌+◌, ◌*◌}
use Rattle.common.specs.Over.{over}
use Rattle.bits.specs.Values.{values}
use Rattle.moves.specs.Internal.Parts.{sample_at}
use Rattle.moves.proofs.RowRuns.{Passed}
use Rattle.moves.proofs.runs.read_row.Given as goal

abbrev pub invariant-loop-run : goal.invariant-loop-run
invariant-loop-run l =
    (goal.iterator-loop-run).can_next l.run-iterator
    × (goal.iterator-loop-run).is_finite l.run-iterator
    × ((done : ℕ)
    × record {
      passed : Passed l.fn.row l.run-iterator done;
      at_is : l.at ≡ l.to + done * l.size;
      read :
          l.out
          ≡ over l.initial.out l.to
          (values (λ j. sample_at l.fn.row.layout l.src l.fn.row.b l.fn.row.r (l.fn.row.c + j)) l.size done);
    })
