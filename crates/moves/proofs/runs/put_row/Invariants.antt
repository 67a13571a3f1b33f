-- The first `done` samples of the row are put.
use Rattle.std.proofs.Common.{◌≡◌, ℕ, ◌+◌, ◌*◌}
use Rattle.moves.specs.Internal.Puts.{InRow}
use Rattle.moves.specs.Internal.Stores.{SomePut}
use Rattle.moves.proofs.RowRuns.{Passed}
use Rattle.moves.proofs.runs.put_row.Given as goal

abbrev pub invariant-loop-run : goal.invariant-loop-run
invariant-loop-run l =
    (goal.iterator-loop-run).can_next l.run-iterator
    × (goal.iterator-loop-run).is_finite l.run-iterator
    × ((done : ℕ)
    × record {
      passed : Passed l.fn.row l.run-iterator done;
      at_is : l.at ≡ l.from + done * l.size;
      put : SomePut l.fn.row.layout l.dat (InRow l.fn.row.b l.fn.row.r l.fn.row.c done) l.initial.image l.image;
    })
