-- The search has come to the block at hand, and all before are marked.
-- Assumes nothing.
use Rattle.std.proofs.Common.{◌≤◌, ◌+◌, ◌*◌}
use Rattle.marks.specs.Marks.{marked}
use Rattle.marks.proofs.First.{At}
use Rattle.marks.proofs.first_unmarked.Given as goal

abbrev pub invariant-loop-column : goal.invariant-loop-column
invariant-loop-column l = (l.column ≤ l.across) × At (marked l.marks) l.across l.down (l.row * l.across + l.column)

abbrev pub invariant-loop-row : goal.invariant-loop-row
invariant-loop-row l = (l.row ≤ l.down) × At (marked l.marks) l.across l.down (l.row * l.across)
