-- The sum counts the marks of the words passed.
-- Assumes nothing.
use Rattle.std.proofs.Common.{◌≡◌, ◌*◌}
use Rattle.marks.specs.Marks.{marked, count}
use Rattle.marks.proofs.count_marks.Given as goal

abbrev pub invariant-loop-word : goal.invariant-loop-word
invariant-loop-word l = l.sum ≡ count (l.word-index * 64) (marked l.marks)
