-- `mask::fill::fill_records`: the first k words are filled.
-- Assumes nothing.
use Rattle.std.proofs.Common.{◌≡◌, ℕ, ◌<◌, get_or}
use Rattle.mask.specs.Mask.{mark_record}
use Rattle.mask.proofs.fill.fill_records.Given as goal

abbrev pub invariant-loop-k : goal.invariant-loop-k
invariant-loop-k l = (i : ℕ) → i < l.k → get_or l.words i 0 ≡ mark_record l.grid.grid l.marks i
