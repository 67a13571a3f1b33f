-- The first n entries are taken.
use Rattle.std.proofs.Common.{◌≡◌, ◌<◌, ℕ, length, get_or}
use Rattle.widths.proofs.Widths.new.Given as goal

abbrev pub invariant-loop-n : goal.invariant-loop-n
invariant-loop-n l =
    (length l.table ≡ 65) × ((k : ℕ) → k < l.n → get_or l.table k 0 ≡ get_or l.entries k 0)
