-- `moves::order::Cut::next` meets its contract.
-- Assumes nothing.
use Rattle.std.proofs.Common.{refl, ℕ, ◌≤◌, Bool, true, false, arith}
use Rattle.common.specs.Tests.{pick}
use Rattle.common.proofs.Tests.{pick_yes, pick_no}
use Rattle.moves.proofs.order.Cut.next.Goals as goal

-- an end inside the length, or 0
pick_le : (t : Bool) (n m : ℕ) → n ≤ m → pick t n 0 ≤ m
pick_le true n m h = rw (pick_yes n 0 refl) h
pick_le false n m h = rw (pick_no n 0 refl) (omega arith)

pub overflow_sub-self : goal.overflow_sub-self
overflow_sub-self c = rw c.pick-from.ensures (pick_le _ _ _ c.requires)
