-- The loop of `samples::pack::join`: the number of the first k samples.
-- Assumes nothing.
use Rattle.std.proofs.Common.{◌≡◌}
use Rattle.bits.specs.Values.{side_by_side}
use Rattle.samples.specs.Internal.Groups.{joined}
use Rattle.samples.proofs.pack.join.Given as goal

abbrev pub invariant-loop-k : goal.invariant-loop-k
invariant-loop-k l = l.acc ≡ joined (side_by_side l.dat l.from l.groups.size) l.groups.width l.k
