-- `mask::write::put_offsets`: the first k offsets are put.
-- Assumes nothing.
use Rattle.std.proofs.Common.{◌≡◌, get_or}
use Rattle.common.specs.Over.{over}
use Rattle.bits.specs.Values.{values}
use Rattle.mask.proofs.write.put_offsets.Given as goal

abbrev pub invariant-loop-k : goal.invariant-loop-k
invariant-loop-k l = l.out ≡ over l.initial.out l.at (values (λ i. get_or l.list i 0) 4 l.k)
