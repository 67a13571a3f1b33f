-- The high bits of the number are put.
use Rattle.std.proofs.Common.{◌≡◌, ◌-◌, ◌/◌, ◌^◌, ◌≤◌}
use Rattle.bits.specs.Bits.{put_bits}
use Rattle.bits.proofs.put_bits.Given as goal

abbrev pub invariant-loop-done : goal.invariant-loop-done
invariant-loop-done l = (l.done ≤ l.width) × (l.buf ≡ put_bits l.fn.buf l.at l.done (l.value / 2 ^ (l.width - l.done)))

abbrev pub decreases-loop-done : goal.decreases-loop-done
decreases-loop-done l = l.width - l.done
