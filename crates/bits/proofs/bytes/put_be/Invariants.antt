-- The first j bytes are put.
use Rattle.std.proofs.Common.{◌≡◌, ◌-◌, ◌*◌, ◌/◌, ◌^◌}
use Rattle.bits.specs.Bits.{be_bytes}
use Rattle.common.specs.Over.{over}
use Rattle.bits.proofs.bytes.put_be.Given as goal

abbrev pub invariant-loop-j : goal.invariant-loop-j
invariant-loop-j l = l.out ≡ over l.fn.out l.q (be_bytes l.j (l.value / 2 ^ (8 * (l.size - l.j))))
