-- The number of the bytes so far.
use Rattle.std.proofs.Common.{◌≡◌}
use Rattle.bits.specs.Bits.{be_at}
use Rattle.bits.proofs.bytes.get_be.Given as goal

abbrev pub invariant-loop-byte : goal.invariant-loop-byte
invariant-loop-byte l = l.acc ≡ be_at l.src l.p l.byte-index
