-- The loop of `samples::copy::copy_words`: the first k words are put.
-- Assumes nothing.
use Rattle.std.proofs.Common.{◌≡◌, ◌*◌}
use Rattle.bits.specs.Bits.{Bytes, bits_at, put_bits}
use Rattle.samples.proofs.copy.copy_words.Given as goal

abbrev pub invariant-loop-k : goal.invariant-loop-k
invariant-loop-k l = record {
  bytes : Bytes l.fn.out;
  so_far : l.out ≡ put_bits l.fn.out (8 * l.to) (64 * l.k) (bits_at l.src l.from (64 * l.k));
}
