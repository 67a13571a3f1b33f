-- The loop of `samples::copy::copy_few`: the first bits are put.
-- Assumes nothing.
use Rattle.std.proofs.Common.{◌≡◌, ◌-◌, ◌≤◌}
use Rattle.bits.specs.Bits.{bits_at, put_bits}
use Rattle.samples.proofs.copy.copy_few.Given as goal

abbrev pub invariant-loop-done : goal.invariant-loop-done
invariant-loop-done l = record {
  inside : l.done ≤ l.n;
  put : l.out ≡ put_bits l.fn.out l.to l.done (bits_at l.src l.from l.done);
}

abbrev pub decreases-loop-done : goal.decreases-loop-done
decreases-loop-done l = l.n - l.done
