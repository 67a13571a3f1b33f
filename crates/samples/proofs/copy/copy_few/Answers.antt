-- `samples::copy::copy_few`: some bits more are put.
-- Assumes nothing.
use Rattle.std.proofs.Common.{ap, ◌∙◌, arith}
use Rattle.bits.specs.Bits.{put_bits}
use Rattle.bits.proofs.Bits.{bits_at_lt}
use Rattle.samples.proofs.Copied.{copied-none, copied_then}
use Rattle.samples.proofs.copy.copy_few.Goals as goal

pub loop-done-init : goal.loop-done-init
loop-done-init c =
    let a = c.args in
    record { inside = omega arith; put = copied-none a.src.now a.from a.to a.out.now }

pub put_some-requires-clause-value_fits : goal.put_some-requires-clause-value_fits
put_some-requires-clause-value_fits c =
    rw c.get_packed.ensures (bits_at_lt c.args.src.now _ c.min-width.result)

pub loop-done-preserved : goal.loop-done-preserved
loop-done-preserved c =
    let a = c.args in
    let done = c.loop-done.done in
    record {
      inside = omega arith;
      put = copied_then a.src.now a.from a.to done c.min-width.result a.out.now c.loop-done.invariant.put
          (c.put_some.ensures ∙ ap (put_bits c.loop-done.out _ _) c.get_packed.ensures);
    }
