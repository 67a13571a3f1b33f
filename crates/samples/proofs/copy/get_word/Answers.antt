-- `samples::copy::get_word`: eight bytes without their first bits, and the first bits of the ninth.
-- Assumes nothing.
use Rattle.std.proofs.Common.{refl, arith}
use Rattle.bits.proofs.Bits.{bits_at_64}
use Rattle.samples.proofs.Copied.{word}
use Rattle.samples.proofs.copy.get_word.Goals as goal

pub overflow_add-result : goal.overflow_add-result
overflow_add-result c =
    let a = c.args in
    omega (
      arith,
      word a.src.now a.at (λ i. (c.type_inv.src i).fits) c.get_be-x.ensures refl,
      bits_at_64 a.src.now a.at 64 (omega arith),
    )

pub returns : goal.returns
returns c = word c.args.src.now c.args.at (λ i. (c.type_inv.src i).fits) c.get_be-x.ensures refl
