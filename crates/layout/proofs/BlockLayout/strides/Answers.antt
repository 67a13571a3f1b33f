-- `layout::BlockLayout::strides` meets its contract.
-- Assumes nothing.
use Rattle.layout.proofs.Spaced.{strides_fit}
use Rattle.layout.proofs.BlockLayout.strides.Goals as goal
use native.Mathlib.Omega.{arith}

pub overflow_mul-result-in-P : goal.overflow_mul-result-in-P
overflow_mul-result-in-P c = omega (arith, (strides_fit c.args.self c.requires).pixels)

pub overflow_mul-result-in-R : goal.overflow_mul-result-in-R
overflow_mul-result-in-R c = omega (arith, (strides_fit c.args.self c.requires).lines)
