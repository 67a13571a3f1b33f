-- `layout::BlockLayout::order_place` meets its contract: its numbers can be counted.
-- Assumes nothing.
use Rattle.std.proofs.Common.{arith}
use Rattle.layout.proofs.Places.{sizes, order_place}
use Rattle.layout.proofs.BlockLayout.order_place.Goals as goal

pub overflow_mul-size : goal.overflow_mul-size
overflow_mul-size c = omega (arith, (sizes _ c.requires.sound).run_le)

pub overflow_mul-byte : goal.overflow_mul-byte
overflow_mul-byte c = omega (arith, order_place _ c.requires.sound _ c.requires.in_runs)

pub overflow_add-byte : goal.overflow_add-byte
overflow_add-byte c = omega (arith, order_place _ c.requires.sound _ c.requires.in_runs)

pub overflow_mul-result : goal.overflow_mul-result
overflow_mul-result c = omega (arith, order_place _ c.requires.sound _ c.requires.in_runs)

pub overflow_mul-result-2 : goal.overflow_mul-result-2
overflow_mul-result-2 c = omega (arith, order_place _ c.requires.sound _ c.requires.in_runs)

pub overflow_add-result : goal.overflow_add-result
overflow_add-result c = omega (arith, order_place _ c.requires.sound _ c.requires.in_runs)
