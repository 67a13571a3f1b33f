-- `moves::relay::run_at` meets its contract.
-- Assumes nothing.
use Rattle.std.proofs.Common.{arith}
use Rattle.layout.proofs.Places.{sizes}
use Rattle.moves.proofs.relay.run_at.Goals as goal

pub overflow_mul-size : goal.overflow_mul-size
overflow_mul-size c = omega (arith, (sizes _ c.requires.sound).run_le)
