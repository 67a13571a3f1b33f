-- The first i runs are cleared.
use Rattle.std.proofs.Common.{◌≡◌, ◌+◌, ◌*◌, replicate}
use Rattle.common.specs.Over.{over}
use Rattle.common.specs.Turns.{iter}
use Rattle.moves.proofs.store.clear_runs.Given as goal

abbrev pub invariant-loop-i : goal.invariant-loop-i
invariant-loop-i l = l.image ≡ iter l.i (λ k image. over image (l.first + k * l.apart) (replicate l.t 0)) l.fn.image
