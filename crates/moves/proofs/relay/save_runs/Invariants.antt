-- The first k runs are saved.
use Rattle.std.proofs.Common.{◌≡◌, ◌+◌, ◌*◌, take, drop}
use Rattle.common.specs.Over.{over}
use Rattle.common.specs.Turns.{iter}
use Rattle.moves.proofs.relay.save_runs.Given as goal

abbrev pub invariant-loop-k : goal.invariant-loop-k
invariant-loop-k l =
    l.scratch
    ≡ iter l.k (λ k s. over s (k * l.t) (take l.t (drop (l.layout.first + k * l.layout.apart) l.image))) l.fn.scratch
