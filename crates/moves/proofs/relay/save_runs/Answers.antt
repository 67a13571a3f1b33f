-- One run more is saved.
-- Assumes nothing.
use Rattle.std.proofs.Common.{◌≡◌, ◌+◌, ◌*◌, take, drop, arith}
use Rattle.common.specs.Over.{over}
use Rattle.common.proofs.Turns.{iter-none, iter_turn}
use Rattle.moves.specs.Internal.Relays.{save_runs}
use Rattle.moves.proofs.relay.save_runs.Goals as goal

pub loop-k-init : goal.loop-k-init
loop-k-init c = iter-none _ _

pub loop-k-preserved : goal.loop-k-preserved
loop-k-preserved c =
    let l = c.args.layout in
    iter_turn (λ k s. over s (k * l.run_bytes) (take l.run_bytes (drop (l.first + k * l.apart) c.args.image.now))) _
    c.loop-k.k c.loop-k.invariant c.copy.ensures

pub returns : goal.returns
unfolding save_runs
returns c =
    let e : c.loop-k.k ≡ c.args.layout.bands = omega arith in
    rw e at c.loop-k.invariant
