-- One run more is cleared.
use Rattle.std.proofs.Common.{◌≡◌, ◌+◌, ◌*◌, replicate, rules, arith}
use Rattle.common.specs.Over.{over}
use Rattle.common.proofs.Over.{part_over}
use Rattle.common.proofs.Turns.{iter-none, iter_turn}
use Rattle.moves.specs.Internal.Stores.{clear_runs}
use Rattle.moves.proofs.store.clear_runs.Goals as goal

pub loop-i-init : goal.loop-i-init
loop-i-init c = iter-none _ _

pub loop-i-preserved : goal.loop-i-preserved
loop-i-preserved c =
    let l = c.args.layout in
    iter_turn (λ k image. over image (l.first + k * l.apart) (replicate l.run_bytes 0)) _ c.loop-i.i c.loop-i.invariant (search (rules, part_over))

pub returns : goal.returns
unfolding clear_runs
returns c =
    let e : c.loop-i.i ≡ c.args.layout.bands = omega arith in
    rw e at c.loop-i.invariant
