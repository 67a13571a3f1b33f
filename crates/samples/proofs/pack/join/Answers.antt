-- `samples::pack::join`: the number of the first k samples leaves room for one more.
-- Assumes nothing.
use Rattle.std.proofs.Common.{ℕ, ◌*◌, ◌-◌, ◌^◌, ◌≤◌, ◌<◌, arith}
use native.Mathlib.Nat.{lt_of_lt_of_le}
use lib.Pow.{pow_mono}
use Rattle.bits.proofs.Bits.{within}
use Rattle.bits.specs.Values.{side_by_side}
use Rattle.samples.specs.Internal.Groups.{joined}
use Rattle.samples.proofs.Groups.{joined-none, joined-turn, joined_lt}
use Rattle.samples.proofs.pack.join.Goals as goal

room : (v : ℕ → ℕ) (w k : ℕ) → k * w ≤ 64 - w → joined v w k < 2 ^ (64 - w)
room v w k h = lt_of_lt_of_le (joined_lt v w k) (pow_mono {i = k * w} {j = 64 - w} h)

pub loop-k-init : goal.loop-k-init
loop-k-init c = joined-none _ _

pub append-acc-requires : goal.append-acc-requires
unfolding side_by_side
append-acc-requires c =
    let g = c.args.groups in
    let k : ℕ = c.loop-k.k in
    let l = within k g.samples g.width c.loop-k-test.true in (
      omega arith,
      rw c.loop-k.invariant (room (side_by_side c.args.dat.now c.args.from g.size) g.width k (omega arith)),
      rw c.get_be-v.ensures (c.requires.samples_fit k c.loop-k-test.true),
    )

pub loop-k-preserved : goal.loop-k-preserved
unfolding side_by_side
loop-k-preserved c =
    joined-turn _ _ _ (c.requires.samples_fit c.loop-k.k (omega arith)) c.loop-k.invariant c.get_be-v.ensures
    c.append-acc.ensures
