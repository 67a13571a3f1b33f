-- `rows::listed::gather_pixel`: one more listed band is read.
-- Assumes nothing.
use Rattle.std.proofs.Common.{◌≡◌, ◌∙◌, ℕ, refl, ap}
use Rattle.bits.specs.Bits.{be_bytes}
use Rattle.bits.specs.Values.{values}
use Rattle.common.specs.Over.{over}
use Rattle.common.proofs.Turns.{iter-none, iter_turn}
use Rattle.rows.proofs.listed.gather_pixel.Goals as goal

one_value : (v s : ℕ) → be_bytes s v ≡ values (λ j. v) s 1
unfolding values
one_value v s = refl

pub loop-k-init : goal.loop-k-init
loop-k-init c = iter-none _ _

pub loop-k-preserved : goal.loop-k-preserved
loop-k-preserved c =
    iter_turn _ _ c.loop-k.k c.loop-k.invariant
    (c.put_be.ensures ∙ ap (over c.loop-k.out _) (ap (be_bytes c.args.row.size) c.get_be-v.ensures ∙ one_value _ c.args.row.size))
