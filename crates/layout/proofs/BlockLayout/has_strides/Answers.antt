-- `layout::BlockLayout::has_strides` meets its contract.
-- Assumes nothing.
use mathlib.Core.Logic.{⊎_elim}
use mathlib.Core.List.{[], ◌∷◌}
use denote.Enum.Declared.{tag_of}
use types.Run.{OneOf}
use Rattle.layout.specs.declared.InterleaveMode.{InterleaveMode}
use Rattle.layout.specs.declared.InterleaveMode.TheVariants.{B, P, R, S}
use Rattle.layout.specs.contracts.InterleaveMode.{the_type}
use mathlib.Core.Bool.{Bool, true, false}
use Rattle.common.specs.Tests.{some}
use Rattle.layout.specs.Internal.Spacing.{own_runs, has_strides}
use Rattle.layout.proofs.BlockLayout.has_strides.Goals as goal
use mathlib.Core.Path.{◌≡◌, refl, sym, ap}
use native.Mathlib.Omega.{arith}
use borrow.Author.Tests.{eq-eqb, ne_eqb}

even : (m : InterleaveMode) → OneOf (0 ∷ 3 ∷ []) (tag_of the_type m) → own_runs m ≡ true
even B h = refl
even S h = refl
even P h = absurd (⊎_elim (λ e. omega arith) (λ e. omega arith) h)
even R h = absurd (⊎_elim (λ e. omega arith) (λ e. omega arith) h)

-- where there are gaps the mode decides
by_mode : (w o : Bool) {x : Bool} → w ≡ false → o ≡ x → x ≡ some (w ∷ o ∷ [])
unfolding some
by_mode w true e f = rw e (sym f)
by_mode w false e f = rw e (sym f)

pub returns-then-self-bits : goal.returns-then-self-bits
unfolding has_strides some
returns-then-self-bits c = rw (eq-eqb _ _ c.if-self-bits.true)

pub returns-in-P : goal.returns-in-P
unfolding has_strides
returns-in-P c = by_mode _ _ (ne_eqb _ _ c.if-self-bits.false) (ap own_runs c.in-P.is)

pub returns-in-R : goal.returns-in-R
unfolding has_strides
returns-in-R c = by_mode _ _ (ne_eqb _ _ c.if-self-bits.false) (ap own_runs c.in-R.is)

pub returns-in_default : goal.returns-in_default
unfolding has_strides
returns-in_default c = by_mode _ _ (ne_eqb _ _ c.if-self-bits.false) (even c.args.self.mode c.in_default.in_default-own.keys3)
