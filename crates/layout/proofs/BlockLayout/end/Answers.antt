-- `layout::BlockLayout::end` meets its contract.
-- Assumes nothing.
use Rattle.layout.proofs.BlockLayout.end.Goals as goal
use mathlib.Core.Path.{◌≡◌}
use Prim.Native.Nat.{◌+◌, ◌-◌, ◌*◌, ◌/◌, ◌%◌}
use borrow.Author.Tests.{eq-eqb, ne_eqb}
use Rattle.layout.specs.declared.BlockLayout.{BlockLayout}
use Rattle.layout.specs.Internal.Layout.{sample_bytes, place, block_end}

whole : (l : BlockLayout) → l.nbpp % 8 ≡ 0 → place l (l.bands - 1) (l.rows - 1) (l.columns - 1) / 8 + sample_bytes l ≡ block_end l
unfolding block_end
whole l e = rw (eq-eqb (l.nbpp % 8) 0 e)

packed : (l : BlockLayout) → (l.nbpp % 8 ≡ 0 → ⊥) → l.first + (l.bands - 1) * l.apart + l.run_bytes ≡ block_end l
unfolding block_end
packed l e = rw (ne_eqb (l.nbpp % 8) 0 e)

pub returns-then-self-eq0 : goal.returns-then-self-eq0
returns-then-self-eq0 c = rw (c.sample_place.ensures, c.sample_bytes.ensures) (whole _ c.if-self-eq0.true)

pub returns-else-self-eq0 : goal.returns-else-self-eq0
returns-else-self-eq0 c = packed _ c.if-self-eq0.false
