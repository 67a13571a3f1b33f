-- `reading::whole::whole_block` meets its contract: the block's nominal bytes, or none.
-- Assumes nothing.
use Rattle.std.proofs.Common.{◌≡◌, ◌+◌, ◌-◌, ℕ, List, [], take, drop, refl, sym, arith, ◌∙◌}
use Rattle.common.proofs.Questions.{outcome-yes, refused-by}
use Rattle.refusals.proofs.Numbers.{number-some}
use Rattle.grid.specs.Layout.{whole_start, whole_length}
use Rattle.grid.proofs.Accepted.{facts}
use Rattle.grid.proofs.BlockLayouts.{whole_in}
use Rattle.calls.specs.Reads.{whole_block, whole_at}
use Rattle.reading.proofs.BlockNumbers.{whole-facts}
use Rattle.reading.proofs.whole.whole_block.Goals as goal

-- a part told by its start and its length
part_is : (xs : List ℕ) (start size : ℕ) → take (start + size - start) (drop start xs) ≡ take size (drop start xs)
part_is xs start size = let e : start + size - start ≡ size = omega arith in rw e refl

-- where a part lies: its start, after the first byte of the image
from_start : (first start at : ℕ) → start ≡ at → start + first ≡ first + at
from_start first start at e = omega arith

from_front : (first at : ℕ) → 0 ≡ at → first ≡ first + at
from_front first at e = omega arith

pub overflow_add-result : goal.overflow_add-result
overflow_add-result c =
    let t = whole-facts _ _ _ _ _ (sym c.in-Ok.ensures.number) in
    rw c.in-Ok.ensures.span (omega (arith, whole_in _ _ _ t.block, (facts _ t.accepted).image-le))

pub slice_bounds-result-end : goal.slice_bounds-result-end
slice_bounds-result-end c = rw c.in-Ok.ensures.span (whole-facts _ _ _ _ _ (sym c.in-Ok.ensures.number)).reached

pub returns-in-Ok-clause-bytes : goal.returns-in-Ok-clause-bytes
unfolding whole_block
returns-in-Ok-clause-bytes c =
    let a = c.args in
    rw c.in-Ok.ensures.span
    (part_is a.image.now (whole_start a.grid a.block_row a.block_col) (whole_length a.grid)
    ∙ sym (outcome-yes _ (λ n. []) (sym c.in-Ok.ensures.number)))

pub returns-in-Ok-clause-place : goal.returns-in-Ok-clause-place
unfolding whole_at
returns-in-Ok-clause-place c =
    let a = c.args in
    rw c.in-Ok.ensures.span (
      refl,
      from_start _ _ _ (sym (outcome-yes (whole_start a.grid a.block_row a.block_col) (λ n. 0) (sym c.in-Ok.ensures.number))),
    )

pub returns-in-Err-clause-bytes : goal.returns-in-Err-clause-bytes
unfolding whole_block
returns-in-Err-clause-bytes c = refused-by _ (λ n. []) c.in-Err.ensures.number (number-some _)

pub returns-in-Err-clause-place : goal.returns-in-Err-clause-place
unfolding whole_at
returns-in-Err-clause-place c =
    (refl, from_front _ _ (refused-by _ (λ n. 0) c.in-Err.ensures.number (number-some _)))
