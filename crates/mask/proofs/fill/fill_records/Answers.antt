-- `mask::fill::fill_records` meets its contract.
-- Assumes nothing.
use Rattle.std.proofs.Common.{◌≡◌, ◌≢◌, ℕ, ◌<◌, List, ◌++◌, length, drop, sym, ◌∙◌, arith}
use Rattle.std.proofs.Common.{zero-add, below_more, length-take, get_or-set_other, get_or-set_same}
use Rattle.common.specs.Over.{over}
use Rattle.common.proofs.Tests.{pick_yes, pick_no}
use Rattle.mask.specs.Table.{records}
use Rattle.mask.specs.Mask.{mark_record}
use Rattle.mask.proofs.Records.{filled_lt}
use Rattle.common.proofs.Tabulate.{tabulate_is}
use Rattle.mask.proofs.fill.fill_records.Goals as goal
use Rattle.mask.proofs.fill.fill_records.Goals.{then-is_marked, else-is_marked}

-- words put in the place of the first n
front : (d vs : List ℕ) (n : ℕ) → length vs ≡ n → vs ++ drop n d ≡ over d 0 vs
unfolding over
front d vs n e = rw (e, zero-add)

pub is_marked-requires : goal.is_marked-requires
is_marked-requires c =
    let k : c.loop-k.k < c.record_count.result = omega (arith, length-take c.record_count.result c.args.out.now) in
    let inside = filled_lt _ _ c.args.grid.accepted (rw c.record_count.ensures at k) in
    rw c.filled_block.ensures (omega (arith, inside))

pub loop-k-preserved : goal.loop-k-preserved
loop-k-preserved c =
    let marked = rw c.filled_block.ensures at c.is_marked.ensures in
    let at : c.loop-k.k < length c.loop-k.words = omega arith in
    below_more _ _
    (λ i h. let ne : i ≢ c.loop-k.k = omega arith in rw get_or-set_other (c.loop-k.invariant i h))
    (rw get_or-set_same
    (elim c.if-is_marked.branch [
      | then-is_marked w ↦ w.word-is ∙ sym (pick_yes 0 0xFFFF_FFFF (sym marked ∙ w.if-is_marked.true))
      | else-is_marked w ↦ w.word-is ∙ sym (pick_no 0 0xFFFF_FFFF (sym marked ∙ w.if-is_marked.false))
    ]))

pub returns : goal.returns
returns c =
    let g = c.args.grid.grid in
    let all = length-take c.record_count.result c.args.out.now in
    let n : length c.loop-k.words ≡ records g = omega (arith, c.record_count.ensures, all) in
    let filled = tabulate_is _ (mark_record g c.args.marks.now) _ n (λ i h. c.loop-k.invariant i (omega arith)) in
    rw (← filled) (front c.args.out.now c.loop-k.words _ (n ∙ sym c.record_count.ensures))
