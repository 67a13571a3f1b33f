-- `marks::count_marks` meets its contract.
-- Assumes nothing.
use Rattle.std.proofs.Common.{◌≡◌, ◌*◌, ◌/◌, get_or, arith, refl, ap, ◌∙◌}
use Rattle.std.proofs.lemmas.List.{get_or-take, length-take-le}
use lib.Count.{ones-le}
use Rattle.marks.specs.Marks.{marked, count}
use Rattle.marks.proofs.Marks.{count-le}
use Rattle.marks.proofs.Words.{next_word, last_word, last-le}
use Rattle.marks.proofs.count_marks.Goals as goal

pub loop-word-init : goal.loop-word-init
unfolding count
loop-word-init c = refl

pub overflow_add-sum : goal.overflow_add-sum
overflow_add-sum c =
    let k = c.loop-word.word-index in
    let l = length-take-le (c.args.n / 64) c.args.marks.now (omega arith) in
    let word = get_or-take (c.args.n / 64) c.args.marks.now k 0 (omega (arith, l)) in
    rw word (omega (arith, ones-le 64 (get_or c.args.marks.now k 0) (c.type_inv.marks k).fits, count-le (k * 64) (marked c.args.marks.now)))

pub loop-word-preserved : goal.loop-word-preserved
loop-word-preserved c =
    let k = c.loop-word.word-index in
    let l = length-take-le (c.args.n / 64) c.args.marks.now (omega arith) in
    let word = get_or-take (c.args.n / 64) c.args.marks.now k 0 (omega (arith, l)) in
    rw (word, c.loop-word.invariant) (next_word c.args.marks.now k (c.type_inv.marks k).fits)

-- after the loop
whole : (c : goal.After-shared_slice_known-1) → c.loop-word.sum ≡ count (c.args.n / 64 * 64) (marked c.args.marks.now)
whole c =
    let l = length-take-le (c.args.n / 64) c.args.marks.now (omega arith) in
    c.loop-word.invariant ∙ ap (λ k. count (k * 64) (marked c.args.marks.now)) (omega (arith, l))

pub overflow_add-sum-then-rest-gt0 : goal.overflow_add-sum-then-rest-gt0
overflow_add-sum-then-rest-gt0 c = omega (arith, last-le c.args.marks.now c.args.n, whole c)

pub returns-then-rest-gt0 : goal.returns-then-rest-gt0
returns-then-rest-gt0 c = rw (whole c) (last_word c.args.marks.now c.args.n)
