-- Four rows more.
use Rattle.std.proofs.Common.{◌≡◌, ℕ, ◌∙◌, [], get_or, length, max, sym, ap, rules, arith, add-one}
use borrow.Author.Tests.{tests}
use Rattle.common.proofs.Tests.{all-below}
use Rattle.std.proofs.lemmas.List.{get_or-replicate}
use Rattle.fits.specs.Internal.Rows.{greatest_of_four}
use Rattle.fits.proofs.FirstBytes.{greatest, tops_tell}
use Rattle.fits.proofs.fours_below.Goals as goal

pub returns-then-is_empty : goal.returns-then-is_empty
returns-then-is_empty c =
    let e : length c.args.fours.now ≡ 0 = search (rules, tests) in
    sym (all-below _ _ (λ k h. absurd (omega arith)))

pub loop-four-init : goal.loop-four-init
unfolding greatest
loop-four-init c = λ j h. get_or-replicate 128 j 0 0 h

pub loop-four-preserved : goal.loop-four-preserved
unfolding greatest
loop-four-preserved c = λ j h.
    c.raise.ensures j h
    ∙ ap (λ (x : ℕ). max x (greatest_of_four (get_or c.args.fours.now c.loop-four.four-index []) j)) (c.loop-four.invariant j h)
    ∙ rw add-one

pub returns : goal.returns
returns c =
    let a = c.args in
    let r = c.requires in
    let e : c.loop-four.four-index ≡ length a.fours.now = omega arith in
    c.all_below.ensures
    ∙ tops_tell a.size a.limit r.0 r.1 r.2 a.fours.now c.loop-four.tops c.loop-four-test.array_long c.told-fours
    (λ j h. c.loop-four.invariant j h ∙ ap (greatest (λ q. greatest_of_four (get_or a.fours.now q []) j)) e)
