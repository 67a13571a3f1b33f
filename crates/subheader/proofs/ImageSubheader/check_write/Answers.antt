-- Each "no" gives its number, in the order of the questions.
use Rattle.std.proofs.Common.{refl, sym, ◌∙◌, arith}
use Rattle.std.proofs.lemmas.Result.{err_from_is_err_and}
use borrow.Author.Tests.{le-leb, lt-leb}
use Rattle.common.proofs.Flags.{no, yes}
use Rattle.common.proofs.Questions.{ask-yes, ask-no}
use Rattle.grid.specs.Check.{grid_number}
use Rattle.grid.proofs.Accepted.{grid-before}
use Rattle.subheader.specs.Subheader.{q24_write, write_number}
use Rattle.refusals.proofs.Numbers.{number-pos}
use Rattle.subheader.proofs.ImageSubheader.check_write.Goals as goal

pub returns-then-self-gt-MAX_ABPP : goal.returns-then-self-gt-MAX_ABPP
unfolding write_number q24_write
returns-then-self-gt-MAX_ABPP c = simp (lt-leb _ _ c.if-self-gt-MAX_ABPP.true)

pub returns-in_err-check : goal.returns-in_err-check
unfolding write_number q24_write grid_number
returns-in_err-check c =
    let p = err_from_is_err_and c.from_residual.result c.from_residual.ensures.1 in
    rw (p.1, p.2)
    (simp (le-leb _ _ c.if-self-gt-MAX_ABPP.false)
    ((grid-before _ _).refuses c.in_err-check.ensures.number
    (λ z. omega (arith, number-pos c.in_err-check.field-0.0)) _))

pub returns-then-not-parts_hold : goal.returns-then-not-parts_hold
unfolding write_number q24_write grid_number
returns-then-not-parts_hold c =
    let room = ask-no 9 0 (no c.parts_hold.ensures c.if-not-parts_hold.true) in
    simp (le-leb _ _ c.if-self-gt-MAX_ABPP.false)
    (sym ((grid-before _ _).accepts c.in_ok-check.ensures.number refl _ ∙ room))

pub returns : goal.returns
unfolding write_number q24_write grid_number
returns c =
    let room = ask-yes 9 0 (yes c.parts_hold.ensures c.if-not-parts_hold.false) in
    simp (le-leb _ _ c.if-self-gt-MAX_ABPP.false)
    (sym ((grid-before _ _).accepts c.in_ok-check.ensures.number refl _ ∙ room))
