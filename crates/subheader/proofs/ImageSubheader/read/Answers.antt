-- The first refusal is the answer's.
use Rattle.std.proofs.Common.{ap, sym, ◌∙◌}
use Rattle.std.proofs.lemmas.Result.{err_from_is_err_and}
use Rattle.common.proofs.Questions.{outcome-yes}
use Rattle.subheader.specs.Subheader.{read_as, read_subheader}
use Rattle.subheader.proofs.Refused.{refused, read_parts_refused, read_names_refused, read_grid_asked}
use Rattle.subheader.proofs.ImageSubheader.read.Goals as goal

pub returns-in_err-new : goal.returns-in_err-new
unfolding read_subheader
returns-in_err-new c =
    let p = err_from_is_err_and c.from_residual.result c.from_residual.ensures.1 in
    rw (p.1, p.2) (refused _ _ _ (read_parts_refused _ _ _ _ _ _ _ c.in_err-new.ensures.number))

pub returns-in_err-subheader : goal.returns-in_err-subheader
unfolding read_subheader
returns-in_err-subheader c =
    let from = c.from_residual-in_err-subheader in
    let p = err_from_is_err_and from.result from.ensures.1 in
    let parts = c.in_ok-new.ensures.number in
    let same = c.in_ok-new.ensures.same in
    let number = rw (same.0, same.1, same.2) at c.in_err-subheader.ensures.number in
    rw (p.1, p.2) (refused _ _ _ (read_names_refused _ _ _ _ _ _ _ parts number))

pub returns-in_err-check : goal.returns-in_err-check
unfolding read_subheader
returns-in_err-check c =
    let from = c.from_residual-in_err-check in
    let p = err_from_is_err_and from.result from.ensures.1 in
    let parts = c.in_ok-new.ensures.number in
    let same = c.in_ok-new.ensures.same in
    let names = rw (same.0, same.1, same.2) at c.in_ok-subheader.ensures.number in
    let fields = rw (same.0, same.1, same.2) at c.in_ok-subheader.ensures.same in
    let asked = read_grid_asked _ _ _ _ _ _ parts names fields in
    rw (p.1, p.2) (refused _ _ _ (c.in_err-check.ensures.number ∙ asked))

pub returns : goal.returns
unfolding read_subheader
returns c =
    let parts = c.in_ok-new.ensures.number in
    let same = c.in_ok-new.ensures.same in
    let names = rw (same.0, same.1, same.2) at c.in_ok-subheader.ensures.number in
    let fields = rw (same.0, same.1, same.2) at c.in_ok-subheader.ensures.same in
    let asked = read_grid_asked _ _ _ _ _ _ parts names fields in
    ap (read_as 0) fields ∙ sym (outcome-yes _ _ (sym (c.in_ok-check.ensures.number ∙ asked)))
