-- An accepted write has room, and leaves each part's entries.
use Rattle.std.proofs.Common.{sym}
use Rattle.std.proofs.lemmas.Result.{err_from_is_err_and}
use Rattle.common.proofs.Questions.{outcome-yes}
use Rattle.subheader.specs.Subheader.{write_subheader}
use Rattle.subheader.proofs.Parts.{held}
use Rattle.subheader.proofs.Refused.{refused}
use Rattle.subheader.proofs.ImageSubheader.write.Goals as goal

pub returns-in_err-check_write : goal.returns-in_err-check_write
unfolding write_subheader
returns-in_err-check_write c =
    let p = err_from_is_err_and c.from_residual.result c.from_residual.ensures.1 in
    rw (p.1, p.2) (refused _ _ _ c.in_err-check_write.ensures)

pub put_first-requires : goal.put_first-requires
put_first-requires c = (held _ _ _ _ _ (sym c.in_ok-check_write.ensures)).first

pub put_second-requires : goal.put_second-requires
put_second-requires c = (held _ _ _ _ _ (sym c.in_ok-check_write.ensures)).second

pub put_third-requires : goal.put_third-requires
put_third-requires c = (held _ _ _ _ _ (sym c.in_ok-check_write.ensures)).third

pub returns : goal.returns
unfolding write_subheader
returns c =
    rw (c.put_first.ensures, c.put_second.ensures, c.put_third.ensures)
    (sym (outcome-yes _ _ (sym c.in_ok-check_write.ensures)))
