-- `writing::finalize` meets its contract.
-- Assumes nothing.
use Rattle.std.proofs.Common.{sym, ap, arith}
use Rattle.std.proofs.lemmas.Result.{err_from_is_err_and}
use Rattle.common.specs.Questions.{outcome}
use Rattle.common.proofs.Questions.{refused-by}
use Rattle.refusals.proofs.Numbers.{number-some}
use Rattle.grid.proofs.Accepted.{facts, across-pos}
use Rattle.calls.specs.Writes.{number, unmarked_answer, finish}
use Rattle.calls.proofs.Numbers.{start-facts}
use Rattle.calls.proofs.Refused.{start-alone}
use Rattle.writing.proofs.finalize.Goals as goal

pub returns-in_err-check_buffers : goal.returns-in_err-check_buffers
unfolding finish
returns-in_err-check_buffers c =
    let p = err_from_is_err_and c.from_residual.result c.from_residual.ensures.1 in
    let e = c.in_err-check_buffers.ensures.number in
    rw (p.1, p.2, start-alone _ _ _ _ _ e) (refused-by _ number e (number-some _))

pub first_unmarked-requires : goal.first_unmarked-requires
first_unmarked-requires c =
    let k = start-facts _ _ _ _ (sym c.in_ok-check_buffers.ensures.number) in
    let f = facts _ k.accepted in
    (across-pos _ f, f.counts.nbpr-le, f.counts.nbpc-le, omega (arith, k.words))

pub returns-in-None : goal.returns-in-None
unfolding finish outcome
returns-in-None c = rw (sym c.in_ok-check_buffers.ensures.number) (ap unmarked_answer c.in-None.ensures)

pub returns-in-Some : goal.returns-in-Some
unfolding finish outcome
returns-in-Some c = rw (sym c.in_ok-check_buffers.ensures.number) (ap unmarked_answer c.in-Some.ensures)
