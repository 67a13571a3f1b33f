-- One entry more is right.
use Rattle.std.proofs.Common.{refl, sym, ap, ◌∙◌, arith}
use Rattle.std.specs.Prelude.{ℕ, ◌≡◌, get_or}
use Rattle.common.specs.Tests.{all_below}
use Rattle.common.proofs.Tests.{below_next, below_fails}
use Rattle.widths.specs.Loading.{is_entry, entries_fit}
use Rattle.widths.proofs.Widths.is_loadable.Goals as goal

pub loop-nbpp-init : goal.loop-nbpp-init
unfolding all_below
loop-nbpp-init c = refl

pub loop-nbpp-preserved : goal.loop-nbpp-preserved
loop-nbpp-preserved c =
    below_next c.loop-nbpp.nbpp (λ n. is_entry n (get_or c.args.self.now.entries n 0)) c.loop-nbpp.invariant
    (sym c.if-not-is_entry.ensures)

pub returns-then-not-is_entry : goal.returns-then-not-is_entry
unfolding entries_fit
returns-then-not-is_entry c =
    sym (below_fails 65 (λ n. is_entry n (get_or c.args.self.now.entries n 0)) c.loop-nbpp.nbpp c.loop-nbpp-test.true
    (sym c.if-not-is_entry.ensures))

pub returns : goal.returns
unfolding entries_fit
returns c =
    let e : c.loop-nbpp.nbpp ≡ 65 = omega arith in
    sym c.loop-nbpp.invariant ∙ ap (λ (n : ℕ). all_below n (λ k. is_entry k (get_or c.args.self.now.entries k 0))) e
