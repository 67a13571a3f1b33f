-- `layout::bands::bands_below` meets its contract.
-- Assumes nothing.
use Rattle.std.proofs.Common.{rules, refl, ◌<◌, ◌≤◌, tests}
use Rattle.std.proofs.lemmas.Iterator.{cases_from_all, YieldsList-from_slice}
use Rattle.common.specs.Tests.{pick}
use Rattle.layout.specs.Bands.{q8}
use Rattle.layout.proofs.Below.{below-from_all}
use Rattle.layout.proofs.bands.bands_below.Goals as goal

pub returns-in-None : goal.returns-in-None
unfolding q8 pick
returns-in-None c = rw c.in-None.is refl

pub returns-in-Some : goal.returns-in-Some
unfolding q8 pick
returns-in-Some c =
    let m = c.args.bands in
    let answered =
    cases_from_all _ _ _ (λ x. x < m) (λ x. m ≤ x) c.all.ensures.ran (YieldsList-from_slice c.in-Some.list.now cc)
    (λ x q k. search (rules, tests)) (λ x q k. search (rules, tests)) in
    rw c.in-Some.is (below-from_all _ c.in-Some.list.now m answered)
