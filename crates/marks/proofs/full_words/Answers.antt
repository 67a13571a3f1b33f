-- `marks::full_words` meets its contract.
-- Assumes nothing.
use Rattle.std.proofs.Common.{rules, tests, ◌≡◌, ◌≢◌, take}
use Rattle.std.proofs.lemmas.Iterator.{IsFirst-from_position, YieldsList-from_slice}
use lib.Count.{ones}
use Rattle.marks.proofs.Words.{found_full}
use Rattle.marks.proofs.full_words.Goals as goal

pub returns : goal.returns
returns c =
    let found =
    IsFirst-from_position _ _ _ (λ x. ones x ≢ 64) (λ x. ones x ≡ 64) c.position-found.ensures.ran
    (YieldsList-from_slice (take c.args.n c.args.marks.now) cc)
    (λ x q k. search (rules, tests)) (λ x q k. search (rules, tests)) in
    rw c.unwrap_or.ensures (found_full c.args.marks.now c.args.n _ c.requires (λ i. (c.type_inv.marks i).fits) found)
