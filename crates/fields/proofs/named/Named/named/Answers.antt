-- Each turn looks at one value more.
use Rattle.std.proofs.Common.{◌≡◌, [], drop, sym, ◌∙◌, refl}
use Rattle.std.proofs.lemmas.List.{drop_all}
use Rattle.fields.specs.Named.{is_named, value_of}
use Rattle.fields.proofs.Values.{named_here, named_later}
use Rattle.fields.proofs.named.Named.named.Goals as goal

pub loop-value-init : goal.loop-value-init
loop-value-init g c = record { is_there = refl; value = λ other. refl }

pub returns-then-eq : goal.returns-then-eq
returns-then-eq g c =
    let here = named_here _ _ c.values-value-items.ensures c.loop-value-test.true c.value-item.is (cc) in
    record {
      is_there = sym here.is_there ∙ c.loop-value.invariant.is_there;
      value = λ other. sym (here.value other) ∙ c.loop-value.invariant.value other;
    }

pub loop-value-preserved : goal.loop-value-preserved
loop-value-preserved g c =
    let later = named_later _ _ c.values-value-items.ensures c.loop-value-test.true c.value-item.is (cc) in
    record {
      is_there = later.is_there ∙ c.loop-value.invariant.is_there;
      value = λ other. later.value other ∙ c.loop-value.invariant.value other;
    }

pub returns : goal.returns
unfolding is_named value_of
returns g c =
    let past = rw c.values-value-items.ensures at c.loop-value-test.false in
    let none : drop c.loop-value.value-index g.Self.Named.values ≡ [] = drop_all _ _ past in
    record {
      is_there = rw none at c.loop-value.invariant.is_there;
      value = λ other. rw none at (c.loop-value.invariant.value other);
    }
