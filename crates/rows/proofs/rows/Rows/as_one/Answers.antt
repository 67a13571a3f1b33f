-- `rows::rows::Rows::as_one`: the bits of the one row are those of the rows.
-- Assumes nothing.
use Rattle.std.proofs.Common.{ℕ, ◌*◌, ap, arith}
use Rattle.rows.proofs.rows.Rows.as_one.Goals as goal

pub invariant_of-result-clause-bits_counted : goal.invariant_of-result-clause-bits_counted
invariant_of-result-clause-bits_counted c =
    let rows = c.args.self in omega (arith, ap (λ (x : ℕ). rows.count * x) c.if-self-first.true)
