-- The constant's entries follow the rule.
use Rattle.std.proofs.Common.{ap}
use Rattle.std.specs.Prelude.{List, ℕ}
use Rattle.widths.specs.declared.Widths.{Widths}
use Rattle.widths.specs.Widths.{standard}
use Rattle.widths.proofs.Constant.{constant, constant_is}
use Rattle.widths.proofs.Widths.standard.Goals as goal

pub returns : goal.returns
unfolding standard constant
returns c = ap (λ (xs : List ℕ). let ws : Widths = record { entries = xs } in ws) constant_is
