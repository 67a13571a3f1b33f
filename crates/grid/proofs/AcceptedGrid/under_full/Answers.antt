-- The grid under full is accepted too.
-- Assumes nothing.
use Rattle.grid.specs.declared.EdgeRule.TheVariants.{Full}
use Rattle.grid.proofs.Runs.{accepted_rule}
use Rattle.grid.proofs.AcceptedGrid.under_full.Goals as goal

pub invariant_of-result : goal.invariant_of-result
invariant_of-result c = record { accepted = accepted_rule Full c.args.self.grid c.args.self.accepted }
