-- The entries so far are all right.
use Rattle.std.proofs.Common.{◌≡◌}
use Rattle.std.specs.Prelude.{true, get_or}
use Rattle.common.specs.Tests.{all_below}
use Rattle.widths.specs.Loading.{is_entry}
use Rattle.widths.proofs.Widths.is_loadable.Given as goal

abbrev pub invariant-loop-nbpp : goal.invariant-loop-nbpp
invariant-loop-nbpp l = all_below l.nbpp (λ n. is_entry n (get_or l.self.entries n 0)) ≡ true
