-- The first j places are raised.
use Rattle.std.proofs.Common.{◌≡◌, ℕ, ◌<◌, ◌≤◌, max, get_or}
use Rattle.fits.specs.Internal.Rows.{greatest_of_four}
use Rattle.fits.proofs.raise.Given as goal

abbrev pub invariant-loop-j : goal.invariant-loop-j
invariant-loop-j l =
    record {
      raised : (i : ℕ) → i < l.j → get_or l.tops i 0 ≡ max (get_or l.fn.tops i 0) (greatest_of_four l.four i);
      rest : (i : ℕ) → l.j ≤ i → get_or l.tops i 0 ≡ get_or l.fn.tops i 0;
    }
