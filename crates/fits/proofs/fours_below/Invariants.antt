-- Each place of `tops` has the greatest byte there of the rows so far.
use Rattle.std.proofs.Common.{◌≡◌, ℕ, ◌<◌, [], get_or}
use Rattle.fits.specs.Internal.Rows.{greatest_of_four}
use Rattle.fits.proofs.FirstBytes.{greatest}
use Rattle.fits.proofs.fours_below.Given as goal

abbrev pub invariant-loop-four : goal.invariant-loop-four
invariant-loop-four l =
    (j : ℕ) → j < 128 → get_or l.tops j 0 ≡ greatest (λ q. greatest_of_four (get_or l.fours q []) j) l.four-index
