-- Laws of bands asked for.
-- Assumes nothing.
use mathlib.Core.Path.{◌≡◌, ap}
use mathlib.Core.Bool.{Bool, true, false}
use Prim.Native.Nat.{ℕ, ◌*◌, ◌<◌}
use native.Mathlib.Omega.{arith}
use lib.Dec.{leb, ltb}
use lib.ListN.{length, get_or}
use borrow.Author.Tests.{ltb-true}
use Rattle.common.specs.Tests.{pick, all_below}
use Rattle.common.proofs.Tests.{pick_no, below_at}
use Rattle.layout.specs.Bands.{Bands, band_count, band_at, q8, q9}

-- a band of the answer is a band of the picture
pub band_lt : (bands : ℕ) (bs : Bands) → q8 bands bs ≡ true → (k : ℕ) → k < band_count bands bs → band_at bs k < bands
unfolding q8 band_count band_at pick
band_lt bands bs e k h = go bs.all e h
  where
    go : (a : Bool) → pick a true (all_below (length bs.list) (λ j. ltb (get_or bs.list j 0) bands)) ≡ true
        → k < pick a bands (length bs.list) → pick a k (get_or bs.list k 0) < bands
    go true e h = h
    go false e h = ltb-true _ _ (below_at (length bs.list) (λ j. ltb (get_or bs.list j 0) bands) e k h)

-- where a list is asked for, a place of the answer is one of the list
pub listed_lt : (bands : ℕ) (bs : Bands) (k : ℕ) → bs.all ≡ false → k < band_count bands bs → k < length bs.list
unfolding band_count
listed_lt bands bs k e h = rw (pick_no bands (length bs.list) e) at h

-- question 9 by the bytes of a band
pub room-is : (k rows columns s m : ℕ) → leb (k * (rows * columns * s)) m ≡ q9 k rows columns s m
unfolding q9
room-is k rows columns s m = let e : k * (rows * columns * s) ≡ k * rows * columns * s = omega arith in ap (λ (x : ℕ). leb x m) e
