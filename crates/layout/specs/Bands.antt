-- Bands asked for.
-- Assumes nothing.
use Rattle.std.specs.Prelude.{ℕ, ◌*◌, Bool, true, false, List, [], Option, Some, None, leb, ltb, length, get_or}
use Rattle.std.specs.Borrow.{Bor}
use Rattle.common.specs.Tests.{pick, all_below}

-- all bands, which looks at no list, or those of a list, in its order; an empty list asks for none
pub record Bands : Type 0 where
  pub all : Bool
  pub list : List ℕ

abbrev pub bands_of : Bool → List ℕ → Bands
bands_of all list = record { all = all; list = list }

-- a caller's answer: no list is all bands
abbrev pub bands_in : Option (Bor (List ℕ)) → Bands
bands_in None = bands_of true []
bands_in (Some list) = bands_of false list.now

-- how many of so many bands are asked for
unfoldable pub band_count : ℕ → Bands → ℕ
band_count bands bs = pick bs.all bands (length bs.list)

-- the band that stands at place k of the answer
unfoldable pub band_at : Bands → ℕ → ℕ
band_at bs k = pick bs.all k (get_or bs.list k 0)

-- question 8: is every listed band below bands
unfoldable pub q8 : ℕ → Bands → Bool
q8 bands bs = pick bs.all true (all_below (length bs.list) (λ k. ltb (get_or bs.list k 0) bands))

-- question 9 of a read or a reordering: do m bytes hold so many bands of so many rows and columns, in samples of s
-- bytes
unfoldable pub q9 : ℕ → ℕ → ℕ → ℕ → ℕ → Bool
q9 bands rows columns s m = leb (bands * rows * columns * s) m
