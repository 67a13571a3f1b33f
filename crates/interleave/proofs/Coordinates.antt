-- The band, row and column of a place in the order of a mode, and the steps between neighbours in that order.
-- Assumes nothing.
use Prim.Native.Nat.{ℕ, zero, suc, ◌+◌, ◌*◌, ◌/◌, ◌%◌, ◌<◌}
use mathlib.Core.Path.{◌≡◌}
use native.Mathlib.Omega.{arith}
use native.Mathlib.Nat.{div-add-mod', mod-lt, div-lt_iff_lt-mul}
use Rattle.layout.specs.declared.InterleaveMode.{InterleaveMode}
use Rattle.layout.specs.declared.InterleaveMode.TheVariants.{B, P, R, S}
use Rattle.layout.specs.Order.{ordinal}
use Rattle.layout.proofs.Order.{Same3, ordinal_lt, ordinal_inj}
use Rattle.interleave.specs.Interleave.{band_of, row_of, column_of}

-- a number below a product tells that each factor is above 0
abbrev pub Positive : ℕ → ℕ → ℕ → Type 0
Positive a b c = (0 < a) × (0 < b) × (0 < c)

pub positive : (a b c n : ℕ) → n < a * b * c → Positive a b c
positive zero b c n h = absurd (omega arith)
positive (suc a) zero c n h = absurd (omega arith)
positive (suc a) (suc b) zero n h = absurd (omega arith)
positive (suc a) (suc b) (suc c) n h = (omega arith, omega arith, omega arith)

-- a product that is not 0
pub not_empty : (a b c s : ℕ) → (a * b * c * s ≡ 0 → ⊥) → Positive a b c
not_empty zero b c s ne = absurd (ne (omega arith))
not_empty (suc a) zero c s ne = absurd (ne (omega arith))
not_empty (suc a) (suc b) zero s ne = absurd (ne (omega arith))
not_empty (suc a) (suc b) (suc c) s ne = (omega arith, omega arith, omega arith)

-- the three digits of a number in a mixed radix
digits : (k q p x : ℕ) → x < k * q * p → (x / p / q < k) × (x / p % q < q) × (x % p < p) × ((x / p / q * q + x / p % q) * p + x % p ≡ x)
digits k q p x h =
    let z = positive k q p x h in (
      (div-lt_iff_lt-mul z.1).1 ((div-lt_iff_lt-mul z.2).1 h),
      mod-lt (x / p) z.1,
      mod-lt x z.2,
      rw (div-add-mod' (x / p) q, div-add-mod' x p),
    )

-- place n in the order of a mode: a band, a row and a column of the block, which stand at place n
pub record Coordinates (m : InterleaveMode) (bands rows columns n : ℕ) : Type 0 where
  pub in_b : band_of m bands rows columns n < bands
  pub in_r : row_of m bands rows columns n < rows
  pub in_c : column_of m bands rows columns n < columns
  pub there : ordinal m bands rows columns (band_of m bands rows columns n) (row_of m bands rows columns n) (column_of m bands rows columns n) ≡ n

pub coordinates : (m : InterleaveMode) (bands rows columns n : ℕ) → n < bands * rows * columns → Coordinates m bands rows columns n
coordinates B bands rows columns n h =
    let d = digits bands rows columns n h in record { in_b = d.0; in_r = d.1; in_c = d.2; there = d.3 }
coordinates P bands rows columns n h =
    let d = digits rows columns bands n (omega arith) in record { in_b = d.2; in_r = d.0; in_c = d.1; there = d.3 }
coordinates R bands rows columns n h =
    let d = digits rows bands columns n (omega arith) in record { in_b = d.1; in_r = d.0; in_c = d.2; there = d.3 }
coordinates S bands rows columns n h =
    let d = digits bands rows columns n h in record { in_b = d.0; in_r = d.1; in_c = d.2; there = d.3 }

-- the coordinates of the place of a sample are the sample's
pub coordinates_of : (m : InterleaveMode) (bands rows columns b r c : ℕ) → b < bands → r < rows → c < columns
    → Same3 (band_of m bands rows columns (ordinal m bands rows columns b r c)) (row_of m bands rows columns (ordinal m bands rows columns b r c)) (column_of m bands rows columns (ordinal m bands rows columns b r c)) b r c
coordinates_of m bands rows columns b r c hb hr hc =
    let a = coordinates m bands rows columns (ordinal m bands rows columns b r c) (omega (arith, ordinal_lt m bands rows columns b r c hb hr hc)) in
    ordinal_inj m bands rows columns _ _ _ b r c a.in_b a.in_r a.in_c hb hr hc a.there
