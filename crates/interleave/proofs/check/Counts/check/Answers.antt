-- `interleave::check::Counts::check` meets its contract.
-- Assumes nothing.
use Rattle.std.proofs.Common.{ℕ, ◌≡◌, ◌*◌, ◌≤◌, true, leb, eqb, arith, sym, ◌∙◌}
use Rattle.std.proofs.lemmas.Grind.{common_steps}
use Rattle.std.proofs.Math.Nat.{le-mul_of_pos_right}
use borrow.Author.Tests.{leb-true, le-leb, lt-leb, eq-eqb, ne_eqb}
use Rattle.common.specs.Questions.{ask}
use Rattle.common.specs.Tests.{within, every}
use Rattle.layout.specs.Bands.{Bands, bands_in, band_count, q8, q9}
use Rattle.interleave.specs.declared.check.Counts.{Counts}
use Rattle.interleave.specs.Interleave.{reorder_number}
use Rattle.interleave.proofs.Accepted.{has_bands}
use Rattle.interleave.proofs.check.Counts.check.Goals as goal
use Rattle.interleave.proofs.check.Counts.check.Goals.{then-size-lt1-via-then-size-lt1}
use Rattle.interleave.proofs.check.Counts.check.Goals.{then-size-lt1-via-else-size-lt1+then-size-gt8}

-- the bytes of all samples, as the code multiplies them
abbrev whole : Counts → ℕ
whole p = p.rows * p.columns * (p.bands * p.size)

in_order : (p : Counts) → whole p ≡ p.bands * p.rows * p.columns * p.size
in_order p = omega arith

yes_2 : (s : ℕ) → 1 ≤ s → s ≤ 8 → within 1 8 s ≡ true
unfolding within every
yes_2 s lo hi = simp (le-leb 1 s lo, le-leb s 8 hi)

module _ (p : Counts) (bs : Bands) (n m : ℕ) (lo : 1 ≤ p.size) (hi : p.size ≤ 8) where
  -- past question 2
  after_2 : reorder_number bs p.rows p.columns p.bands p.size n m ≡ ask 4 (leb (whole p) 4_294_967_294)
      (ask 14 (eqb n (whole p))
      (ask 8 (q8 p.bands bs)
      (ask 9 (q9 (band_count p.bands bs) p.rows p.columns p.size m) 0)))
  unfolding reorder_number
  after_2 = rw (in_order p) (simp (yes_2 p.size lo hi))

  -- past 4 and 14
  after_14 : true ≡ leb (whole p) 4_294_967_294 → n ≡ whole p → reorder_number bs p.rows p.columns p.bands p.size n m
      ≡ ask 8 (q8 p.bands bs) (ask 9 (q9 (band_count p.bands bs) p.rows p.columns p.size m) 0)
  after_14 small full = after_2 ∙ simp (sym small, eq-eqb n (whole p) full)

  -- and past 8, where the code has the product of 9 as k bands of b bytes
  after_8 : (k b : ℕ) → true ≡ leb (whole p) 4_294_967_294 → n ≡ whole p → true ≡ q8 p.bands bs
      → k ≡ band_count p.bands bs → k * b ≡ k * p.rows * p.columns * p.size
      → reorder_number bs p.rows p.columns p.bands p.size n m ≡ ask 9 (leb (k * b) m) 0
  unfolding q9
  after_8 k b small full listed e f = after_14 small full ∙ simp (sym listed, ← e, f)

pub returns-then-size-lt1-clause-number : goal.returns-then-size-lt1-clause-number
unfolding reorder_number within every
returns-then-size-lt1-clause-number c =
    let s : ℕ = c.args.self.size in
    elim c.then-size-lt1.branch [
      | then-size-lt1-via-then-size-lt1 w ↦ simp (lt-leb 1 s (omega arith))
      | then-size-lt1-via-else-size-lt1+then-size-gt8 w ↦ simp (le-leb 1 s (omega arith), lt-leb s 8 (omega arith))
    ]

pub returns-then-not-product_fits-clause-number : goal.returns-then-not-product_fits-clause-number
returns-then-not-product_fits-clause-number c =
    let a = c.args in
    simp (
      after_2 a.self (bands_in a.asked) a.data a.room c.if-size-lt1.false c.if-size-gt8.false,
      sym c.if-not-product_fits.ensures,
    )

pub returns-then-data-pixels-clause-number : goal.returns-then-data-pixels-clause-number
returns-then-data-pixels-clause-number c =
    let a = c.args in
    simp (
      after_2 a.self (bands_in a.asked) a.data a.room c.if-size-lt1.false c.if-size-gt8.false,
      sym c.if-not-product_fits.ensures,
      ne_eqb a.data (whole a.self) c.if-data-pixels.true,
    )

pub returns-then-not-bands_below-clause-number : goal.returns-then-not-bands_below-clause-number
returns-then-not-bands_below-clause-number c =
    let a = c.args in
    simp (
      after_14 a.self (bands_in a.asked) a.data a.room c.if-size-lt1.false c.if-size-gt8.false
          c.if-not-product_fits.ensures c.if-data-pixels.false,
      sym c.if-not-bands_below.ensures,
    )

pub overflow_mul-band : goal.overflow_mul-band
overflow_mul-band c =
    let p = c.args.self in
    let listed = sym c.if-not-bands_below.ensures in
    let h = has_bands p.bands (bands_in c.args.asked) listed (omega (arith, c.band_count-bands.ensures)) in
    omega (
      arith,
      le-mul_of_pos_right (p.rows * p.columns * p.size) h,
      leb-true (whole p) 4_294_967_294 (sym c.if-not-product_fits.ensures),
    )

pub returns-then-not-product_fits-2-clause-number : goal.returns-then-not-product_fits-2-clause-number
returns-then-not-product_fits-2-clause-number c =
    let a = c.args in
    simp (
      after_8 a.self (bands_in a.asked) a.data a.room c.if-size-lt1.false c.if-size-gt8.false
          c.band_count-bands.result c.if-bands-eq0.band c.if-not-product_fits.ensures c.if-data-pixels.false
          c.if-not-bands_below.ensures c.band_count-bands.ensures (grind (arith, common_steps)),
      sym c.if-not-product_fits-2.ensures,
    )

pub returns-clause-number : goal.returns-clause-number
returns-clause-number c =
    let a = c.args in
    simp (
      after_8 a.self (bands_in a.asked) a.data a.room c.if-size-lt1.false c.if-size-gt8.false
          c.band_count-bands.result c.if-bands-eq0.band c.if-not-product_fits.ensures c.if-data-pixels.false
          c.if-not-bands_below.ensures c.band_count-bands.ensures (grind (arith, common_steps)),
      sym c.if-not-product_fits-2.ensures,
    )
