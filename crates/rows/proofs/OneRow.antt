-- Laws of rows that follow each other on both sides: they are one row of all their samples.
-- Assumes nothing.
use Prim.Native.Nat.{ℕ, zero, suc, ◌+◌, ◌-◌, ◌*◌, ◌/◌, ◌%◌, ◌≤◌, ◌<◌}
use mathlib.Core.Path.{◌≡◌, refl, sym, ap, ap₂, ◌∙◌}
use mathlib.Core.List.{List}
use native.Mathlib.Omega.{arith}
use native.Mathlib.Nat.{mul-le-mul_left, mul-le-mul_right, zero-mul, div-add-mod', div-lt_iff_lt-mul, mod-lt}
use lib.ListN.{length}
use Rattle.common.specs.Over.{over}
use Rattle.common.specs.Turns.{iter}
use Rattle.common.proofs.Turns.{iter_steps}
use Rattle.bits.specs.Bits.{bits_at}
use Rattle.bits.specs.Values.{values, side_by_side}
use Rattle.bits.proofs.Bits.{within, next-sample}
use Rattle.bits.proofs.Values.{values-none, values_run}
use Rattle.samples.specs.Internal.Samples.{spaced, samples_read, samples_written, SamplesFit}
use Rattle.samples.proofs.Groups.{side_by_side-from, put_rest}
use Rattle.samples.proofs.Moves.{put_spaced-none}
use Rattle.rows.specs.Internal.Rows.{Movable, row_read, rows_read, row_written, rows_written}
use Rattle.rows.proofs.WholeBytes.{last_row}

-- turns each of which moves `count` samples more
by_turns : (F : ℕ → List ℕ) (f : ℕ → List ℕ → List ℕ) (count m : ℕ)
    → ((i : ℕ) → i < m → f i (F (i * count)) ≡ F (i * count + count)) → F (m * count) ≡ iter m f (F 0)
by_turns F f count m turn =
    sym
    (iter_steps (λ i z. z ≡ F (i * count)) m f (F 0)
    (λ i h z e. ap (f i) e ∙ turn i h ∙ ap F (sym (next-sample i count))) (ap F (sym (zero-mul count))))

-- rows of samples without further bits, which follow each other in the lent data
pub fit_as_one : (dat : List ℕ) (o s w count m : ℕ) {line : ℕ} → line ≡ count * s
    → ((i : ℕ) → i < m → SamplesFit dat (o + i * line) s w count) → SamplesFit dat o s w (m * count)
fit_as_one dat o s w zero m {line} e f k h = absurd (omega arith)
fit_as_one dat o s w (suc n) m {line} e f k h =
    let count : ℕ = suc n in
    let i : ℕ = k / count in
    let row : i < m = (div-lt_iff_lt-mul {k = count} {x = k} {y = m} (omega arith)).1 h in
    let start : o + i * count * s ≡ o + i * line = omega (arith, ap (λ (x : ℕ). i * x) e) in
    rw (← div-add-mod' k count, ← side_by_side-from dat o s (i * count) (k % count), start)
    (f i row (k % count) (mod-lt k (omega arith)))

-- m rows of `count` samples, from bit `at` of an image and from index o of the lent data on
module _ (at step w s count m o : ℕ) {row line : ℕ} (er : row ≡ count * step) (el : line ≡ count * s) where
  -- where row i starts on each side, by the samples before it
  starts : (i : ℕ) → (at + i * row ≡ at + i * count * step) × (o + i * line ≡ o + i * count * s)
  starts i = (omega (arith, ap (λ (x : ℕ). i * x) er), omega (arith, ap (λ (x : ℕ). i * x) el))

  -- the one row can be moved, and its samples can be counted
  pub one-row : (n l : ℕ) → (0 < s) × (0 < m) × (o + m * line + count * s ≤ l + line)
      → ((i : ℕ) → i < m → Movable n (at + i * row) step w s count)
      → Movable n at step w s (m * count) × (o + m * count * s ≤ l) × (m * count ≤ l)
  one-row n l h rows =
      let e = starts m in
      let p = last_row m row h.1 in
      let r = rows (m - 1) (omega arith) in
      let first : at + 0 * row ≡ at = omega arith in (
        record {
          whole = λ z. rw first at ((rows 0 h.1).whole z);
          inside = omega (arith, r.inside);
          fits = omega (arith, r.fits);
        },
        omega arith,
        omega (arith, mul-le-mul_left (m * count) h.0),
      )

  -- read
  pub read_as_one : (xs d : List ℕ) {zs : List ℕ} → o + m * count * s ≤ length d
      → zs ≡ samples_read xs at step w s (m * count) o d → zs ≡ rows_read xs at row step w s count o line m d
  unfolding spaced
  read_as_one xs d room ez =
      ez
      ∙ by_turns (λ k. samples_read xs at step w s k o d) (row_read xs at row step w s count o line) count m
      (λ i h.
      let k = mul-le-mul_right s (within i m count h) in
      values_run (spaced xs at step w) (spaced xs (at + i * row) step w) s d o (i * count) count (omega arith) refl
      (rw (starts i).1 refl)
      (λ j l. ap (λ (x : ℕ). bits_at xs x w) (omega (arith, (starts i).0))))
      ∙ ap (iter m (row_read xs at row step w s count o line)) (sym (values-none (spaced xs at step w) s d o))

  -- written
  pub written_as_one : (dat d : List ℕ) {zs : List ℕ} → zs ≡ samples_written dat o s w at step (m * count) d
      → zs ≡ rows_written dat o line s w at row step count m d
  written_as_one dat d ez =
      ez
      ∙ by_turns (λ k. samples_written dat o s w at step k d) (row_written dat o line s w at row step count) count m
      (λ i h.
      let n : i * count + count - i * count ≡ count = omega arith in
      put_rest dat o s w at step (i * count) (i * count + count) d (omega arith) refl
      (rw ((starts i).0, (starts i).1, n) refl))
      ∙ ap (iter m (row_written dat o line s w at row step count))
      (sym (put_spaced-none (side_by_side dat o s) w at step d))

-- ---- one row alone

pub only_row : (xs : List ℕ) (at row step w s count o line : ℕ) (d : List ℕ) {zs : List ℕ}
    → zs ≡ rows_read xs at row step w s count o line 1 d → zs ≡ samples_read xs at step w s count o d
unfolding iter
only_row xs at row step w s count o line d ez =
    ez ∙ ap₂ (λ (p q : ℕ). over d p (values (spaced xs q step w) s count)) (omega arith) (omega arith)

-- ---- rows of one sample each, side by side in the lent data: one row of as many samples

pub column_as_one : (xs : List ℕ) (at row step w s m o : ℕ) (d : List ℕ) {zs : List ℕ} → o + m * s ≤ length d
    → zs ≡ samples_read xs at row w s m o d → zs ≡ rows_read xs at row step w s 1 o s m d
unfolding spaced
column_as_one xs at row step w s m o d room ez =
    ez
    ∙ sym
    (iter_steps (λ i z. z ≡ samples_read xs at row w s i o d) m (row_read xs at row step w s 1 o s) d
    (λ i h z e.
    values_run (spaced xs at row w) (spaced xs (at + i * row) step w) s d o i 1 (omega (arith, mul-le-mul_right s h)) e refl
    (λ j l.
    let first : j ≡ 0 = omega arith in rw first (ap (λ (x : ℕ). bits_at xs x w) (omega arith))))
    (values-none (spaced xs at row w) s d o))
