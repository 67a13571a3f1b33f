-- Laws of rows of samples of whole bytes.
-- Assumes nothing.
use Prim.Native.Nat.{ℕ, zero, suc, ◌+◌, ◌-◌, ◌*◌, ◌/◌, ◌≤◌, ◌<◌}
use mathlib.Core.Path.{◌≡◌, refl, sym, ap, ◌∙◌}
use mathlib.Core.List.{List}
use native.Mathlib.Omega.{arith}
use native.Mathlib.Nat.{suc-mul}
use lib.ListN.{length, take, drop}
use Rattle.bits.specs.Bits.{Bytes}
use Rattle.common.specs.Over.{over}
use Rattle.common.specs.Turns.{iter}
use Rattle.common.proofs.Turns.{iter-none, iter_turn, iter_steps, iter_ext}
use Rattle.bits.specs.Values.{values, side_by_side}
use Rattle.samples.specs.Internal.Samples.{spaced, put_spaced}
use Rattle.samples.proofs.Samples.{length-put_spaced, put_spaced-bytes, put_spaced_ext}
use Rattle.samples.proofs.Moves.{whole, gathered_run, spaced-bytes, put_spaced_run}
use Rattle.rows.specs.Internal.Rows.{Movable, row_read, whole_rows, row_written}

-- where m rows end, by the last of them
pub last_row : (m x : ℕ) → 0 < m → m * x ≡ (m - 1) * x + x
last_row zero x h = absurd (omega arith)
last_row (suc m) x h = suc-mul m x ∙ ap (λ (y : ℕ). y * x + x) (let e : m ≡ suc m - 1 = omega arith in e)

-- ---- rows copied

-- row i
pub copied_row : (xs : List ℕ) (at row s count i o : ℕ) (d : List ℕ) {zs : List ℕ} → Bytes xs → at + i * row + count *
    s ≤ length xs
    → zs ≡ over d o (take (count * s) (drop (at + i * row) xs)) → zs
    ≡ over d o (values (spaced xs (8 * at + i * (8 * row)) (8 * s) (8 * s)) s count)
copied_row xs at row s count i o d b reach ez =
    gathered_run xs (at + i * row) s count d o b reach ez
    ∙ ap (λ (x : ℕ). over d o (values (spaced xs x (8 * s) (8 * s)) s count)) (omega arith)

-- ---- rows in an image

-- row i of rows of samples of s whole bytes, one every `step` bits, in n bytes
record WholeRow (n at row step s count i : ℕ) : Type 0 where
  start : 8 * (at / 8 + i * (row / 8)) ≡ at + i * row
  spacing : 8 * (step / 8) ≡ step
  inside : at / 8 + i * (row / 8) + count * (step / 8) + s ≤ n + step / 8

module _ (n at row step w s count m : ℕ) (e : w ≡ 8 * s) (rows : (i : ℕ) → i < m
    → Movable n (at + i * row) step w s count) where
  whole_row : (i : ℕ) → i < m → WholeRow n at row step s count i
  whole_row i h =
      let z : 8 * (at / 8 + i * (row / 8)) ≡ at + i * row = go i h in
      let c = whole 0 step count (omega arith, ((rows i h).whole e).1) in
      record { start = z; spacing = c.1; inside = omega (arith, (rows i h).inside) }
    where
      go : (i : ℕ) → i < m → 8 * (at / 8 + i * (row / 8)) ≡ at + i * row
      go zero h = let f = ((rows 0 h).whole e).0 in omega (arith, (whole at 0 0 (omega arith, omega arith)).0)
      go (suc i) h =
          let f = ((rows 0 (omega arith)).whole e).0 in
          let g = ((rows 1 (omega arith)).whole e).0 in
          omega (arith, whole at row (suc i) (omega arith, omega arith))

  -- they end inside
  pub rows_end : 0 < m → at / 8 + m * (row / 8) + count * (step / 8) + s ≤ n + step / 8 + row / 8
  rows_end some = omega (arith, last_row m (row / 8) some, (whole_row (m - 1) (omega arith)).inside)

  -- read
  pub rows-read : (xs : List ℕ) (to line : ℕ) (d : List ℕ) {zs : List ℕ} → zs ≡ whole_rows xs (at / 8) (row / 8)
      (step / 8) s count to line m d → zs ≡ iter m (row_read xs at row step w s count to line) d
  rows-read xs to line d ez =
      ez ∙ iter_ext m _ _ d (λ i h x.
      let r = whole_row i h in
      let o : 8 * (at / 8) + i * (8 * (row / 8)) ≡ at + i * row = omega (arith, r.start) in
      rw (o, r.spacing, e) refl)

  -- side by side
  module _ (es : step ≡ w) where
    beside : (k : ℕ) → k * (step / 8) ≡ k * s
    beside k = ap (λ (x : ℕ). k * x) (let z : step / 8 ≡ s = omega arith in z)

    pub rows-end-beside : 0 < m → at / 8 + m * (row / 8) + count * s ≤ n + row / 8
    rows-end-beside some = omega (arith, rows_end some, beside count)

    -- written
    pub rows_written_lem : (dat : List ℕ) (from line : ℕ) (d : List ℕ) {zs : List ℕ} → Bytes dat → Bytes d → n ≤ length d
        → zs ≡ whole_rows dat from line s s count (at / 8) (row / 8) m d → zs
        ≡ iter m (row_written dat from line s w at row step count) d
    unfolding side_by_side
    rows_written_lem dat from line d bt bd fits ez =
        ez
        ∙ (iter_steps (λ i x. (x ≡ iter i (row_written dat from line s w at row step count) d) × (length x ≡ length d)
        × Bytes x) m
        (row_read dat (8 * from) (8 * line) (8 * s) (8 * s) s count (at / 8) (row / 8)) d turn
        (iter-none _ d, refl, bd)).0
      where
        turn : (i : ℕ) → i < m → (x : List ℕ) → (x ≡ iter i (row_written dat from line s w at row step count) d)
            × (length x ≡ length d) × Bytes x
            → let y = row_read dat (8 * from) (8 * line) (8 * s) (8 * s) s count (at / 8) (row / 8) i x in
            (y ≡ iter (i + 1) (row_written dat from line s w at row step count) d) × (length y ≡ length d) × Bytes y
        turn i h x p =
            let r = whole_row i h in
            let put : ℕ = at / 8 + i * (row / 8) in
            let v : ℕ → ℕ = spaced dat (8 * from + i * (8 * line)) (8 * s) (8 * s) in
            let o : 8 * from + i * (8 * line) ≡ 8 * (from + i * line) = omega arith in
            let q : over x put (values v s count) ≡ put_spaced (side_by_side dat (from + i * line) s) w (at + i * row)
            step count x
            = put_spaced_run v s put count x p.2 (omega (arith, r.inside, beside count))
            ∙ put_spaced_ext v (side_by_side dat (from + i * line) s) (8 * s) (8 * put) (8 * s) count x
            (λ k l. ap (λ (z : ℕ). spaced dat z (8 * s) (8 * s) k) o
            ∙ sym (spaced-bytes dat (from + i * line) s s k bt))
            ∙ rw (r.start, es, e) refl in (
              iter_turn (row_written dat from line s w at row step count) d i p.0 q,
              ap length q ∙ length-put_spaced _ w (at + i * row) step count x ∙ p.1,
              rw q (put_spaced-bytes _ w (at + i * row) step count x p.2),
            )
