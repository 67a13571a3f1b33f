-- Laws of rows as values: the first samples and the rest, and rows of whole bytes.
-- Assumes nothing.
use mathlib.Core.Path.{◌≡◌, refl, ap, ◌∙◌}
use mathlib.Core.List.{List}
use Prim.Native.Nat.{ℕ, ◌+◌, ◌-◌, ◌*◌, ◌≤◌}
use native.Mathlib.Nat.{add-mul, add-sub_of_le}
use native.Mathlib.Omega.{arith}
use lib.ListN.{length}
use Rattle.bits.specs.Bits.{bits_at}
use Rattle.bits.proofs.Values.{values_run}
use Rattle.samples.specs.declared.row.Row.{Row}
use Rattle.samples.specs.declared.row.ByteRow.{ByteRow}
use Rattle.samples.specs.Internal.Samples.{spaced, samples_read, samples_written}
use Rattle.samples.specs.Internal.Row.{First, Rest, BytesOf, InImage, InData, AtBytes, Packed, read_at, written_at}
use Rattle.samples.specs.Internal.Row.{InImageBytes, bytes_read_at, bytes_written_at}
use Rattle.samples.proofs.Groups.{put_rest, fit-part}
use Rattle.samples.proofs.Moves.{whole}

-- ---- the first n samples and the rest

-- sample j of the rest
spaced_rest : (xs : List ℕ) (at step w n j : ℕ) → spaced xs (at + n * step) step w j ≡ spaced xs at step w (n + j)
unfolding spaced
spaced_rest xs at step w n j = ap (λ (i : ℕ). bits_at xs i w) (omega (arith, add-mul n j step))

module _ (row : Row) (n : ℕ) (h : n ≤ row.count) (rest : Row) (r : Rest row n rest) where
  -- the rest has no bits above its width either
  pub packed_rest : (dat : List ℕ) → Packed dat row → Packed dat rest
  packed_rest dat p =
      rw (r.width, r.size, r.data_at, r.count)
      (p.0, fit-part dat row.data_at row.size row.width row.count n (row.count - n) p.1 (omega arith) refl)

  -- the rest written after the first n
  pub written_after : (dat d : List ℕ) {ys zs : List ℕ}
      → ys ≡ samples_written dat row.data_at row.size row.width row.at row.step n d → zs ≡ written_at dat rest ys
      → zs ≡ written_at dat row d
  written_after dat d ey ez =
      put_rest dat row.data_at row.size row.width row.at row.step n row.count d h ey
      (rw (r.data_at, r.size, r.width, r.at, r.step, r.count) at ez)

  -- in two parts: written, and read
  pub written_parts : (first : Row) → First row n first → (dat d : List ℕ) {ys zs : List ℕ}
      → ys ≡ written_at dat first d → zs ≡ written_at dat rest ys → zs ≡ written_at dat row d
  written_parts first f dat d ey ez =
      written_after dat d (rw (f.data_at, f.size, f.width, f.at, f.step, f.count) at ey) ez

  pub read_parts : (first : Row) → First row n first → (xs d : List ℕ) {ys zs : List ℕ} → InData row (length d)
      → ys ≡ read_at xs first d → zs ≡ read_at xs rest ys → zs ≡ read_at xs row d
  read_parts first f xs d room ey ez =
      values_run (spaced xs row.at row.step row.width) (spaced xs (row.at + n * row.step) row.step row.width) row.size d
      row.data_at n (row.count - n)
      (omega (arith, add-mul n (row.count - n) row.size, ap (λ (k : ℕ). k * row.size) (add-sub_of_le h)))
      (rw (f.data_at, f.size, f.width, f.at, f.step, f.count) at ey)
      (rw (r.data_at, r.size, r.width, r.at, r.step, r.count) at ez)
      (λ j l. spaced_rest xs row.at row.step row.width n j)
      ∙ ap (λ (k : ℕ). samples_read xs row.at row.step row.width row.size k row.data_at d) (add-sub_of_le h)

-- ---- samples that fill their bytes

module _ (row : Row) (bytes : ByteRow) (b : BytesOf row bytes) (e : row.width ≡ 8 * row.size) (h : AtBytes row) where
  pub bytes_in_image : (n : ℕ) → InImage row n → InImageBytes bytes n
  bytes_in_image n l = rw (b.at, b.step, b.size, b.count) (omega (arith, whole row.at row.step row.count (h e)))

  pub read_as_bytes : (xs d : List ℕ) {zs : List ℕ} → zs ≡ bytes_read_at xs bytes d → zs ≡ read_at xs row d
  read_as_bytes xs d ez =
      let w = whole row.at row.step row.count (h e) in
      rw (b.data_at, b.at, b.step, b.size, b.count, w.0, w.1, ← e) at ez

  pub written_as_bytes : (dat d : List ℕ) {zs : List ℕ} → zs ≡ bytes_written_at dat bytes d → zs ≡ written_at dat row d
  written_as_bytes dat d ez =
      let w = whole row.at row.step row.count (h e) in
      rw (b.data_at, b.at, b.step, b.size, b.count, w.0, w.1, ← e) at ez
