-- Laws of rows of samples that can be moved: their bits and bytes can be counted.
-- Assumes nothing.
use Prim.Native.Nat.{ℕ, ◌+◌, ◌-◌, ◌*◌, ◌^◌, ◌≤◌, ◌<◌}
use native.Mathlib.Omega.{arith}
use Rattle.rows.proofs.WholeBytes.{last_row}
use Rattle.moves.proofs.Pieces.{RowsMove}

-- the first row's bits and bytes, and those of all rows
pub record Counted (at row step w size c rows o line : ℕ) : Type 0 where
  pub first-bits : at + c * step + w < 2 ^ 63
  pub first-bytes : o + c * size < 2 ^ 64
  pub bits : at + rows * row + c * step + w < 2 ^ 63 + row
  pub bytes : o + rows * line + c * size < 2 ^ 64 + line

pub counted : {n at row step w size c rows o line m : ℕ} → RowsMove n at row step w size c rows → 0 < rows
    → o + rows * line + c * size ≤ m + line → m < 2 ^ 64 → Counted at row step w size c rows o line
counted {row} {rows} {line} r some room h =
    let first = (r.movable 0 some).fits in
    let last = (r.movable (rows - 1) (omega arith)).fits in
    let p = last_row rows row some in
    let q = last_row rows line some in
    record { first-bits = omega arith; first-bytes = omega arith; bits = omega arith; bytes = omega arith }
