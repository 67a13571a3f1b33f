-- Laws of a row that is moved run by run.
-- Assumes nothing.
use Prim.Native.Nat.{ℕ, ◌+◌, ◌*◌, ◌≤◌}
use mathlib.Core.Path.{◌≡◌, refl, ◌∙◌}
use native.Mathlib.Omega.{arith}
use Rattle.layout.specs.Internal.Layout.{Sample}
use Rattle.moves.specs.declared.runs.Run.{Run}
use Rattle.moves.specs.declared.runs.RowRuns.{RowRuns}
use Rattle.moves.specs.Internal.Runs.{RowRun, RowIn, RunThen}
use Rattle.moves.proofs.Pieces.{in_line}

-- of a row, so many samples have been moved, and these are left
pub record Passed (row left : RowRuns) (done : ℕ) : Type 0 where
  pub layout : left.layout ≡ row.layout
  pub b : left.b ≡ row.b
  pub r : left.r ≡ row.r
  pub c : left.c ≡ row.c + done
  pub count : left.count + done ≡ row.count

pub passed-none : (row : RowRuns) → Passed row row 0
passed-none row = record { layout = refl; b = refl; r = refl; c = omega arith; count = omega arith }

module _ {row left : RowRuns} {done : ℕ} (p : Passed row left done) {run : Run} {then : RowRuns}
    (n : RunThen left run then) where
  pub passed_run : Passed row then (done + run.count)
  passed_run =
      record {
        layout = n.layout ∙ p.layout;
        b = n.b ∙ p.b;
        r = n.r ∙ p.r;
        c = omega (arith, n.c, p.c);
        count = omega (arith, n.count, p.count);
      }

  pub run_of : RowRun row.layout row.b row.r (row.c + done) left.count run
  run_of = rw (p.layout, p.b, p.r, p.c) at n.first

  -- its first sample is a sample of the block
  pub first_in : RowIn row → Sample row.layout row.b row.r (row.c + done)
  first_in i =
      record { in_b = i.in_b; in_r = i.in_r; in_c = omega (arith, run_of.some, run_of.count-le, p.count, i.in_c) }

  -- beside those moved, its samples fit where those of the whole row do
  pub run_fits : (from : ℕ) {at size s m : ℕ} → size ≡ s → at ≡ from + done * size → from + row.count * s ≤ m
      → at + run.count * size ≤ m
  run_fits from {s = s} {m = m} es ea h =
      rw ea (in_line from s done run.count row.count m es (omega (arith, run_of.count-le, p.count)) h)
