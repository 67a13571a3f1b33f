-- Laws of a window's questions as the code asks them.
-- Assumes nothing.
use Prim.Native.Nat.{ℕ, ◌+◌, ◌-◌, ◌*◌, ◌/◌, ◌^◌, ◌≤◌, ◌<◌}
use mathlib.Core.Path.{◌≡◌, refl, sym}
use mathlib.Core.Bool.{Bool, true, false}
use mathlib.Core.List.{[], ◌∷◌}
use native.Mathlib.Omega.{arith}
use lib.Dec.{leb, lit<}
use borrow.Author.Tests.{leb-true, le-leb}
use Rattle.widths.specs.declared.Widths.{Widths}
use Rattle.grid.specs.declared.Grid.{Grid}
use Rattle.common.specs.Tests.{every}
use Rattle.grid.specs.Check.{Accepted, grid_number}
use Rattle.grid.specs.Sizes.{sample_bytes}
use Rattle.grid.specs.Layout.{block_end, Block}
use Rattle.layout.specs.Bands.{band_count, q8, q9}
use Rattle.common.proofs.Arith.{prod_le}
use Rattle.common.proofs.Questions.{ask-inv}
use Rattle.grid.proofs.Accepted.{Facts, facts, grid-inv}
use Rattle.grid.proofs.Checked.{grid-accepted}
use Rattle.calls.specs.Orders.{Window, window_questions, q7_window, q10, window_number}
use Rattle.common.proofs.Tests.{both_yes}
use Rattle.calls.proofs.WindowLaws.{InPicture, q10-facts, q7-at, window-last, block_of}
use Rattle.windows.specs.Internal.Windows.{inside}

-- an accepted grid leaves the other questions
pub after-grid : (ws : Widths) (g : Grid) (n : ℕ) (w : Window) (m : ℕ) → 0 ≡ grid_number ws g
    → window_number ws g n w m ≡ window_questions g n w m
unfolding window_number
after-grid ws g n w m a = grid-accepted ws g _ a

-- which an accepted window answers yes
pub asked-after : (ws : Widths) (g : Grid) (n : ℕ) (w : Window) (m : ℕ) → 0 ≡ window_number ws g n w m
    → window_questions g n w m ≡ 0
unfolding window_number
asked-after ws g n w m e = (grid-inv ws g _ (sym e)).1

-- ---- question 10

-- a start held against what a length leaves of a side
pub leb_left : (start length side : ℕ) → length ≤ side → leb start (side - length) ≡ leb (start + length) side
leb_left start length side h =
    both_yes _ _ (λ e. le-leb (start + length) side (omega (arith, leb-true start (side - length) e)))
    (λ e. le-leb start (side - length) (omega (arith, leb-true (start + length) side e)))

two_and_two : (a b c d : Bool) → every (a ∷ b ∷ c ∷ d ∷ []) ≡ every (every (a ∷ c ∷ []) ∷ every (b ∷ d ∷ []) ∷ [])
unfolding every
two_and_two true true true true = refl
two_and_two true true true false = refl
two_and_two true true false d = refl
two_and_two true false true d = refl
two_and_two true false false d = refl
two_and_two false b c d = refl

-- it is asked along each side
pub q10-sides : (g : Grid) (w : Window)
    → q10 g w ≡ every (inside w.row w.rows g.nrows ∷ inside w.column w.columns g.ncols ∷ [])
unfolding q10 inside
q10-sides g w = two_and_two _ _ _ _

pub q10-yes : (g : Grid) (w : Window) → true ≡ inside w.row w.rows g.nrows → true ≡ inside w.column w.columns g.ncols → q10 g w ≡ true
unfolding every
q10-yes g w r c = rw (q10-sides g w, sym r, sym c) refl

-- ---- question 7

-- the last row and column are in a block of the grid, and question 7 is asked of it
pub last_block : (g : Grid) → Facts g → (w : Window) → InPicture g w
    → Block g ((w.row + (w.rows - 1)) / g.nppbv) ((w.column + (w.columns - 1)) / g.nppbh)
last_block g f w p = block_of g f _ _ (omega (arith, p.rows-pos, p.rows_end)) (omega (arith, p.columns-pos, p.columns-end))

pub q7-last : (g : Grid) → Accepted g → (n : ℕ) (w : Window) → q10 g w ≡ true
    → q7_window g n w ≡ leb (block_end g ((w.row + (w.rows - 1)) / g.nppbv) ((w.column + (w.columns - 1)) / g.nppbh)) n
q7-last g a n w e =
    let p = q10-facts g w e in
    let i : w.row + w.rows - 1 ≡ w.row + (w.rows - 1) = omega (arith, p.rows-pos) in
    let j : w.column + w.columns - 1 ≡ w.column + (w.columns - 1) = omega (arith, p.columns-pos) in
    rw (i, j) at (window-last g a n w e)

-- ---- question 9

-- a band of the answer has bytes, and their number fits in 64 bits
pub record Plane (rows columns s : ℕ) : Type 0 where
  pub samples : rows * columns < 2 ^ 64
  pub bytes : rows * columns * s < 2 ^ 64
  pub some : 0 < rows * columns * s

pub plane : (g : Grid) → Facts g → (w : Window) → InPicture g w → Plane w.rows w.columns (sample_bytes g)
plane g f w p =
    let s : sample_bytes g ≤ 8 = omega (arith, f.sides.nbpp-le) in
    let z : 0 < sample_bytes g = omega (arith, f.sides.nbpp-pos) in
    let r : w.rows ≤ 99_999_999 = omega (arith, p.rows_end, f.sides.nrows-le) in
    let c : w.columns ≤ 99_999_999 = omega (arith, p.columns-end, f.sides.ncols-le) in
    let rc : w.rows * w.columns ≤ 99_999_999 * 99_999_999 = prod_le _ _ _ _ r c in
    let rcs : w.rows * w.columns * sample_bytes g ≤ 99_999_999 * 99_999_999 * 8 = prod_le _ _ _ _ rc s in
    record {
      samples = omega arith;
      bytes = omega arith;
      some = prod_le 1 1 _ _ (prod_le 1 1 _ _ p.rows-pos p.columns-pos) z;
    }

-- ---- what an answer of 0 tells

pub record Answerable (g : Grid) (n : ℕ) (w : Window) (m : ℕ) : Type 0 where
  pub accepted : Accepted g
  pub picture : InPicture g w
  pub reached : (r c : ℕ) → r < w.rows → c < w.columns → block_end g ((w.row + r) / g.nppbv) ((w.column + c) / g.nppbh) ≤ n
  pub bands_in : q8 g.bands w.bands ≡ true
  pub room : band_count g.bands w.bands * w.rows * w.columns * sample_bytes g ≤ m

pub answerable : (g : Grid) → Accepted g → (n : ℕ) (w : Window) (m : ℕ) → window_questions g n w m ≡ 0
    → Answerable g n w m
unfolding q9
answerable g ok n w m e =
    let b = ask-inv 10 (q10 g w) _ (lit< tt) e in
    let c = ask-inv 7 (q7_window g n w) _ (lit< tt) b.1 in
    let d = ask-inv 8 (q8 g.bands w.bands) _ (lit< tt) c.1 in
    let h = ask-inv 9 _ _ (lit< tt) d.1 in
    let p = q10-facts g w b.0 in
    record {
      accepted = ok;
      picture = p;
      reached = q7-at g (facts g ok) n w p c.0;
      bands_in = d.0;
      room = leb-true _ _ h.0;
    }
