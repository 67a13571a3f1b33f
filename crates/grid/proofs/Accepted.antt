-- What an accepted grid gives.
-- Assumes nothing.
use mathlib.Core.Path.{◌≡◌, refl, sym, ◌∙◌}
use mathlib.Core.Bool.{Bool, true, false}
use mathlib.Core.List.{[], ◌∷◌}
use Prim.Native.Nat.{ℕ, ◌+◌, ◌*◌, ◌≤◌, ◌<◌}
use native.Mathlib.Omega.{arith}
use borrow.Author.Tests.{leb-true, ltb-true, eqb-true}
use native.Mathlib.Nat.{mul-le-mul_right}
use lib.Arith.{digits_lt}
use lib.Dec.{lit<, eqb}
use Rattle.layout.specs.Internal.Layout.{SampleSize}
use Rattle.grid.specs.declared.Grid.{Grid}
use Rattle.common.specs.Questions.{ask}
use Rattle.common.specs.Rounding.{ceil_div}
use Rattle.grid.specs.Sizes.{sample_bytes, band_bytes, blocks, image_bytes, block_index, actual_rows, actual_columns}
use Rattle.grid.specs.Check.{block_side, q1, q2, q3, q4, q6, ask_grid, grid_number, Accepted}
use Rattle.widths.specs.declared.Widths.{Widths}
use Rattle.widths.specs.Widths.{width_taken}
use Rattle.grid.specs.Layout.{Block}
use Rattle.common.proofs.Arith.{prod_le, part-start, ceil_pos}
use Rattle.common.proofs.Questions.{Before, ask-inv}
use Rattle.common.specs.Tests.{within, some}
use Rattle.common.proofs.Tests.{true_false, every-at, within-facts, Within}
use Rattle.widths.proofs.WidthLaws.{taken-pos, taken-top, narrow}
use Rattle.widths.proofs.Standard.{takes-taken}

pub record Answered (g : Grid) : Type 0 where
  pub q1-yes : q1 g ≡ true
  pub q2-yes : width_taken g.nbpp ≡ true
  pub q3-yes : q3 g ≡ true
  pub q4-yes : q4 g ≡ true

-- a call with a grid that is not refused: what its questions were, the table's too
pub grid-inv : (ws : Widths) (g : Grid) (rest : ℕ) → ask_grid ws g rest ≡ 0 → Answered g × (rest ≡ 0)
grid-inv ws g rest e =
    let a = ask-inv 1 (q1 g) _ (lit< tt) e in
    let b = ask-inv 2 (q2 ws g) _ (lit< tt) a.1 in
    let c = ask-inv 3 (q3 g) _ (lit< tt) b.1 in
    let d = ask-inv 4 (q4 g) _ (lit< tt) c.1 in
    (record { q1-yes = a.0; q2-yes = takes-taken ws g.nbpp b.0; q3-yes = c.0; q4-yes = d.0 }, d.1)

-- the table takes the width of a grid that is accepted with it
pub takes-width : (ws : Widths) (g : Grid) (rest : ℕ) → ask_grid ws g rest ≡ 0 → q2 ws g ≡ true
takes-width ws g rest e = (ask-inv 2 (q2 ws g) _ (lit< tt) (ask-inv 1 (q1 g) _ (lit< tt) e).1).0

pub answered : (g : Grid) → Accepted g → Answered g
answered g e =
    let a = ask-inv 1 (q1 g) _ (lit< tt) e in
    let b = ask-inv 2 (width_taken g.nbpp) _ (lit< tt) a.1 in
    let c = ask-inv 3 (q3 g) _ (lit< tt) b.1 in
    record { q1-yes = a.0; q2-yes = b.0; q3-yes = c.0; q4-yes = (ask-inv 4 (q4 g) _ (lit< tt) c.1).0 }

pub accepted_of : (g : Grid) → Answered g → Accepted g
accepted_of g a = rw (a.q1-yes, a.q2-yes, a.q3-yes, a.q4-yes)

-- a grid that is accepted with a table is accepted
pub accepted_by : (ws : Widths) (g : Grid) → grid_number ws g ≡ 0 → Accepted g
unfolding grid_number
accepted_by ws g e = accepted_of g (grid-inv ws g 0 e).0

-- where the table takes its width, an accepted grid leaves the questions after it
pub grid-open : (ws : Widths) (g : Grid) (rest : ℕ) → Accepted g → q2 ws g ≡ true → ask_grid ws g rest ≡ rest
grid-open ws g rest e t =
    let a = answered g e in
    rw (a.q1-yes, t, a.q3-yes, a.q4-yes)

pub grid-yes : (ws : Widths) (g : Grid) (rest : ℕ) → grid_number ws g ≡ 0 → ask_grid ws g rest ≡ rest
unfolding grid_number
grid-yes ws g rest e = grid-open ws g rest (accepted_by ws g e) (takes-width ws g 0 e)

-- where it does not, the answer is 2
pub grid_barred : (ws : Widths) (g : Grid) (rest : ℕ) → Accepted g → q2 ws g ≡ false → ask_grid ws g rest ≡ 2
grid_barred ws g rest e t = rw ((answered g e).q1-yes, t)

abbrev ask_by : Bool → Bool → Bool → Bool → ℕ → ℕ
ask_by a b c d rest = ask 1 a (ask 2 b (ask 3 c (ask 4 d rest)))

-- a grid that is not accepted gives its own number
pub grid-no : (ws : Widths) (g : Grid) (rest : ℕ) → (grid_number ws g ≡ 0 → ⊥) → ask_grid ws g rest ≡ grid_number ws g
unfolding grid_number
grid-no ws g rest ne = go (q1 g) (q2 ws g) (q3 g) (q4 g) ne
  where
    go : (a b c d : Bool) → (ask_by a b c d 0 ≡ 0 → ⊥) → ask_by a b c d rest ≡ ask_by a b c d 0
    go true true true true f = absurd (f refl)
    go true true true false f = refl
    go true true false d f = refl
    go true false c d f = refl
    go false b c d f = refl

pub grid-before : (ws : Widths) (g : Grid) → Before (ask_grid ws g)
unfolding grid_number
grid-before ws g =
    record {
      refuses = λ e ne rest. e ∙ sym (grid-no ws g rest (λ z. ne (e ∙ z)));
      accepts = λ e z rest. grid-yes ws g rest (sym e ∙ z);
    }

pub block_in : (g : Grid) (row column : ℕ) → q6 g row column ≡ true → Block g row column
unfolding q6
block_in g row column e = let q = every-at _ e in record { in_row = ltb-true _ _ (q 0); in_column = ltb-true _ _ (q 1) }

-- the limits and counts in numbers
pub record Sized (g : Grid) : Type 0 where
  pub nrows-pos : 0 < g.nrows
  pub nrows-le : g.nrows ≤ 99_999_999
  pub ncols-pos : 0 < g.ncols
  pub ncols-le : g.ncols ≤ 99_999_999
  pub nppbh-pos : 0 < g.nppbh
  pub nppbh-le : g.nppbh ≤ 99_999_999
  pub nppbv-pos : 0 < g.nppbv
  pub nppbv-le : g.nppbv ≤ 99_999_999
  pub bands-pos : 0 < g.bands
  pub bands-le : g.bands ≤ 99_999
  pub nbpp-pos : 0 < g.nbpp
  pub nbpp-le : g.nbpp ≤ 64

-- a side of a block lies within the limits of the picture's; above 8,192 it is the picture's own
pub record Side (side picture : ℕ) : Type 0 where
  pub pos : 0 < side
  pub le : side ≤ 99_999_999
  pub own : 8_192 < side → side ≡ picture

pub side_facts : (side picture : ℕ) → block_side side picture ≡ true → Within 1 99_999_999 picture → Side side picture
unfolding block_side some
side_facts side picture e w = go (within 1 8_192 side) (eqb side picture) refl refl e
  where
    go : (a b : Bool) → within 1 8_192 side ≡ a → eqb side picture ≡ b → some (a ∷ b ∷ []) ≡ true → Side side picture
    go true b p q f =
        let s = within-facts 1 8_192 side p in
        record { pos = s.low; le = omega (arith, s.high); own = λ h. absurd (omega (arith, s.high)) }
    go false true p q f =
        let same : side ≡ picture = eqb-true _ _ q in
        record { pos = omega (arith, w.low); le = omega (arith, w.high); own = λ h. same }
    go false false p q f = true_false (sym f)

-- both sides of a block
pub record Sides (g : Grid) : Type 0 where
  pub across : Side g.nppbh g.ncols
  pub down : Side g.nppbv g.nrows

pub block-sides : (g : Grid) → q1 g ≡ true → Sides g
unfolding q1
block-sides g e =
    let a = every-at _ e in
    record {
      across = side_facts g.nppbh g.ncols (a 2) (within-facts 1 99_999_999 g.ncols (a 1));
      down = side_facts g.nppbv g.nrows (a 3) (within-facts 1 99_999_999 g.nrows (a 0));
    }

pub sized : (g : Grid) → q1 g ≡ true → width_taken g.nbpp ≡ true → Sized g
unfolding q1
sized g e f =
    let a = every-at _ e in
    let r = within-facts 1 99_999_999 g.nrows (a 0) in
    let c = within-facts 1 99_999_999 g.ncols (a 1) in
    let h = (block-sides g e).across in
    let v = (block-sides g e).down in
    let b = within-facts 1 99_999 g.bands (a 4) in
    record {
      nrows-pos = r.low;
      nrows-le = r.high;
      ncols-pos = c.low;
      ncols-le = c.high;
      nppbh-pos = h.pos;
      nppbh-le = h.le;
      nppbv-pos = v.pos;
      nppbv-le = v.le;
      bands-pos = b.low;
      bands-le = b.high;
      nbpp-pos = taken-pos g.nbpp f;
      nbpp-le = taken-top g.nbpp f;
    }

pub record Counted (g : Grid) : Type 0 where
  pub across : g.nbpr ≡ ceil_div g.ncols g.nppbh
  pub down : g.nbpc ≡ ceil_div g.nrows g.nppbv
  pub nbpr-le : g.nbpr ≤ 9_999
  pub nbpc-le : g.nbpc ≤ 9_999

pub counted : (g : Grid) → q3 g ≡ true → Counted g
unfolding q3
counted g e =
    let a = every-at _ e in
    record { across = eqb-true _ _ (a 0); down = eqb-true _ _ (a 1); nbpr-le = leb-true _ _ (a 2); nbpc-le = leb-true _ _ (a 3) }

-- samples of a width that is taken can be moved
pub sample-size : (n : ℕ) → width_taken n ≡ true → SampleSize n (ceil_div n 8)
sample-size n e =
    let p = taken-pos n e in
    let t = taken-top n e in
    record { bits_pos = p; bits_le = omega arith; bytes_le = omega arith; narrow = narrow n e; some = omega arith }

-- all of it
pub record Facts (g : Grid) : Type 0 where
  pub size : SampleSize g.nbpp (sample_bytes g)
  pub sides : Sized g
  pub counts : Counted g
  pub blocks-le : blocks g ≤ 99_980_001
  pub slots_le : blocks g * g.bands ≤ 9_997_900_119_999
  pub band-pos : 0 < band_bytes g
  pub image-le : image_bytes g ≤ 4_294_967_294

pub band-some : (g : Grid) → Sized g → 0 < band_bytes g
unfolding band_bytes
band-some g s =
    let p : 1 * 1 * 1 ≤ g.nppbh * g.nppbv * g.nbpp = prod_le _ _ _ _ (prod_le _ _ _ _ s.nppbh-pos s.nppbv-pos) s.nbpp-pos in
    omega arith

pub blocks-top : (g : Grid) → Counted g → blocks g ≤ 99_980_001
blocks-top g c = prod_le g.nbpr g.nbpc 9_999 9_999 c.nbpr-le c.nbpc-le

pub slots_top : (g : Grid) → Sized g → Counted g → blocks g * g.bands ≤ 9_997_900_119_999
slots_top g s c = prod_le (blocks g) g.bands 99_980_001 99_999 (blocks-top g c) s.bands-le

pub facts : (g : Grid) → Accepted g → Facts g
unfolding q4
facts g e =
    let a = answered g e in
    let s = sized g a.q1-yes a.q2-yes in
    let c = counted g a.q3-yes in
    record {
      size = sample-size g.nbpp a.q2-yes;
      sides = s;
      counts = c;
      blocks-le = blocks-top g c;
      slots_le = slots_top g s c;
      band-pos = band-some g s;
      image-le = leb-true _ _ a.q4-yes;
    }

-- there is a block across and one down
pub across-pos : (g : Grid) → Facts g → 0 < g.nbpr
across-pos g f = rw f.counts.across (ceil_pos g.ncols g.nppbh f.sides.nppbh-pos f.sides.ncols-pos)

pub down_pos : (g : Grid) → Facts g → 0 < g.nbpc
down_pos g f = rw f.counts.down (ceil_pos g.nrows g.nppbv f.sides.nppbv-pos f.sides.nrows-pos)

-- a block starts inside the picture
pub row-start : (g : Grid) → Facts g → (row : ℕ) → row < g.nbpc → row * g.nppbv < g.nrows
row-start g f row h = part-start g.nrows g.nppbv row f.sides.nppbv-pos (rw f.counts.down at h)

pub column-start : (g : Grid) → Facts g → (column : ℕ) → column < g.nbpr → column * g.nppbh < g.ncols
column-start g f column h = part-start g.ncols g.nppbh column f.sides.nppbh-pos (rw f.counts.across at h)

pub rows-le : (g : Grid) (row : ℕ) → actual_rows g row ≤ g.nppbv
unfolding actual_rows
rows-le g row = omega arith

pub columns-le : (g : Grid) (column : ℕ) → actual_columns g column ≤ g.nppbh
unfolding actual_columns
columns-le g column = omega arith

pub rows-pos : (g : Grid) → Facts g → (row : ℕ) → row < g.nbpc → 0 < actual_rows g row
unfolding actual_rows
rows-pos g f row h = omega (arith, row-start g f row h, f.sides.nppbv-pos)

pub columns-pos : (g : Grid) → Facts g → (column : ℕ) → column < g.nbpr → 0 < actual_columns g column
unfolding actual_columns
columns-pos g f column h = omega (arith, column-start g f column h, f.sides.nppbh-pos)

pub index_lt : (g : Grid) (row column : ℕ) → Block g row column → block_index g row column < blocks g
index_lt g row column b = omega (arith, digits_lt {q = row} {m = g.nbpc} {r = column} {c = g.nbpr} b.in_row b.in_column)

pub blocks-pos : (g : Grid) → Facts g → 0 < blocks g
blocks-pos g f = prod_le 1 1 g.nbpr g.nbpc (across-pos g f) (down_pos g f)

-- a block's nominal bytes are no more than the image
pub block-le : (g : Grid) → Facts g → g.bands * band_bytes g ≤ image_bytes g
block-le g f = omega (arith, mul-le-mul_right (g.bands * band_bytes g) (blocks-pos g f))

-- and they end inside it
pub block-end-le : (g : Grid) (row column : ℕ) → Block g row column
    → block_index g row column * (g.bands * band_bytes g) + g.bands * band_bytes g ≤ image_bytes g
block-end-le g row column t = omega (arith, mul-le-mul_right (g.bands * band_bytes g) (index_lt g row column t))
