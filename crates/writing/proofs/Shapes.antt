-- The shape of a block, as the code compares it.
-- Assumes nothing.
use Rattle.std.specs.Prelude.{ℕ, ◌≡◌, Bool, true, false, not, ◌&&◌, [], ◌∷◌, eqb}
use Rattle.std.proofs.Common.{refl, sym, ap, ◌∙◌, ◌<◌, ◌≤◌, ◌+◌, ◌*◌, ◌^◌, arith}
use borrow.Author.Tests.{eqb-true}
use Rattle.common.specs.Questions.{ask}
use Rattle.common.specs.Rounding.{ceil_div}
use Rattle.common.specs.Tests.{every}
use Rattle.common.proofs.Tests.{every-at}
use Rattle.widths.specs.declared.Widths.{Widths}
use Rattle.grid.specs.declared.Grid.{Grid}
use Rattle.grid.specs.declared.GridBlock.{GridBlock}
use Rattle.grid.specs.Sizes.{sample_bytes, actual_rows, actual_columns}
use Rattle.grid.specs.Internal.Blocks.{IsBlock}
use Rattle.grid.specs.Internal.BlockLayouts.{layout_of}
use Rattle.grid.proofs.Accepted.{facts}
use Rattle.grid.proofs.BlockLayouts.{sound}
use Rattle.layout.proofs.Places.{DataFits, data_fits}
use Rattle.calls.specs.Orders.{q13, q14, skip_number, write_number}
use Rattle.calls.proofs.Numbers.{block-before}

all_three : (a b c : Bool) → every (a ∷ b ∷ c ∷ []) ≡ not (not (a && (b && c)))
unfolding every
all_three true true true = refl
all_three true true false = refl
all_three true false c = refl
all_three false b c = refl

-- question 13, by the answer of a comparison of two shapes
pub q13-is : (g : Grid) (row column bands rows columns : ℕ) {other : Bool}
    → other ≡ not (eqb bands g.bands && (eqb rows (actual_rows g row) && eqb columns (actual_columns g column)))
    → q13 g row column bands rows columns ≡ not other
unfolding q13
q13-is g row column bands rows columns e = all_three _ _ _ ∙ ap not (sym e)

pub record Shaped (g : Grid) (row column bands rows columns : ℕ) : Type 0 where
  pub bands_in : bands ≡ g.bands
  pub rows_in : rows ≡ actual_rows g row
  pub columns_in : columns ≡ actual_columns g column

pub shaped : (g : Grid) (row column bands rows columns : ℕ) → q13 g row column bands rows columns ≡ true
    → Shaped g row column bands rows columns
unfolding q13
shaped g row column bands rows columns e =
    let q = every-at _ e in
    record { bands_in = eqb-true _ _ (q 0); rows_in = eqb-true _ _ (q 1); columns_in = eqb-true _ _ (q 2) }

-- no product of a block's counts wraps
pub record Products (bands rows columns size : ℕ) : Type 0 where
  pub lines : bands * rows < 2 ^ 64
  pub samples : bands * rows * columns < 2 ^ 64
  pub bytes : bands * rows * columns * size < 2 ^ 64

pub products : (block : GridBlock) (g : Grid) (row column bands rows columns size : ℕ) → IsBlock g row column block
    → Shaped g row column bands rows columns → size ≡ sample_bytes g → Products bands rows columns size
products block g row column bands rows columns size b s e =
    let d : DataFits (layout_of g row column) =
    data_fits _ (rw (b.0, b.1, b.2) at (sound _ (facts _ block.grid.accepted) _ _ block.inside)) in
    rw (s.bands_in, s.rows_in, s.columns_in, e) (record { lines = d.bands-rows; samples = d.samples; bytes = d.bytes })

-- question 14, by the counts that the code multiplies
pub q14-is : (g : Grid) (row column n bands rows columns size : ℕ) → Shaped g row column bands rows columns → size ≡ sample_bytes g
    → q14 g row column n ≡ eqb n (bands * rows * columns * size)
unfolding q14
q14-is g row column n bands rows columns size s e = rw (s.bands_in, s.rows_in, s.columns_in, e) refl

-- where the questions before 13 are answered yes, 13, 14 and 26 decide
pub write-asks : (ws : Widths) (g : Grid) (n m row column bands rows columns size : ℕ) (fit : Bool)
    → 0 ≡ skip_number ws g n m row column
    → write_number ws g n m row column bands rows columns size fit
    ≡ ask 13 (q13 g row column bands rows columns) (ask 14 (q14 g row column size) (ask 26 fit 0))
unfolding skip_number write_number
write-asks ws g n m row column bands rows columns size fit e = (block-before ws g n m row column).accepts e refl _

-- the bytes of a sample of n bits
pub size_of : (n : ℕ) → 0 < n → n ≤ 64 → (0 < ceil_div n 8) × (ceil_div n 8 ≤ 8) × (8 * ceil_div n 8 < n + 8) × (n ≤ 8 * ceil_div n 8)
size_of n h l = omega arith
