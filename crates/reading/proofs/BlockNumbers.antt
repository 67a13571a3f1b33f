-- What the numbers of a block read and of a whole block tell where they are 0, and what the code computes on the way to them.
-- Assumes nothing.
use Prim.Native.Nat.{ℕ, ◌+◌, ◌*◌, ◌^◌, ◌≤◌, ◌<◌}
use mathlib.Core.Path.{◌≡◌}
use mathlib.Core.Bool.{Bool, true}
use borrow.Author.Tests.{leb-true}
use lib.Dec.{lit<}
use Rattle.common.proofs.Questions.{ask-inv}
use Rattle.layout.specs.Bands.{Bands, band_count, q8, q9}
use Rattle.layout.proofs.Places.{data_fits}
use Rattle.widths.specs.declared.Widths.{Widths}
use Rattle.grid.specs.declared.Grid.{Grid}
use Rattle.grid.specs.Check.{Accepted, q6}
use Rattle.grid.specs.Sizes.{sample_bytes, actual_rows, actual_columns}
use Rattle.grid.specs.Layout.{block_end, whole_start, whole_length, Block}
use Rattle.grid.proofs.Accepted.{facts, accepted_of, grid-inv, block_in}
use Rattle.grid.proofs.BlockLayouts.{sound}
use Rattle.calls.specs.Orders.{q5, q7, q7_whole, block_number, whole_number}

-- ---- the block read

-- the samples of a band of the answer, and their bytes
pub record Plane (g : Grid) (row column : ℕ) : Type 0 where
  pub samples : actual_rows g row * actual_columns g column < 2 ^ 64
  pub bytes : actual_rows g row * actual_columns g column * sample_bytes g < 2 ^ 64

pub plane : (g : Grid) → Accepted g → (row column : ℕ) → Block g row column → Plane g row column
plane g a row column t =
    let d = data_fits _ (sound g (facts g a) row column t) in
    record { samples = d.plane; bytes = d.plane-bytes }

-- question 9
abbrev pub room_for : Grid → ℕ → ℕ → Bands → ℕ → Bool
room_for g row column bs m = q9 (band_count g.bands bs) (actual_rows g row) (actual_columns g column) (sample_bytes g) m

-- an accepted block read
pub record Read (g : Grid) (n row column level : ℕ) (bs : Bands) (m : ℕ) : Type 0 where
  pub accepted : Accepted g
  pub block : Block g row column
  pub reached : block_end g row column ≤ n
  pub bands_in : q8 g.bands bs ≡ true
  pub room : band_count g.bands bs * actual_rows g row * actual_columns g column * sample_bytes g ≤ m

pub read-facts : (ws : Widths) (g : Grid) (n row column level : ℕ) (bs : Bands) (m : ℕ)
    → block_number ws g n row column level bs m ≡ 0 → Read g n row column level bs m
unfolding block_number q9
read-facts ws g n row column level bs m e =
    let a = grid-inv ws g _ e in
    let b = ask-inv 5 (q5 level) _ (lit< tt) a.1 in
    let c = ask-inv 6 (q6 g row column) _ (lit< tt) b.1 in
    let d = ask-inv 7 (q7 g n row column) _ (lit< tt) c.1 in
    let f = ask-inv 8 (q8 g.bands bs) _ (lit< tt) d.1 in
    let h = ask-inv 9 _ 0 (lit< tt) f.1 in
    record {
      accepted = accepted_of g a.0;
      block = block_in g row column c.0;
      reached = leb-true _ _ d.0;
      bands_in = f.0;
      room = leb-true _ _ h.0;
    }

-- ---- the whole block

pub record Whole (g : Grid) (n row column : ℕ) : Type 0 where
  pub accepted : Accepted g
  pub block : Block g row column
  pub reached : whole_start g row column + whole_length g ≤ n

pub whole-facts : (ws : Widths) (g : Grid) (n row column : ℕ) → whole_number ws g n row column ≡ 0
    → Whole g n row column
unfolding whole_number
whole-facts ws g n row column e =
    let a = grid-inv ws g _ e in
    let b = ask-inv 6 (q6 g row column) _ (lit< tt) a.1 in
    let c = ask-inv 7 (q7_whole g n row column) 0 (lit< tt) b.1 in
    record { accepted = accepted_of g a.0; block = block_in g row column b.0; reached = leb-true _ _ c.0 }
