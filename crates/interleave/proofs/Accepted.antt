-- What the questions of a reordering tell once they are answered yes.
-- Assumes nothing.
use Prim.Native.Nat.{ℕ, ◌*◌, ◌≤◌, ◌<◌}
use mathlib.Core.Path.{◌≡◌, sym}
use mathlib.Core.Bool.{true}
use native.Mathlib.Omega.{arith}
use Rattle.std.proofs.Math.Nat.{le-mul_of_pos_right}
use lib.Dec.{lit<}
use borrow.Author.Tests.{leb-true, eqb-true}
use Rattle.common.specs.Tests.{pick}
use Rattle.layout.specs.Bands.{Bands, band_count, q8, q9}
use Rattle.common.proofs.Questions.{ask-inv}
use Rattle.common.proofs.Tests.{within-facts}
use Rattle.layout.proofs.Listed.{band_lt}
use Rattle.interleave.specs.declared.Output.{Output}
use Rattle.interleave.specs.Interleave.{every_band, output_of, reorder_number}
use Rattle.interleave.proofs.Coordinates.{Positive, not_empty}

-- data of n bytes and an output of m
pub record Accepted (bs : Bands) (rows columns bands s n m : ℕ) : Type 0 where
  pub size_low : 1 ≤ s
  pub size-high : s ≤ 8
  pub small : bands * rows * columns * s ≤ 4_294_967_294
  pub full : n ≡ bands * rows * columns * s
  pub listed : q8 bands bs ≡ true
  pub room : band_count bands bs * rows * columns * s ≤ m

pub accepted : {bs : Bands} {rows columns bands s n m : ℕ} → 0 ≡ reorder_number bs rows columns bands s n m
    → Accepted bs rows columns bands s n m
unfolding reorder_number q9
accepted {s = s} e =
    let a = ask-inv 2 _ _ (lit< tt) (sym e) in
    let b = ask-inv 4 _ _ (lit< tt) a.1 in
    let c = ask-inv 14 _ _ (lit< tt) b.1 in
    let d = ask-inv 8 _ _ (lit< tt) c.1 in
    let f = ask-inv 9 _ _ (lit< tt) d.1 in
    let w = within-facts 1 8 s a.0 in
    record {
      size_low = w.low;
      size-high = w.high;
      small = leb-true _ _ b.0;
      full = eqb-true _ _ c.0;
      listed = d.0;
      room = leb-true _ _ f.0;
    }

-- a block that bands are asked of has bands
pub has_bands : (bands : ℕ) (bs : Bands) → q8 bands bs ≡ true → 0 < band_count bands bs → 0 < bands
has_bands bands bs e h = omega (arith, band_lt bands bs e 0 h)

-- where an output has bytes, the block has bands, rows and columns
pub some_samples : {bs : Bands} {rows columns bands s n m : ℕ} {o : Output} → Accepted bs rows columns bands s n m
    → o ≡ output_of bs rows columns bands s → (o.bytes ≡ 0 → ⊥) → Positive bands rows columns
some_samples {bs} {rows} {columns} {bands} {s} a e ne =
    let h = not_empty (band_count bands bs) rows columns s (rw e at ne) in (has_bands bands bs a.listed h.0, h.1, h.2)

-- where it has none, there are no samples
pub no_output : {bs : Bands} {rows columns bands s n m : ℕ} {o : Output} → Accepted bs rows columns bands s n m
    → o ≡ output_of bs rows columns bands s → o.bytes ≡ 0 → band_count bands bs * rows * columns ≡ 0
no_output {bs} {rows} {columns} {bands} {s} a e z =
    let h : band_count bands bs * rows * columns * s ≡ 0 = rw e at z in
    omega (arith, le-mul_of_pos_right (band_count bands bs * rows * columns) a.size_low)

-- all bands fit into the output
pub all_room : {rows columns bands s n m : ℕ} → Accepted every_band rows columns bands s n m → bands * rows * columns * s ≤ m
unfolding band_count pick
all_room a = a.room
