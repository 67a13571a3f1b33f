-- Laws of reorderings: there and back gives the data again, "all" looks at no list, and a listed band is that band of the whole.
-- Assumes nothing.
use Prim.Native.Nat.{ℕ, suc, ◌+◌, ◌*◌, ◌/◌, ◌%◌, ◌<◌}
use mathlib.Core.Path.{◌≡◌, refl, ap, ◌∙◌}
use mathlib.Core.Bool.{true, false}
use mathlib.Core.List.{List}
use native.Mathlib.Omega.{arith}
use native.Mathlib.Nat.{div-add-mod', mod-lt, div-lt_iff_lt-mul}
use lib.ListN.{length, get_or}
use Rattle.bits.specs.Bits.{Bytes, be_at}
use Rattle.bits.specs.Values.{values}
use Rattle.bits.proofs.Values.{values_ext, be_at-values}
use Rattle.layout.specs.declared.InterleaveMode.{InterleaveMode}
use Rattle.layout.specs.declared.InterleaveMode.TheVariants.{S}
use Rattle.common.specs.Tests.{pick}
use Rattle.layout.specs.Bands.{bands_of, band_count, band_at, q8}
use Rattle.layout.proofs.Order.{Same3, ordinal_lt}
use Rattle.interleave.specs.Interleave.{band_of, row_of, column_of, source_of, reorder_number, reordered_bytes, reorder, every_band}
use Rattle.interleave.proofs.Coordinates.{coordinates, coordinates_of, positive}
use Rattle.bits.proofs.BigEndian.{be_at_lt}
use Rattle.interleave.proofs.Answers.{samples_of}

-- ---- there and back

module _ (m to : InterleaveMode) (bands rows columns : ℕ) where
  pub source_lt : (n : ℕ) → n < bands * rows * columns → source_of m to every_band bands rows columns n < bands * rows * columns
  unfolding source_of band_at pick
  source_lt n h =
      let a = coordinates to bands rows columns n h in
      omega (arith, ordinal_lt m bands rows columns _ _ _ a.in_b a.in_r a.in_c)

  pub source_back : (n : ℕ) → n < bands * rows * columns → source_of to m every_band bands rows columns (source_of m to every_band bands rows columns n) ≡ n
  unfolding source_of band_at pick
  source_back n h =
      let a = coordinates to bands rows columns n h in
      let e = coordinates_of m bands rows columns _ _ _ a.in_b a.in_r a.in_c in
      rw (e.eq_b, e.eq_r, e.eq_c) a.there

-- from one order to another and back; so `to_band_sequential` makes the data again of what `from_band_sequential` made of it
pub there_and_back : (m to : InterleaveMode) (bands rows columns s : ℕ) (dat : List ℕ) → Bytes dat → length dat ≡ bands * rows * columns * s
    → reordered_bytes to m every_band rows columns bands s (reordered_bytes m to every_band rows columns bands s dat) ≡ dat
unfolding band_count pick
there_and_back m to bands rows columns s dat b e =
    let N : ℕ = bands * rows * columns in
    let v : ℕ → ℕ = λ k. be_at dat (source_of m to every_band bands rows columns k * s) s in
    values_ext (λ n. be_at (values v s N) (source_of to m every_band bands rows columns n * s) s) (λ n. be_at dat (n * s) s) s N
    (λ n h.
    be_at-values v s N (source_of to m every_band bands rows columns n) (source_lt to m bands rows columns n h) (be_at_lt dat _ s b)
    ∙ ap (λ (i : ℕ). be_at dat (i * s) s) (source_back to m bands rows columns n h))
    ∙ samples_of s N dat b e

-- ---- bands asked for

-- "all" looks at no list: so `fused_bip_to_bsq` with "all" is `to_band_sequential` out of P
pub all-is-whole : (m to : InterleaveMode) (l : List ℕ) (rows columns bands s : ℕ) (dat out : List ℕ)
    → reorder m to (bands_of true l) rows columns bands s dat out ≡ reorder m to every_band rows columns bands s dat out
unfolding reorder reorder_number q8 source_of band_count band_at pick
all-is-whole m to l rows columns bands s dat out = refl

-- place i of plane b
in_plane : (b rows columns i : ℕ) → i < rows * columns
    → let n = b * (rows * columns) + i in
    Same3 (band_of S (suc b) rows columns n) (row_of S (suc b) rows columns n) (column_of S (suc b) rows columns n) b (i / columns) (i % columns)
in_plane b rows columns i h =
    let z = positive 1 rows columns i (omega arith) in
    let e : (b * rows + i / columns) * columns + i % columns ≡ b * (rows * columns) + i = omega (arith, div-add-mod' i columns) in
    rw e at (coordinates_of S (suc b) rows columns b (i / columns) (i % columns) (omega arith) ((div-lt_iff_lt-mul z.2).1 h) (mod-lt i z.2))

-- plane k of the answer for a list is the plane of band k of the list, as the answer for all bands has it
pub listed-is-whole : (m : InterleaveMode) (list : List ℕ) (bands rows columns k i : ℕ) → i < rows * columns
    → source_of m S (bands_of false list) bands rows columns (k * (rows * columns) + i) ≡ source_of m S every_band bands rows columns (get_or list k 0 * (rows * columns) + i)
unfolding source_of band_at pick
listed-is-whole m list bands rows columns k i h =
    let a = in_plane k rows columns i h in
    let b = in_plane (get_or list k 0) rows columns i h in
    rw (a.eq_b, a.eq_r, a.eq_c, b.eq_b, b.eq_r, b.eq_c)
