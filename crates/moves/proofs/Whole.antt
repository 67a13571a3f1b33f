-- Laws of a whole block read: it is a part that fills its answer.
-- Assumes nothing.
use Prim.Native.Nat.{ℕ, ◌+◌, ◌-◌, ◌*◌, ◌/◌, ◌≤◌, ◌<◌}
use mathlib.Core.Path.{◌≡◌, sym, ap, ◌∙◌}
use mathlib.Core.Bool.{true, false}
use mathlib.Core.List.{List}
use native.Mathlib.Omega.{arith}
use native.Mathlib.Nat.{mod-lt, div-lt_iff_lt-mul}
use lib.ListN.{length}
use Rattle.common.specs.Over.{over}
use Rattle.layout.specs.Bands.{Bands, band_count, band_at}
use Rattle.samples.specs.Internal.Patched.{patched}
use Rattle.samples.proofs.Patched.{patched-all}
use Rattle.bits.proofs.Values.{values_ext}
use Rattle.layout.specs.declared.BlockLayout.{BlockLayout}
use Rattle.layout.specs.Internal.Layout.{sample_bytes}
use Rattle.layout.proofs.Places.{sample-size}
use Rattle.moves.specs.Internal.Parts.{band_of, row_of, column_of, sample_at, part_sample, in_part, Readable, whole_part, PlanesReadable, planes_of}
use Rattle.moves.proofs.Rect.{within_rect, outside, rect_part}

pub whole-readable : (l : BlockLayout) (n : ℕ) (bs : Bands) (m : ℕ) → PlanesReadable l n bs m
    → Readable l n (whole_part l.rows l.columns) bs l.rows l.columns m
whole-readable l n bs m t =
    record {
      accepted = t.accepted;
      reached = t.reached;
      some-rows = t.accepted.some-rows;
      some-columns = t.accepted.some-columns;
      in_rows = omega arith;
      in_columns = omega arith;
      to_rows = omega arith;
      to_columns = omega arith;
      bands_in = t.bands_in;
      room = t.room;
    }

-- every sample of the answer is in the whole part, and none after
pub whole-yes : (count rows columns k : ℕ) → 0 < rows → 0 < columns → k < count * rows * columns
    → in_part (whole_part rows columns) count rows columns k ≡ true
whole-yes count rows columns k hr hc h =
    sym (rect_part (whole_part rows columns) count rows columns k)
    ∙ within_rect count 0 rows 0 columns rows columns k
    (record {
      band_lt = (div-lt_iff_lt-mul hr).1 ((div-lt_iff_lt-mul hc).1 h);
      row_from = omega arith;
      row_to = omega (arith, mod-lt (k / columns) hr);
      column-from = omega arith;
      column_to = omega (arith, mod-lt k hc);
    })

pub whole-no : (count rows columns k : ℕ) → 0 < rows → 0 < columns → count * rows * columns ≤ k
    → in_part (whole_part rows columns) count rows columns k ≡ false
whole-no count rows columns k hr hc h =
    sym (rect_part (whole_part rows columns) count rows columns k)
    ∙ outside count 0 rows 0 columns rows columns k
    (λ i. let l : k < count * rows * columns = (div-lt_iff_lt-mul hc).0 ((div-lt_iff_lt-mul hr).0 i.band_lt) in omega
    arith)

whole-number : (l : BlockLayout) (src : List ℕ) (bs : Bands) (rows columns k : ℕ)
    → part_sample l src (whole_part rows columns) bs rows columns k
    ≡ sample_at l src (band_at bs (band_of rows columns k)) (row_of rows columns k) (column_of columns k)
unfolding part_sample
whole-number l src bs rows columns k =
    let y : 0 + (row_of rows columns k - 0) ≡ row_of rows columns k = omega arith in
    let x : 0 + (column_of columns k - 0) ≡ column_of columns k = omega arith in
    rw (y, x)

pub whole-done : (l : BlockLayout) (src : List ℕ) (n : ℕ) (bs : Bands) (out : List ℕ) {zs : List ℕ}
    → PlanesReadable l n bs (length out)
    → zs ≡ patched (sample_bytes l) (part_sample l src (whole_part l.rows l.columns) bs l.rows l.columns)
    (in_part (whole_part l.rows l.columns) (band_count l.bands bs) l.rows l.columns) out
    → zs ≡ over out 0 (planes_of l src bs)
unfolding planes_of
whole-done l src n bs out t ez =
    let f = t.accepted in
    let k : ℕ = band_count l.bands bs in
    ez
    ∙ patched-all (sample_bytes l) _ _ out (k * l.rows * l.columns) (sample-size l f).some t.room
    (λ q h. whole-yes k l.rows l.columns q f.some-rows f.some-columns h)
    (λ q h _. whole-no k l.rows l.columns q f.some-rows f.some-columns h)
    ∙ ap (over out 0) (values_ext _ _ (sample_bytes l) (k * l.rows * l.columns) (λ q _. whole-number l src bs
    l.rows l.columns q))
