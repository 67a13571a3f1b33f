-- Laws of a piece of a block that is stored: what each way of moving it puts.
-- Assumes nothing.
use Prim.Native.Nat.{ℕ, ◌+◌, ◌-◌, ◌*◌, ◌/◌, ◌%◌, ◌^◌, ◌≤◌, ◌<◌}
use mathlib.Core.Path.{◌≡◌, refl, sym, ap, ap₂, ◌∙◌}
use mathlib.Core.Bool.{true}
use mathlib.Core.List.{List, []}
use native.Mathlib.Omega.{arith}
use native.Mathlib.Nat.{zero-add, add-zero, mod-eq_of_lt, mod-lt}
use lib.Arith.{digits_lt}
use lib.ListN.{length}
use lib.Pow.{pow_pos}
use Rattle.bits.specs.Bits.{Bytes, be_at}
use Rattle.common.specs.Turns.{iter}
use Rattle.bits.proofs.Bits.{within}
use Rattle.common.specs.Tests.{pick}
use Rattle.layout.specs.Bands.{bands_of, band_count, q8}
use Rattle.samples.specs.Internal.Samples.{spaced, put_spaced, SamplesFit}
use Rattle.bits.specs.Values.{side_by_side}
use Rattle.samples.proofs.Groups.{fit-part}
use Rattle.samples.proofs.Moves.{spaced-bytes, put_spaced_run}
use Rattle.rows.specs.Internal.Rows.{whole_rows, row_written}
use Rattle.rows.proofs.WholeBytes.{last_row}
use Rattle.layout.specs.declared.BlockLayout.{BlockLayout}
use Rattle.layout.specs.Internal.Layout.{sample_bytes, place, block_end, Sample, Sound}
use Rattle.layout.specs.Internal.Spacing.{has_strides, band_stride, column_stride}
use Rattle.moves.specs.declared.order.Piece.{Piece}
use Rattle.moves.specs.declared.part.Part.{Part}
use Rattle.moves.specs.declared.runs.Run.{Run}
use Rattle.moves.specs.declared.spacing.Spacing.{Spacing}
use Rattle.moves.specs.Internal.Parts.{Readable, whole_part}
use Rattle.moves.specs.Internal.Puts.{InRow, Puts}
use Rattle.moves.specs.Internal.Stores.{data_index, data_at, image_target, Writable}
use Rattle.moves.specs.Internal.Orders.{PieceIn, InPiece}
use Rattle.moves.specs.Internal.Runs.{RowRun}
use Rattle.moves.specs.Internal.Spacings.{spaced_at, first_at, image_spacing, plane_spacing, PlanesFit}
use Rattle.moves.proofs.Putting.{puts_less, puts_turns}
use Rattle.moves.proofs.Stored.{image_run}
use Rattle.moves.proofs.Whole.{whole-readable}
use Rattle.moves.proofs.Pieces.{stride-wide, planes_end, planes-fit, Placed, size_is, place_is, whole-bytes, pixels-end}

-- ---- the whole block as a part, with all its bands

abbrev pub whole : BlockLayout → Part
whole l = whole_part l.rows l.columns

abbrev pub PlacedBlock : BlockLayout → (dat image : List ℕ) → (im pl : Spacing) → Piece → Type 0
PlacedBlock l dat image im pl q =
    Placed l (length image) (whole l) (bands_of true []) l.rows l.columns (length dat) im pl q

store_readable : (l : BlockLayout) (dat image : List ℕ) → Writable l dat image
    → Readable l (length image) (whole l) (bands_of true []) l.rows l.columns (length dat)
unfolding q8 band_count pick
store_readable l dat image w =
    whole-readable l (length image) (bands_of true []) (length dat)
    (record { accepted = w.accepted; reached = w.image_holds; bands_in = refl; room = omega (arith, w.data_is) })

pub placed-block : {l : BlockLayout} {dat image : List ℕ} {im pl : Spacing} {q : Piece} → Writable l dat image
    → im ≡ image_spacing l (whole l) → pl ≡ plane_spacing (whole l) l.rows l.columns (sample_bytes l)
    → PieceIn l.bands l.rows l.columns q → PlacedBlock l dat image im pl q
unfolding band_count pick
placed-block w ei ep i =
    record { readable = store_readable _ _ _ w; image-is = ei; planes_are = ep; in-part = i }

pub whole_planes : (l : BlockLayout) (dat image : List ℕ) → Writable l dat image → length dat < 2 ^ 64
    → PlanesFit (whole l) l.rows l.columns (sample_bytes l)
unfolding band_count pick
whole_planes l dat image w h = planes-fit l _ _ _ _ _ _ (store_readable l dat image w) h w.accepted.some-bands

-- where a sample is in the planes
pub index_is : (l : BlockLayout) (b r c : ℕ) {pl : Spacing} {from : ℕ}
    → pl ≡ plane_spacing (whole l) l.rows l.columns (sample_bytes l) → from ≡ spaced_at pl b r c → from
    ≡ data_index l b r c
index_is l b r c ep e = e ∙ rw ep (omega arith)

-- n samples of a row end inside the planes
pub data_end : (l : BlockLayout) (dat image : List ℕ) → Writable l dat image → (b r c n : ℕ) → b < l.bands → r
    < l.rows
    → c + n ≤ l.columns → data_index l b r c + n * sample_bytes l ≤ length dat
unfolding band_count pick
data_end l dat image w b r c n hb hr hc =
    omega (arith, planes_end l _ _ _ _ _ _ (store_readable l dat image w) b 0 r 0 c n (omega arith) (omega arith) hc)

-- n samples of a row have no further bits
pub row_fits : {l : BlockLayout} {dat image : List ℕ} → Writable l dat image → (b r c n : ℕ) {from size : ℕ}
    → b < l.bands → r < l.rows → c + n ≤ l.columns → from ≡ data_index l b r c → size ≡ sample_bytes l
    → l.nbpp < 8 * size → SamplesFit dat from size l.nbpp n
row_fits {l} {dat} w b r c n hb hr hc ef es h =
    let inside : b * l.rows + r < l.bands * l.rows = digits_lt {q = b} {m = l.bands} hb hr in
    rw es
    (fit-part dat 0 (sample_bytes l) l.nbpp _ ((b * l.rows + r) * l.columns + c) n (w.fits (omega arith))
    (omega (arith, within _ _ l.columns inside)) (omega arith))

-- ---- a row

-- of a number only the low bits are stored
stored_value : (l : BlockLayout) (dat : List ℕ) (b r c i : ℕ) → i ≡ data_index l b r c
    → be_at dat i (sample_bytes l) % 2 ^ l.nbpp ≡ data_at l dat b r c % 2 ^ l.nbpp
unfolding data_at
stored_value l dat b r c i e =
    ap (λ (x : ℕ). be_at dat x (sample_bytes l) % 2 ^ l.nbpp) e
    ∙ sym (mod-eq_of_lt (mod-lt (be_at dat (data_index l b r c) (sample_bytes l)) (pow_pos l.nbpp)))

-- n samples of a row that stand evenly
line-put : (l : BlockLayout) → Sound l → (dat : List ℕ) (b r c n at : ℕ) {from : ℕ} {xs ys : List ℕ}
    → b < l.bands → r < l.rows → c + n ≤ l.columns → block_end l ≤ length xs → from ≡ data_index l b r c
    → ((x : ℕ) → x < n → place l b r (c + x) ≡ at + x * column_stride l.mode l)
    → ys ≡ put_spaced (side_by_side dat from (sample_bytes l)) l.nbpp at (column_stride l.mode l) n xs
    → Puts (image_target l (data_at l dat)) (InRow b r c n) xs ys
unfolding side_by_side
line-put l f dat b r c n at {from} hb hr hc fits ef places e =
    image_run l f (data_at l dat) _ n at (column_stride l.mode l) (λ _. b) (λ _. r) (λ x. c + x) fits (stride-wide l f)
    (λ x h. record { in_b = hb; in_r = hr; in_c = omega arith }) places
    (λ x h. stored_value l dat b r (c + x) (from + x * sample_bytes l) (omega arith)) e
    (λ b' r' c' a h. (c' - c, omega (arith, h), h.0, h.1, omega (arith, h)))

-- a run of them, which starts d samples after sample (b, r, c)
pub run_put : (l : BlockLayout) → Sound l → (dat : List ℕ) (b r c d most : ℕ) (run : Run) {from size step : ℕ}
    {xs ys : List ℕ}
    → Sample l b r (c + d) → c + d + most ≤ l.columns → block_end l ≤ length xs → from ≡ data_index l b r c
    → size ≡ sample_bytes l → step ≡ column_stride l.mode l → RowRun l b r (c + d) most run
    → ys ≡ put_spaced (side_by_side dat (from + d * size) size) l.nbpp run.at step run.count xs
    → Puts (image_target l (data_at l dat)) (InRow b r (c + d) run.count) xs ys
run_put l f dat b r c d most run t hc fits ef es et q e =
    line-put l f dat b r (c + d) run.count run.at t.in_b t.in_r (omega (arith, q.count-le)) fits
    (let o : _ + d * sample_bytes l ≡ data_index l b r (c + d) = omega arith in o) q.along (rw (es, et) at e)

-- ---- a piece

module _ {l : BlockLayout} {dat image : List ℕ} (w : Writable l dat image) {im pl : Spacing} {q : Piece}
    (k : PlacedBlock l dat image im pl q) (i : PieceIn l.bands l.rows l.columns q) (even : has_strides l ≡ true)
    {at from : ℕ} (ea : at ≡ first_at im q.bands.from q) (ef : from ≡ first_at pl q.bands.from q) where
  from_is : from ≡ data_index l q.bands.from q.rows.from q.columns.from
  from_is = index_is l _ _ _ k.planes_are ef

  -- where a sample of the piece goes
  place_at : (b d c : ℕ) → d < q.rows.count → c < q.columns.count
      → place l b (q.rows.from + d) (q.columns.from + c) ≡ first_at im b q + d * im.row + c * im.column
  place_at b d c hd hc =
      ap₂ (place l b) (sym (zero-add (q.rows.from + d))) (sym (zero-add (q.columns.from + c)))
      ∙ place_is k even b d c hd hc

  -- rows of one band have no further bits
  pub rows_fit : l.nbpp < 8 * pl.column → (y : ℕ) → y < q.rows.count
      → SamplesFit dat (from + y * pl.row) pl.column l.nbpp q.columns.count
  rows_fit h y hy =
      let ey : pl.row ≡ l.columns * sample_bytes l = ap (λ (x : Spacing). x.row) k.planes_are in
      row_fits w q.bands.from (q.rows.from + y) q.columns.from q.columns.count (omega (arith, i.in_bands))
      (omega (arith, i.in_rows)) i.in_columns.ends (omega (arith, from_is, ap (λ (x : ℕ). y * x) ey)) (size_is k) h

  -- rows of one band
  pub rows-put : {after : List ℕ} → q.bands.count ≡ 1
      → after ≡ iter q.rows.count
      (row_written dat from pl.row pl.column l.nbpp at im.row im.column q.columns.count) image
      → Puts (image_target l (data_at l dat)) (InPiece q) image after
  rows-put one e =
      let hf = from_is in
      let es : im.column ≡ column_stride l.mode l = ap (λ (x : Spacing). x.column) k.image-is in
      rw (e, k.planes_are, es)
      (puts_turns (image_target l (data_at l dat)) (InPiece q) (λ b r c. r - q.rows.from) q.rows.count _ image
      (λ y h xs ex _.
      puts_less (image_target l (data_at l dat))
      (line-put l w.accepted dat q.bands.from (q.rows.from + y) q.columns.from q.columns.count _
      (omega (arith, i.in_bands)) (omega (arith, i.in_rows)) i.in_columns.ends (omega (arith, w.image_holds))
      (omega arith)
      (λ x g.
      place_at q.bands.from y x h g
      ∙ omega (arith, ap (λ (z : ℕ). x * z) es))
      refl)
      (λ b r c a g. (omega (arith, g.0.in_b), omega (arith, g.0.in_r), g.0.in_c.low, g.0.in_c.high)))
      (λ b r c a g. omega (arith, g.in_r)))

  -- some bands of one row, pixel by pixel
  pub pixels-put : {after : List ℕ} → Bytes dat → Bytes image → q.rows.count ≡ 1
      → band_stride l.mode l ≡ l.nbpp → l.nbpp % 8 ≡ 0
      → after ≡ whole_rows dat from pl.column pl.band pl.column q.bands.count (at / 8) (im.column / 8)
      q.columns.count image
      → Puts (image_target l (data_at l dat)) (InPiece q) image after
  pixels-put bd bi one beside whole e =
      let s : ℕ = sample_bytes l in
      let plane : ℕ = l.rows * l.columns * s in
      let n : ℕ = q.bands.count in
      let e8 : 8 * s ≡ l.nbpp = omega arith in
      let wb = whole-bytes k even beside whole q.bands.from in
      let side : im.band ≡ l.nbpp = ap (λ (x : Spacing). x.band) k.image-is ∙ beside in
      let hf = from_is in
      rw (e, k.planes_are)
      (puts_turns (image_target l (data_at l dat)) (InPiece q) (λ b r c. c - q.columns.from) q.columns.count _ image
      (λ y h xs ex kept.
      let put : ℕ = at / 8 + y * (im.column / 8) in
      let column : 8 * put ≡ at + y * im.column = rw ea (omega (arith, wb.first, ap (λ (z : ℕ). y * z) wb.next)) in
      let v : ℕ → ℕ = spaced dat (8 * from + y * (8 * s)) (8 * plane) (8 * s) in
      image_run l w.accepted (data_at l dat) v n (at + y * im.column) l.nbpp
      (λ x. q.bands.from + x) (λ _. q.rows.from) (λ _. q.columns.from + y) (omega (arith, w.image_holds))
      (omega arith)
      (λ x g. record {
        in_b = omega (arith, i.in_bands);
        in_r = omega (arith, i.in_rows);
        in_c
            = omega (arith, i.in_columns);
      })
      (λ x g.
      ap (λ (z : ℕ). place l (q.bands.from + x) z (q.columns.from + y)) (sym (add-zero q.rows.from))
      ∙ place_at (q.bands.from + x) 0 y i.in_rows.some h ∙ omega (arith, ap (λ (z : ℕ). x * z) side))
      (λ x g.
      let o : 8 * from + y * (8 * s) ≡ 8 * (from + y * s) = omega arith in
      ap (λ (z : ℕ). z % 2 ^ l.nbpp)
      (ap (λ (z : ℕ). spaced dat z (8 * plane) (8 * s) x) o ∙ sym (spaced-bytes dat (from + y * s) plane s x bd))
      ∙ stored_value l dat (q.bands.from + x) q.rows.from (q.columns.from + y) (from + y * s + x * plane)
      (omega arith))
      (put_spaced_run v s put n xs (kept bi) (omega (arith, room y h))
      ∙ ap₂ (λ (a b : ℕ). put_spaced v a b a n xs) e8 column)
      (λ b r c a g. (
        b - q.bands.from,
        omega (arith, g.0.in_b),
        omega (arith, g.0.in_b),
        omega
            (arith, g.0.in_r),
        omega (arith, g.0.in_c),
      )))
      (λ b r c a g. omega (arith, g.in_c)))
    where
      -- the bands of a pixel end inside the image
      room : (y : ℕ) → y < q.columns.count
          → at / 8 + y * (im.column / 8) + q.bands.count * sample_bytes l ≤ length image
      room y h =
          let n : ℕ = q.bands.count in
          let size = size_is k in
          let end = pixels-end k even beside whole q.bands.from (n - 1) (omega (arith, i.in_bands)) ea in
          let next = within y q.columns.count (im.column / 8) h in
          let bands = ap (λ (z : ℕ). (n - 1) * z) size in
          omega (arith, last_row n (sample_bytes l) i.in_bands.some)
