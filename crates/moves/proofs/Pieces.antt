-- Laws of a piece of a part on both sides: where its samples lie in the image and in planes, and that they lie inside.
-- Assumes nothing.
use Prim.Native.Nat.{ℕ, ◌+◌, ◌-◌, ◌*◌, ◌/◌, ◌%◌, ◌^◌, ◌≤◌, ◌<◌}
use mathlib.Core.Path.{◌≡◌, sym, ap, ◌∙◌}
use mathlib.Core.Bool.{true}
use mathlib.Core.List.{List}
use native.Mathlib.Omega.{arith}
use native.Mathlib.Nat.{mul-le-mul_left, mul-le-mul_right}
use lib.Arith.{digits_lt}
use Rattle.bits.specs.Bits.{bits_at}
use Rattle.samples.specs.Internal.Samples.{spaced}
use Rattle.layout.specs.Bands.{Bands, band_count}
use Rattle.common.proofs.Arith.{prod_le}
use Rattle.rows.specs.Internal.Rows.{Movable}
use Rattle.rows.proofs.WholeBytes.{last_row}
use Rattle.layout.specs.declared.BlockLayout.{BlockLayout}
use Rattle.layout.specs.Internal.Layout.{sample_bytes, place, block_end, Sample, SampleSize, Sound}
use Rattle.layout.specs.Internal.Spacing.{has_strides, band_stride, column_stride}
use Rattle.layout.proofs.Places.{sample-size, ends, place-le}
use Rattle.layout.proofs.Spaced.{place-even, whole-place, whole-stride, strides_fit, stride-is, steps_pos}
use Rattle.moves.specs.declared.order.Piece.{Piece}
use Rattle.moves.specs.declared.part.Part.{Part}
use Rattle.moves.specs.declared.runs.Run.{Run}
use Rattle.moves.specs.declared.spacing.Spacing.{Spacing}
use Rattle.moves.specs.Internal.Parts.{Readable, sample_at, answer_number}
use Rattle.moves.specs.Internal.Orders.{PieceIn}
use Rattle.moves.specs.Internal.Runs.{RowRun}
use Rattle.moves.specs.Internal.Spacings.{spaced_at, first_at, image_spacing, plane_spacing, PlanesFit}

-- ---- samples a column's stride apart

-- m samples from bit `at` on, where sample (b, r, c) is, of which the last is a sample of the same row
pub movable : (l : BlockLayout) → Sound l → (n b r c c' at m : ℕ) → Sample l b r c' → block_end l ≤ n → 0 < m
    → at ≡ place l b r c → place l b r c' ≡ at + (m - 1) * column_stride l.mode l
    → Movable n at (column_stride l.mode l) l.nbpp (sample_bytes l) m
movable l f n b r c c' at m t reach pos ea el =
    let q = last_row m (column_stride l.mode l) pos in
    record {
      whole = λ e.
          let w : l.nbpp % 8 ≡ 0 = omega arith in
          (ap (λ (x : ℕ). x % 8) ea ∙ whole-place l b r c w, whole-stride l w);
      inside = omega (arith, ends l f b r c' t);
      fits = omega (arith, place-le l f b r c' t, (strides_fit l f).stride);
    }

-- they do not meet
pub stride-wide : (l : BlockLayout) → Sound l → l.nbpp ≤ column_stride l.mode l
stride-wide l f =
    omega (arith, stride-is l.mode l, mul-le-mul_right l.nbpp (steps_pos l.mode l f.some-bands))

-- sample j of a run that starts d samples after sample (b, r, c)
pub run_number : (l : BlockLayout) (src : List ℕ) (b r c d most : ℕ) (run : Run) (j : ℕ) {step : ℕ}
    → step ≡ column_stride l.mode l → RowRun l b r (c + d) most run → j < run.count
    → spaced src run.at step l.nbpp j ≡ sample_at l src b r (c + (d + j))
unfolding spaced sample_at
run_number l src b r c d most run j es q h =
    rw es (ap (λ (x : ℕ). bits_at src x l.nbpp) (sym (q.along j h) ∙ ap (place l b r) (omega arith)))

-- n samples of those of a line, from sample k on, end inside m bytes
pub in_line : (to s k n count m : ℕ) {size : ℕ} → size ≡ s → k + n ≤ count → to + count * s ≤ m
    → to + k * size + n * size ≤ m
in_line to s k n count m e h room = rw e (omega (arith, mul-le-mul_right s h))

-- what `read_samples` and `write_samples` ask of samples in an image of n bytes, whose bytes and stride the code has
pub can_move : (n at step w s count : ℕ) {size step' : ℕ} → size ≡ s → step' ≡ step → SampleSize w s
    → Movable n at step w s count
    → ((w ≤ 8 * size) × (size ≤ 8) × (w < 8 * size → w ≤ 57)) × (w ≡ 8 * size → (at % 8 ≡ 0) × (step' % 8 ≡ 0))
    × (at + count * step' + w < 2 ^ 63) × (at + count * step' + w ≤ 8 * n + step')
can_move n at step w s count es et z m =
    rw (es, et) ((z.bits_le, z.bytes_le, z.narrow), m.whole, m.fits, m.inside)

-- rows of c samples of w bits in an image of n bytes, each of which can be moved
pub record RowsMove (n at row step w size c rows : ℕ) : Type 0 where
  pub bits_le : w ≤ 8 * size
  pub bytes_le : size ≤ 8
  pub narrow : w < 8 * size → w ≤ 57
  pub movable : (i : ℕ) → i < rows → Movable n (at + i * row) step w size c

-- ---- a part in planes

-- a sample's place is told by its number
pub plane-at : (p : Part) (rows columns s k i j : ℕ)
    → spaced_at (plane_spacing p rows columns s) k i j ≡ answer_number p rows columns k i j * s
plane-at p rows columns s k i j = omega arith

module _ (l : BlockLayout) (n : ℕ) (p : Part) (bs : Bands) (rows columns m : ℕ)
    (t : Readable l n p bs rows columns m) where
  -- bands up to k + a and rows up to i + d, in each c columns from column j on, end inside the planes
  pub planes_end : (k a i d j c : ℕ) → k + a < band_count l.bands bs → i + d < p.rows → j + c ≤ p.columns
      → spaced_at (plane_spacing p rows columns (sample_bytes l)) k i j + a * (rows * columns * sample_bytes l)
      + d * (columns * sample_bytes l) + c * sample_bytes l ≤ m
  planes_end k a i d j c hk hi hj =
      let h : (k + a) * rows + (p.to_row + (i + d)) < band_count l.bands bs * rows
      = digits_lt {q = k + a} {m = band_count l.bands bs} hk (omega (arith, t.to_rows)) in
      let g : ((k + a) * rows + (p.to_row + (i + d))) * columns + (p.to_column + (j + c))
      ≤ band_count l.bands bs * rows * columns = omega (arith, mul-le-mul_right columns h, t.to_columns) in
      omega (arith, mul-le-mul_right (sample_bytes l) g, t.room)

  pub planes-fit : m < 2 ^ 64 → 0 < band_count l.bands bs → PlanesFit p rows columns (sample_bytes l)
  planes-fit hm some =
      let s : ℕ = sample_bytes l in
      let hr : p.to_row < rows = omega (arith, t.to_rows, t.some-rows) in
      let b : rows * columns * s ≤ m = omega (arith, mul-le-mul_right (rows * columns * s) some, t.room) in
      let q : p.to_row * columns + p.to_column ≤ rows * columns
      = omega (arith, mul-le-mul_right columns hr, t.to_columns) in
      let w : rows * columns ≤ rows * columns * s
      = omega (arith, mul-le-mul_left (rows * columns) (sample-size l t.accepted).some) in
      let one : 1 ≤ rows = omega arith in
      record {
        down = omega arith;
        start = omega arith;
        first = omega (arith, mul-le-mul_right s q);
        samples = omega arith;
        band = omega arith;
        row = omega (arith, mul-le-mul_right (columns * s) one);
      }

  pub samples-fit : m < 2 ^ 64 → band_count l.bands bs * p.rows * p.columns < 2 ^ 64
  samples-fit hm =
      let n : ℕ = band_count l.bands bs in
      let h : n * p.rows ≤ n * rows = mul-le-mul_left n (omega (arith, t.to_rows)) in
      let g = prod_le (n * p.rows) p.columns (n * rows) columns h (omega (arith, t.to_columns)) in
      omega (arith, t.room, mul-le-mul_left (n * rows * columns) (sample-size l t.accepted).some)

-- ---- a piece

-- a piece of a part, and both spacings as the code has them
pub record Placed (l : BlockLayout) (n : ℕ) (p : Part) (bs : Bands) (rows columns m : ℕ) (im pl : Spacing) (q : Piece)
    : Type 0 where
  pub readable : Readable l n p bs rows columns m
  pub image-is : im ≡ image_spacing l p
  pub planes_are : pl ≡ plane_spacing p rows columns (sample_bytes l)
  pub in-part : PieceIn (band_count l.bands bs) p.rows p.columns q

-- a first bit, and the distances of columns and bands, that are whole bytes
pub record WholeBytes (at column band : ℕ) : Type 0 where
  pub first : 8 * (at / 8) ≡ at
  pub next : 8 * (column / 8) ≡ column
  pub beside : 8 * (band / 8) ≡ band

module _ {l : BlockLayout} {n : ℕ} {p : Part} {bs : Bands} {rows columns m : ℕ} {im pl : Spacing} {q : Piece}
    (k : Placed l n p bs rows columns m im pl q) where
  -- c columns of its row d and its band a end inside the planes
  planes_in : (a d c : ℕ) → a < q.bands.count → d < q.rows.count → c ≤ q.columns.count
      → first_at pl q.bands.from q + a * pl.band + d * pl.row + c * pl.column ≤ m
  planes_in a d c ha hd hc =
      let i = k.in-part in
      rw k.planes_are
      (planes_end l n p bs rows columns m k.readable q.bands.from a q.rows.from d q.columns.from c
      (omega (arith, i.in_bands)) (omega (arith, i.in_rows)) (omega (arith, i.in_columns)))

  pub to_fits : m < 2 ^ 64 → first_at pl q.bands.from q < 2 ^ 64
  to_fits hm =
      omega (arith, planes_in 0 0 0 k.in-part.in_bands.some k.in-part.in_rows.some (omega arith))

  pub size_is : pl.column ≡ sample_bytes l
  size_is = ap (λ (x : Spacing). x.column) k.planes_are

  module _ {to : ℕ} (et : to ≡ first_at pl q.bands.from q) where
    -- a row of a band, rows of a band, and bands of a row, end inside the planes
    pub row_room : to + q.columns.count * sample_bytes l ≤ m
    row_room =
        let i = k.in-part in
        let h = planes_in 0 0 q.columns.count i.in_bands.some i.in_rows.some (omega arith) in
        omega (arith, ap (λ (x : ℕ). q.columns.count * x) size_is)

    pub rows-room : to + q.rows.count * pl.row + q.columns.count * pl.column ≤ m + pl.row
    rows-room =
        let r : ℕ = q.rows.count in
        let some = k.in-part.in_rows.some in
        let h = planes_in 0 (r - 1) q.columns.count k.in-part.in_bands.some (omega arith) (omega arith) in
        omega (arith, last_row r pl.row some)

    pub bands-room : to + q.bands.count * pl.band + q.columns.count * pl.column ≤ m + pl.band
    bands-room =
        let b : ℕ = q.bands.count in
        let some = k.in-part.in_bands.some in
        let h = planes_in (b - 1) 0 q.columns.count (omega arith) k.in-part.in_rows.some (omega arith) in
        omega (arith, last_row b pl.band some)

  module _ (e : has_strides l ≡ true) where
    -- row d and column c of the piece, in band b: where it is in the image
    pub place_is : (b d c : ℕ) → d < q.rows.count → c < q.columns.count
        → place l b (p.r + (q.rows.from + d)) (p.c + (q.columns.from + c))
        ≡ first_at im b q + d * im.row + c * im.column
    place_is b d c hd hc =
        let t = k.readable in
        let f = t.accepted in
        let i = k.in-part in
        let r : p.r + (q.rows.from + d) < l.run_rows = omega (arith, f.rows-le, t.in_rows, i.in_rows) in
        let x : p.c + (q.columns.from + c) < l.run_columns
        = omega (arith, f.columns-le, t.in_columns, i.in_columns) in
        rw k.image-is
        (omega (arith, place-even l f b _ _ e r x, place-even l f 0 p.r p.c e (omega arith) (omega arith)))

    sample_in : (b d c : ℕ) → b < l.bands → d < q.rows.count → c < q.columns.count
        → Sample l b (p.r + (q.rows.from + d)) (p.c + (q.columns.from + c))
    sample_in b d c hb hd hc =
        let t = k.readable in
        let r : p.r + (q.rows.from + d) < l.rows = omega (arith, t.in_rows, k.in-part.in_rows) in
        let x : p.c + (q.columns.from + c) < l.columns = omega (arith, t.in_columns, k.in-part.in_columns) in
        record { in_b = hb; in_r = r; in_c = x }

    -- it ends inside the image
    image_in : (b d c : ℕ) → b < l.bands → d < q.rows.count → c < q.columns.count
        → let at = first_at im b q + d * im.row + c * im.column + l.nbpp in (at ≤ 8 * n) × (at ≤ 2 ^ 59)
    image_in b d c hb hd hc =
        let t = k.readable in
        let s = sample_in b d c hb hd hc in
        rw (sym (place_is b d c hd hc))
        (omega (arith, ends l t.accepted _ _ _ s, t.reached), place-le l t.accepted _ _ _ s)

    pub at-fits : (b : ℕ) → b < l.bands → first_at im b q < 2 ^ 64
    at-fits b hb = omega (arith, (image_in b 0 0 hb k.in-part.in_rows.some k.in-part.in_columns.some).1)

    -- its rows of band b
    pub rows_move : (b : ℕ) {at : ℕ} → b < l.bands → at ≡ first_at im b q
        → RowsMove n at im.row im.column l.nbpp pl.column q.columns.count q.rows.count
    rows_move b hb ea =
        let t = k.readable in
        let z = sample-size l t.accepted in
        let c : ℕ = q.columns.count in
        let some = k.in-part.in_columns.some in
        let es : im.column ≡ column_stride l.mode l = ap (λ (x : Spacing). x.column) k.image-is in
        rw (size_is, es)
        (record {
          bits_le = z.bits_le;
          bytes_le = z.bytes_le;
          narrow = z.narrow;
          movable = λ y h.
              movable l t.accepted n b _ _ _ _ c (sample_in b y (c - 1) hb h (omega arith)) t.reached some
              (sym (place_is b y 0 h some ∙ omega arith))
              (place_is b y (c - 1) h (omega arith) ∙ omega (arith, ap (λ (x : ℕ). (c - 1) * x) es));
        })

    module _ (beside : band_stride l.mode l ≡ l.nbpp) (whole : l.nbpp % 8 ≡ 0) where
      -- samples of whole bytes start at whole bytes, and stand whole bytes apart
      pub whole-bytes : (b : ℕ) → WholeBytes (first_at im b q) im.column im.band
      whole-bytes b =
          let at = place_is b 0 0 k.in-part.in_rows.some k.in-part.in_columns.some in
          let es : im.column ≡ column_stride l.mode l = ap (λ (x : Spacing). x.column) k.image-is in
          let eb : im.band ≡ band_stride l.mode l = ap (λ (x : Spacing). x.band) k.image-is in
          record {
            first = omega (arith, whole-place l b (p.r + (q.rows.from + 0)) (p.c + (q.columns.from + 0)) whole);
            next = omega (arith, whole-stride l whole);
            beside = omega arith;
          }

      band-bytes : im.band / 8 ≡ pl.column
      band-bytes = rw (k.image-is, k.planes_are) (omega arith)

      -- pixels of them, up to x bands after band b, end inside the image
      pub pixels-end : (b x : ℕ) {at : ℕ} → b + x < l.bands → at ≡ first_at im b q
          → at / 8 + x * pl.column + q.columns.count * (im.column / 8) + pl.column ≤ n + im.column / 8
      pixels-end b x hb ea =
          let c : ℕ = q.columns.count in
          let some = k.in-part.in_columns.some in
          let w = whole-bytes b in
          let s : 8 * pl.column ≡ l.nbpp = rw size_is (omega arith) in
          let band : 8 * pl.column ≡ im.band = omega (arith, w.beside, band-bytes) in
          let last = (image_in (b + x) 0 (c - 1) hb k.in-part.in_rows.some (omega arith)).0 in
          rw ea
          (omega (
            arith,
            last,
            w.first,
            last_row c (im.column / 8) some,
            ap (λ (z : ℕ). x * z) band,
            ap (λ (z : ℕ). (c - 1) * z) w.next,
          ))
