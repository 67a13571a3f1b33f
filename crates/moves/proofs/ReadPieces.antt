-- Laws of a piece of a part that is read: what each way of moving it puts into the answer.
-- Assumes nothing.
use Prim.Native.Nat.{ℕ, ◌+◌, ◌-◌, ◌*◌, ◌/◌, ◌%◌, ◌≤◌, ◌<◌}
use mathlib.Core.Path.{◌≡◌, refl, sym, ap, ap₂, ◌∙◌}
use mathlib.Core.Bool.{true, false}
use mathlib.Core.List.{List}
use native.Mathlib.Nat.{add-zero}
use native.Mathlib.Omega.{arith}
use lib.ListN.{length, get_or}
use Rattle.bits.specs.Bits.{Bytes, bits_at, be_at}
use Rattle.common.specs.Over.{over}
use Rattle.common.specs.Turns.{iter}
use Rattle.bits.proofs.BigEndian.{bits_at-bytes}
use Rattle.common.specs.Tests.{pick}
use Rattle.layout.specs.Bands.{Bands, bands_of, band_count, band_at}
use Rattle.bits.specs.Values.{values}
use Rattle.samples.specs.Internal.Samples.{spaced}
use Rattle.rows.specs.Internal.Rows.{row_read, pixel_read}
use Rattle.layout.specs.declared.BlockLayout.{BlockLayout}
use Rattle.layout.specs.Internal.Layout.{sample_bytes}
use Rattle.layout.specs.Internal.Spacing.{has_strides, band_stride}
use Rattle.layout.proofs.Places.{sample-size}
use Rattle.moves.specs.declared.part.Part.{Part}
use Rattle.moves.specs.declared.order.Piece.{Piece}
use Rattle.moves.specs.declared.spacing.Spacing.{Spacing}
use Rattle.moves.specs.Internal.Parts.{Readable, sample_at, answer_target, samples_read}
use Rattle.moves.specs.Internal.Puts.{InRow, Puts}
use Rattle.moves.specs.Internal.Orders.{PieceIn, InPiece}
use Rattle.moves.specs.Internal.Spacings.{spaced_at, first_at, plane_spacing}
use Rattle.moves.proofs.Putting.{puts_less, puts_turns}
use Rattle.moves.proofs.Answers.{answer_run}
use Rattle.moves.proofs.Pieces.{plane-at, planes_end, Placed, place_is, whole-bytes}

-- ---- bands of a list

pub listed-count : (bands : ℕ) (list : List ℕ) → band_count bands (bands_of false list) ≡ length list
unfolding band_count pick
listed-count bands list = refl

pub count_listed : (bands : ℕ) (bs : Bands) → bs.all ≡ false → band_count bands bs ≡ length bs.list
unfolding band_count pick
count_listed bands bs e = rw e refl

pub listed_at : (list : List ℕ) (k : ℕ) → get_or list k 0 ≡ band_at (bands_of false list) k
unfolding band_at pick
listed_at list k = refl

-- ---- a piece

-- n samples of a row
line_read : (l : BlockLayout) (src : List ℕ) (p : Part) (bs : Bands) (rows columns m : ℕ) → Readable l (length src) p
    bs rows columns m
    → (w : ℕ → ℕ) (k i j n to : ℕ) {xs ys : List ℕ} → k < band_count l.bands bs → i < p.rows → j + n ≤ p.columns
    → length xs ≡ m → to ≡ spaced_at (plane_spacing p rows columns (sample_bytes l)) k i j
    → ((x : ℕ) → x < n → w x ≡ sample_at l src (band_at bs k) (p.r + i) (p.c + (j + x)))
    → ys ≡ over xs to (values w (sample_bytes l) n) → Puts (answer_target l src p bs rows columns) (InRow k i j n) xs ys
line_read l src p bs rows columns m t w k i j n to hk hi hj ex et right e =
    answer_run l src p bs rows columns (sample-size l t.accepted).some t.to_rows t.to_columns w n to
    (λ _. k) (λ _. i) (λ x. j + x)
    (omega (arith, planes_end l (length src) p bs rows columns m t k 0 i 0 j n (omega arith) (omega arith) hj))
    (λ x h. record { in_b = hk; in_r = hi; in_c = omega arith })
    (λ x h. omega (arith, plane-at p rows columns (sample_bytes l) k i j))
    right e
    (λ k' i' j' a h. (j' - j, omega (arith, h), h.0, h.1, omega (arith, h)))

module _ {l : BlockLayout} (src : List ℕ) {p : Part} {bs : Bands} {rows columns m : ℕ} {im pl : Spacing} {q : Piece}
    (k : Placed l (length src) p bs rows columns m im pl q) {to : ℕ} (et : to ≡ first_at pl q.bands.from q) where
  t : Readable l (length src) p bs rows columns m
  t = k.readable

  i : PieceIn (band_count l.bands bs) p.rows p.columns q
  i = k.in-part

  to_is : to ≡ first_at (plane_spacing p rows columns (sample_bytes l)) q.bands.from q
  to_is = rw k.planes_are at et

  -- one row of one band, cut where runs end
  pub row_read_lem : (b : ℕ) {out after : List ℕ} → length out ≡ m → q.rows.count ≡ 1 → q.bands.count ≡ 1
      → b ≡ band_at bs q.bands.from
      → after ≡ samples_read l src b (p.r + q.rows.from) (p.c + q.columns.from) q.columns.count to out
      → Puts (answer_target l src p bs rows columns) (InPiece q) out after
  row_read_lem b eo one-row one eb e =
      puts_less (answer_target l src p bs rows columns)
      (line_read l src p bs rows columns m t _ q.bands.from q.rows.from q.columns.from q.columns.count
      to
      (omega (arith, i.in_bands)) (omega (arith, i.in_rows)) i.in_columns.ends eo to_is
      (λ x h. ap₂ (λ (y z : ℕ). sample_at l src y (p.r + q.rows.from) z) eb (omega arith)) e)
      (λ k i j a g. (omega (arith, g.in_b), omega (arith, g.in_r), g.in_c.low, g.in_c.high))

  module _ (even : has_strides l ≡ true) where
    -- the number of sample (d, c) of the piece in band b
    number : (b d c : ℕ) → d < q.rows.count → c < q.columns.count
        → bits_at src (first_at im b q + d * im.row + c * im.column) l.nbpp
        ≡ sample_at l src b (p.r + (q.rows.from + d)) (p.c + (q.columns.from + c))
    unfolding sample_at
    number b d c hd hc = ap (λ (x : ℕ). bits_at src x l.nbpp) (sym (place_is k even b d c hd hc))

    -- rows of one band
    pub rows-read : (b : ℕ) {at : ℕ} {out after : List ℕ} → length out ≡ m → q.bands.count ≡ 1
        → b ≡ band_at bs q.bands.from → at ≡ first_at im b q
        → after ≡ iter q.rows.count
        (row_read src at im.row im.column l.nbpp pl.column q.columns.count to pl.row) out
        → Puts (answer_target l src p bs rows columns) (InPiece q) out after
    unfolding spaced
    rows-read b {at} {out} eo one eb ea e =
        let ht = to_is in
        rw (e, k.planes_are)
        (puts_turns (answer_target l src p bs rows columns) (InPiece q) (λ k i j. i - q.rows.from) q.rows.count _
        out
        (λ y h xs ex _.
        puts_less (answer_target l src p bs rows columns)
        (line_read l src p bs rows columns m t _ q.bands.from (q.rows.from + y) q.columns.from
        q.columns.count
        (to + y * (columns * sample_bytes l)) (omega (arith, i.in_bands)) (omega (arith, i.in_rows))
        i.in_columns.ends
        (ex ∙ eo) (omega arith)
        (λ x g.
        ap (λ (z : ℕ). bits_at src (z + y * im.row + x * im.column) l.nbpp) ea ∙ number b y x h g
        ∙ ap (λ (z : ℕ). sample_at l src z (p.r + (q.rows.from + y)) (p.c + (q.columns.from + x))) eb)
        refl)
        (λ k i j a g. (omega (arith, g.0.in_b), omega (arith, g.0.in_r), g.0.in_c.low, g.0.in_c.high)))
        (λ k i j a g. omega (arith, g.in_r)))

    -- the listed bands of one row, pixel by pixel
    pub pixels-read : (list : List ℕ) {at : ℕ} {out after : List ℕ} → Bytes src → length out ≡ m → length list
        ≡ q.bands.count
        → ((k : ℕ) → get_or list k 0 ≡ band_at bs k) → q.bands.from ≡ 0 → q.rows.count ≡ 1
        → band_stride l.mode l ≡ l.nbpp → l.nbpp % 8 ≡ 0 → at ≡ first_at im 0 q
        → after ≡ iter q.columns.count
        (pixel_read src list (at / 8) (im.column / 8) pl.column to pl.band) out
        → Puts (answer_target l src p bs rows columns) (InPiece q) out after
    pixels-read list {at} {out} bytes eo el eb from one beside whole ea e =
        let ht = to_is in
        let z₀ = ap (λ (x : ℕ). x * (rows * columns * sample_bytes l)) from in
        rw (e, k.planes_are)
        (puts_turns (answer_target l src p bs rows columns) (InPiece q) (λ k i j. j - q.columns.from)
        q.columns.count _ out
        (λ y h xs ex _.
        puts_turns (answer_target l src p bs rows columns) _ (λ k i j. k) (length list) _ xs
        (λ z g ys ey _.
        answer_run l src p bs rows columns (sample-size l t.accepted).some t.to_rows t.to_columns _ 1
        (to + y * sample_bytes l + z * (rows * columns * sample_bytes l))
        (λ _. z) (λ _. q.rows.from) (λ _. q.columns.from + y)
        (omega (
          arith,
          planes_end l (length src) p bs rows columns m t 0 z q.rows.from 0 (q.columns.from + y) 1
              (omega (arith, i.in_bands)) (omega (arith, i.in_rows)) (omega (arith, i.in_columns)),
        ))
        (λ x f. record {
          in_b = omega (arith, i.in_bands);
          in_r = omega (arith, i.in_rows);
          in_c
              = omega (arith, i.in_columns);
        })
        (λ x f. let ez : x ≡ 0 = omega arith in rw ez (omega arith))
        (λ x f. pixel y h z)
        refl
        (λ k i j a u. (0, omega arith, u.1, omega (arith, u.0.0.in_r), omega (arith, u.0.1, u.0.0.in_c))))
        (λ k i j a u. omega (arith, u.0.in_b)))
        (λ k i j a u. omega (arith, u.in_c)))
      where
        pixel : (y : ℕ) → y < q.columns.count → (z : ℕ)
            → be_at src (at / 8 + y * (im.column / 8) + get_or list z 0 * sample_bytes l) (sample_bytes l)
            ≡ sample_at l src (band_at bs z) (p.r + q.rows.from) (p.c + (q.columns.from + y))
        pixel y h z =
            let b : ℕ = get_or list z 0 in
            let w = whole-bytes k even beside whole 0 in
            let e8 : 8 * sample_bytes l ≡ l.nbpp = omega arith in
            let band : 8 * sample_bytes l ≡ im.band = e8 ∙ sym beside ∙ sym (ap (λ (x : Spacing). x.band) k.image-is) in
            let o : 8 * (at / 8 + y * (im.column / 8) + b * sample_bytes l) ≡ first_at im b q + 0 * im.row + y * im.column
            = rw ea (omega (arith, w.first, ap (λ (x : ℕ). y * x) w.next, ap (λ (x : ℕ). b * x) band)) in
            sym (bits_at-bytes src _ (sample_bytes l) bytes) ∙ ap₂ (bits_at src) o e8
            ∙ number b 0 y (omega (arith, i.in_rows)) h
            ∙ ap₂ (λ (x r : ℕ). sample_at l src x (p.r + r) (p.c + (q.columns.from + y))) (eb z)
            (add-zero q.rows.from)
