-- The layout of the order of a mode: its places are the order's, it fits, and its planes are the reordering to band-sequential order.
-- Assumes nothing.
use Prim.Native.Nat.{ℕ, ◌+◌, ◌-◌, ◌*◌, ◌/◌, ◌%◌, ◌^◌, ◌≤◌, ◌<◌}
use mathlib.Core.Path.{◌≡◌, sym, ap, ◌∙◌}
use mathlib.Core.List.{List}
use native.Mathlib.Omega.{arith}
use native.Mathlib.Nat.{mul-le-mul_right, mod-eq_of_lt, mod-lt}
use borrow.Author.Tests.{eq-eqb}
use lib.ListN.{length, get_or}
use lib.Pow.{pow_pos}
use Rattle.bits.specs.Bits.{Bytes, bits_at, be_at}
use Rattle.bits.proofs.BigEndian.{bits_at-bytes, be_at_lt, put_bits-keeps}
use Rattle.bits.specs.Values.{values}
use Rattle.bits.proofs.Values.{values_ext}
use Rattle.layout.specs.declared.InterleaveMode.{InterleaveMode}
use Rattle.layout.specs.declared.InterleaveMode.TheVariants.{S}
use Rattle.common.specs.Tests.{pick}
use Rattle.common.specs.Rounding.{ceil_div}
use Rattle.layout.specs.Order.{ordinal}
use Rattle.layout.specs.Bands.{Bands, band_count, band_at}
use Rattle.layout.proofs.Order.{ordinal_lt}
use Rattle.layout.specs.Internal.Layout.{place, block_end, Sound, Sample}
use Rattle.layout.proofs.Spaced.{gapless}
use Rattle.moves.specs.Internal.Stores.{data_at, put_block, store_by, store_block, Writable}
use Rattle.moves.proofs.StoredBits.{put-read, put_away}
use Rattle.moves.proofs.StoreLengths.{put_keep, length-put_block}
use Rattle.moves.proofs.Stored.{byte_is}
use Rattle.bits.proofs.Bits.{bits_at_ext}
use Rattle.common.specs.Over.{over}
use Rattle.interleave.proofs.Coordinates.{coordinates}
use Rattle.interleave.proofs.KnownSamples.{whole-from-samples}
use Rattle.moves.specs.Internal.Parts.{sample_at, planes_of, PlanesReadable}
use Rattle.interleave.specs.Interleave.{source_of, every_band, band_of, row_of, column_of}
use Rattle.interleave.specs.Internal.OrderLayout.{order_layout}
use Rattle.interleave.proofs.Accepted.{Accepted}

pub size_is : (s : ℕ) → ceil_div (8 * s) 8 ≡ s
size_is s = omega arith

module _ (m : InterleaveMode) (bands rows columns s : ℕ) where
  no_gap : 8 * (rows * columns * s) ≡ rows * columns * (8 * s)
  no_gap = omega arith

  -- a sample's place is its place in the order
  pub order_place : (b r c : ℕ) → place (order_layout m bands rows columns s) b r c ≡ 8 * (ordinal m bands rows columns b r c * s)
  unfolding place
  order_place b r c =
      gapless (order_layout m bands rows columns s) (ordinal m bands rows columns b r c) no_gap ∙ regroup (ordinal m bands rows columns b r c) s
    where
      regroup : (n s : ℕ) → 8 * 0 + n * (8 * s) ≡ 8 * (n * s)
      regroup n s = omega arith

  order_sample : (src : List ℕ) → Bytes src → (b r c : ℕ)
      → sample_at (order_layout m bands rows columns s) src b r c ≡ be_at src (ordinal m bands rows columns b r c * s) s
  unfolding sample_at
  order_sample src bytes b r c = ap (λ (x : ℕ). bits_at src x (8 * s)) (order_place b r c) ∙ bits_at-bytes src (ordinal m bands rows columns b r c * s) s bytes

  pub order_fits : 0 < bands → 0 < rows → 0 < columns → 1 ≤ s → s ≤ 8 → bands * rows * columns * s ≤ 4_294_967_294 → Sound (order_layout m bands rows columns s)
  order_fits hb hr hc lo hi small =
      record {
        size = record {
          bits_pos = omega arith;
          bits_le = omega arith;
          bytes_le = omega arith;
          narrow = λ h. absurd (omega arith);
          some = omega arith;
        };
        some-bands = hb;
        some-rows = hr;
        some-columns = hc;
        rows-le = omega arith;
        columns-le = omega arith;
        run_fits = omega arith;
        runs-apart = omega arith;
        counted = omega arith;
      }

  -- the block ends with the data
  pub order_end : 0 < bands → 0 < rows → 0 < columns → block_end (order_layout m bands rows columns s) ≤ bands * rows * columns * s
  unfolding block_end
  order_end hb hr hc =
      let n : ℕ = ordinal m bands rows columns (bands - 1) (rows - 1) (columns - 1) in
      let l : n < bands * (rows * columns) = ordinal_lt m bands rows columns (bands - 1) (rows - 1) (columns - 1) (omega arith) (omega arith) (omega arith) in
      let w : 8 * s % 8 ≡ 0 = omega arith in
      rw (eq-eqb (8 * s % 8) 0 w) (omega (arith, order_place (bands - 1) (rows - 1) (columns - 1), mul-le-mul_right s l))

  -- its planes are the samples in band-sequential order
  pub order_planes : (src : List ℕ) → Bytes src → (bs : Bands)
      → planes_of (order_layout m bands rows columns s) src bs
      ≡ values (λ n. be_at src (source_of m S bs bands rows columns n * s) s) s (band_count bands bs * rows * columns)
  unfolding planes_of source_of
  order_planes src bytes bs =
      ap (λ (z : ℕ). values (λ n. sample_at (order_layout m bands rows columns s) src (band_at bs (n / columns / rows)) (n / columns % rows) (n % columns)) z (band_count bands bs * rows * columns)) (size_is s)
      ∙ values_ext _ _ s (band_count bands bs * rows * columns) (λ n _. order_sample src bytes _ _ _)

  pub order_readable : (bs : Bands) (n k : ℕ) → 0 < bands → 0 < rows → 0 < columns → Accepted bs rows columns bands s n k
      → PlanesReadable (order_layout m bands rows columns s) n bs k
  order_readable bs n k hb hr hc a =
      record {
        accepted = order_fits hb hr hc a.size_low a.size-high a.small;
        reached = omega (arith, order_end hb hr hc, a.full);
        bands_in = a.listed;
        room = rw (size_is s) a.room;
      }

  -- ---- stored

  pub order_writable : (dat out : List ℕ) → 0 < bands → 0 < rows → 0 < columns → Accepted every_band rows columns bands s (length dat) (length out)
      → bands * rows * columns * s ≤ length out → Writable (order_layout m bands rows columns s) dat out
  order_writable dat out hb hr hc a room =
      record {
        accepted = order_fits hb hr hc a.size_low a.size-high a.small;
        data_is = a.full ∙ ap (λ (x : ℕ). bands * rows * columns * x) (sym (size_is s));
        image_holds = omega (arith, order_end hb hr hc);
        fits = λ h. absurd (omega arith);
      }

  module _ (dat out : List ℕ) (bd : Bytes dat) (bo : Bytes out) (w : Writable (order_layout m bands rows columns s) dat out) (room : bands * rows * columns * s ≤ length out) where
    abbrev after : List ℕ
    after = put_block (order_layout m bands rows columns s) dat out

    stays : Bytes after
    stays = put_keep (order_layout m bands rows columns s) dat Bytes (λ b r c t y. put_bits-keeps y _ _ _) out bo

    -- sample n of the order is the sample of the planes that goes there
    sample-is : (n : ℕ) → n < bands * rows * columns → be_at after (n * s) s ≡ be_at dat (source_of S m every_band bands rows columns n * s) s
    unfolding source_of data_at band_at pick
    sample-is n h =
        let q = coordinates m bands rows columns n h in
        let b : ℕ = band_of m bands rows columns n in
        let r : ℕ = row_of m bands rows columns n in
        let c : ℕ = column_of m bands rows columns n in
        let t : Sample (order_layout m bands rows columns s) b r c = record { in_b = q.in_b; in_r = q.in_r; in_c = q.in_c } in
        sym (bits_at-bytes after (n * s) s stays)
        ∙ ap (λ (x : ℕ). bits_at after x (8 * s)) (ap (λ (k : ℕ). 8 * (k * s)) (sym q.there) ∙ sym (order_place b r c))
        ∙ put-read (order_layout m bands rows columns s) w.accepted dat out w.image_holds b r c t
        ∙ low (be_at dat (((b * rows + r) * columns + c) * ceil_div (8 * s) 8) (ceil_div (8 * s) 8))
        ∙ ap (λ (k : ℕ). be_at dat (((b * rows + r) * columns + c) * k) k % 2 ^ (8 * s)) (size_is s)
        ∙ mod-eq_of_lt (be_at_lt dat (((b * rows + r) * columns + c) * s) s bd)
      where
        low : (x : ℕ) → x % 2 ^ (8 * s) % 2 ^ (8 * s) ≡ x % 2 ^ (8 * s)
        low x = mod-eq_of_lt (mod-lt x (pow_pos (8 * s)))

    -- bytes after the samples are kept
    rest-is : (i : ℕ) → bands * rows * columns * s ≤ i → get_or after i 0 ≡ get_or out i 0
    rest-is i h =
        sym (byte_is after i stays)
        ∙ bits_at_ext after out (8 * i) (8 * 1) (λ p l _.
        put_away (order_layout m bands rows columns s) w.accepted dat out p (λ b r c j bit e.
        let o = ordinal_lt m bands rows columns b r c bit.sample.in_b bit.sample.in_r bit.sample.in_c in
        omega (arith, order_place b r c, mul-le-mul_right s o, bit.in_i)))
        ∙ byte_is out i bo

    pub order_stored : store_block (order_layout m bands rows columns s) dat out
        ≡ over out 0 (values (λ n. be_at dat (source_of S m every_band bands rows columns n * s) s) s (bands * rows * columns))
    unfolding store_by
    order_stored =
        let e : 8 * s % 8 ≡ 0 = omega arith in
        rw (eq-eqb (8 * s % 8) 0 e)
        (whole-from-samples (λ n. be_at dat (source_of S m every_band bands rows columns n * s) s) s (bands * rows * columns) out after
        (length-put_block (order_layout m bands rows columns s) dat out) stays room sample-is rest-is)
