-- Laws of where a sample lies in a layout, for every mode and width.
-- Assumes nothing.
use Prim.Native.Nat.{ℕ, ◌+◌, ◌-◌, ◌*◌, ◌/◌, ◌%◌, ◌^◌, ◌≤◌, ◌<◌}
use mathlib.Core.Path.{◌≡◌, refl, sym, ap, ◌∙◌, ap₂}
use mathlib.Core.Bool.{Bool, true, false}
use native.Mathlib.Omega.{arith}
use native.Mathlib.Decide.{dec_lt}
use native.Mathlib.Nat.{mod-lt, div-add-mod', div-lt_iff_lt-mul, mul-le-mul, mul-le-mul_right, mul-le-mul_left}
use lib.Arith.{digits_lt}
use borrow.Author.Tests.{eqb-true}
use Rattle.common.proofs.Arith.{two_digits, prod_le}
use Rattle.layout.proofs.Order.{Same3, ordinal_lt, ordinal_inj, ordinal_mono}
use Rattle.layout.specs.declared.BlockLayout.{BlockLayout}
use Rattle.layout.specs.Internal.Layout.{sample_bytes, byte_multiple, run_size, ordinal_in, bit_of, place, end_by, block_end, SampleSize, Sample, Sound}

pub sample-size : (l : BlockLayout) → Sound l → SampleSize l.nbpp (sample_bytes l)
sample-size l f = f.size

-- the run of a sample, and its bits there
pub record RunPlace (l : BlockLayout) (b r c : ℕ) : Type 0 where
  pub r_lt : r < l.run_rows
  pub c_lt : c < l.run_columns
  pub size-pos : 0 < run_size l
  pub run_lt : ordinal_in l b r c / run_size l < l.bands
  pub in_lt : ordinal_in l b r c % run_size l < run_size l
  pub bits_in : ordinal_in l b r c % run_size l * l.nbpp + l.nbpp ≤ 8 * l.run_bytes

pub run_place-by : (l : BlockLayout) → l.rows ≤ l.run_rows → l.columns ≤ l.run_columns → run_size l * l.nbpp ≤ 8 * l.run_bytes
    → (b r c : ℕ) → Sample l b r c → RunPlace l b r c
run_place-by l hv hh room b r c t =
    let hr : r < l.run_rows = omega (arith, t.in_r) in
    let hc : c < l.run_columns = omega (arith, t.in_c) in
    let pos : 0 < run_size l = omega (arith, digits_lt {q = r} {m = l.run_rows} {r = c} {c = l.run_columns} hr hc) in
    let hm = mod-lt (ordinal_in l b r c) pos in
    record {
      r_lt = hr;
      c_lt = hc;
      size-pos = pos;
      run_lt = (div-lt_iff_lt-mul {k = run_size l} {x = ordinal_in l b r c} {y = l.bands} pos).1
          (ordinal_lt l.mode l.bands l.run_rows l.run_columns b r c t.in_b hr hc);
      in_lt = hm;
      bits_in = omega (arith, mul-le-mul_right l.nbpp hm);
    }

pub run_place : (l : BlockLayout) → Sound l → (b r c : ℕ) → Sample l b r c → RunPlace l b r c
run_place l f b r c t = run_place-by l f.rows-le f.columns-le f.run_fits b r c t

-- a run in the bytes of the layout
below-runs : (k n a : ℕ) → k < n → k * a + a ≤ n * a
below-runs k n a h = omega (arith, mul-le-mul_right a h)

-- ---- a sample ends before the end of its block

-- the bit of a sample grows with its place in the order
bit_mono : (l : BlockLayout) → run_size l * l.nbpp ≤ 8 * l.apart → 0 < run_size l → (n m : ℕ) → n ≤ m → bit_of l n ≤ bit_of l m
bit_mono l room pos n m h = go (dec_lt (n / run_size l) (m / run_size l))
  where
    go : Dec (n / run_size l < m / run_size l) → bit_of l n ≤ bit_of l m
    go (yes k) =
        omega (arith, below-runs (n / run_size l) (m / run_size l) l.apart k, mul-le-mul_right l.nbpp (mod-lt n pos))
    go (no k) =
        let e : n / run_size l ≡ m / run_size l = same (dec_lt (m / run_size l) (n / run_size l)) in
        let q : n % run_size l ≤ m % run_size l
        = omega (arith, div-add-mod' n (run_size l), div-add-mod' m (run_size l), ap (λ (x : ℕ). x * run_size l) e) in
        omega (arith, ap (λ (x : ℕ). x * l.apart) e, mul-le-mul_right l.nbpp q)
      where
        same : Dec (m / run_size l < n / run_size l) → n / run_size l ≡ m / run_size l
        same (yes j) =
            absurd (omega (arith, div-add-mod' n (run_size l), div-add-mod' m (run_size l), below-runs (m / run_size l) (n / run_size l) (run_size l) j, mod-lt m pos))
        same (no j) = omega arith

ends_by : (w : Bool) (l : BlockLayout) → byte_multiple l ≡ w → Sound l → (b r c : ℕ) → Sample l b r c → place l b r c + l.nbpp ≤ 8 * end_by w l
unfolding place
ends_by true l e f b r c t =
    let s = run_place l f b r c t in
    let w : l.nbpp % 8 ≡ 0 = eqb-true (l.nbpp % 8) 0 e in
    let o = ordinal_mono l.mode l.bands l.run_rows l.run_columns b r c (l.bands - 1) (l.rows - 1) (l.columns - 1)
    (omega (arith, t.in_b)) (omega (arith, t.in_r)) (omega (arith, t.in_c)) in
    let h = bit_mono l (omega (arith, f.run_fits, f.runs-apart)) s.size-pos (ordinal_in l b r c) (ordinal_in l (l.bands - 1) (l.rows - 1) (l.columns - 1)) o in
    up (bit_of l (ordinal_in l b r c)) (bit_of l (ordinal_in l (l.bands - 1) (l.rows - 1) (l.columns - 1))) l.nbpp h w (whole_bit _ _ _ _ w)
  where
    up : (x y w : ℕ) → x ≤ y → w % 8 ≡ 0 → y % 8 ≡ 0 → x + w ≤ 8 * (y / 8 + (w + 7) / 8)
    up x y w h e q = omega arith

    whole_bit : (a k w m : ℕ) → w % 8 ≡ 0 → (8 * (a + k) + m * w) % 8 ≡ 0
    whole_bit a k w m e =
        let d : w ≡ w / 8 * 8 = omega arith in
        let q : m * w ≡ m * (w / 8) * 8 = ap (λ (x : ℕ). m * x) d ∙ assoc m (w / 8) in
        omega arith
      where
        assoc : (m s : ℕ) → m * (s * 8) ≡ m * s * 8
        assoc m s = omega arith
ends_by false l e f b r c t =
    let s = run_place l f b r c t in
    omega (arith, s.bits_in, mul-le-mul_right {m = ordinal_in l b r c / run_size l} {n = l.bands - 1} l.apart (omega (arith, s.run_lt)))

-- the end is past every bit of the block's actual samples
pub ends : (l : BlockLayout) → Sound l → (b r c : ℕ) → Sample l b r c → place l b r c + l.nbpp ≤ 8 * block_end l
unfolding block_end
ends l f b r c t = ends_by (byte_multiple l) l refl f b r c t

-- and below the bits that can be counted
pub place-le : (l : BlockLayout) → Sound l → (b r c : ℕ) → Sample l b r c → place l b r c + l.nbpp ≤ 2 ^ 59
unfolding place
place-le l f b r c t =
    let s = run_place l f b r c t in
    omega (arith, s.bits_in, below-runs _ _ l.apart s.run_lt, f.runs-apart, f.counted)

-- ---- two samples share no bit

-- the same bit of the same run is the same bit of the same sample
pub same_bit : (l : BlockLayout) (b r c i b' r' c' i' : ℕ) → Sample l b r c → Sample l b' r' c' → RunPlace l b r c → RunPlace l b' r' c'
    → i < l.nbpp → i' < l.nbpp → ordinal_in l b r c / run_size l ≡ ordinal_in l b' r' c' / run_size l
    → ordinal_in l b r c % run_size l * l.nbpp + i ≡ ordinal_in l b' r' c' % run_size l * l.nbpp + i' → Same3 b r c b' r' c' × (i ≡ i')
same_bit l b r c i b' r' c' i' t t' s s' hi hi' ek e =
    let n : ℕ = ordinal_in l b r c in
    let m : ℕ = ordinal_in l b' r' c' in
    let d = two_digits l.nbpp (n % run_size l) i (m % run_size l) i' hi hi' e in
    let q : n ≡ m
    = sym (div-add-mod' n (run_size l)) ∙ ap₂ (λ (x y : ℕ). x * run_size l + y) ek d.0 ∙ div-add-mod' m (run_size l) in (
      ordinal_inj l.mode l.bands l.run_rows l.run_columns b r c b' r' c'
          t.in_b s.r_lt s.c_lt t'.in_b s'.r_lt s'.c_lt q,
      d.1,
    )

pub apart : (l : BlockLayout) → Sound l → (b r c i b' r' c' i' : ℕ) → Sample l b r c → Sample l b' r' c' → i < l.nbpp → i' < l.nbpp
    → place l b r c + i ≡ place l b' r' c' + i' → Same3 b r c b' r' c' × (i ≡ i')
unfolding place
apart l f b r c i b' r' c' i' t t' hi hi' e =
    let s = run_place l f b r c t in
    let s' = run_place l f b' r' c' t' in
    let n : ℕ = ordinal_in l b r c in
    let m : ℕ = ordinal_in l b' r' c' in
    let a = two_digits (8 * l.apart) (n / run_size l) (n % run_size l * l.nbpp + i) (m / run_size l) (m % run_size l * l.nbpp + i')
    (omega (arith, s.bits_in, f.runs-apart)) (omega (arith, s'.bits_in, f.runs-apart)) (omega arith) in
    same_bit l b r c i b' r' c' i' t t' s s' hi hi' a.0 a.1

-- ---- the numbers that the code computes fit in 64 bits

pub record Sizes (l : BlockLayout) : Type 0 where
  pub run_le : run_size l ≤ 2 ^ 59
  pub block-le : l.bands * run_size l ≤ 2 ^ 59
  pub run_bits : run_size l * l.nbpp ≤ 2 ^ 59
  pub block_bits : l.bands * (run_size l * l.nbpp) ≤ 2 ^ 59
  pub apart-le : l.apart ≤ 2 ^ 56
  pub last-le : l.first + (l.bands - 1) * l.apart + l.run_bytes ≤ 2 ^ 56

-- n runs of s samples of w bits in runs a bytes apart
sizes-fit : (f n s w a : ℕ) → 0 < n → 0 < w → s * w ≤ 8 * a → f + n * a ≤ 2 ^ 56
    → (s ≤ 2 ^ 59) × (n * s ≤ 2 ^ 59) × (n * (s * w) ≤ 2 ^ 59) × (a ≤ 2 ^ 56)
sizes-fit f n s w a hn hw hs h =
    let x : s ≤ s * w = omega (arith, mul-le-mul_left s hw) in
    let y : n * (s * w) ≤ n * (8 * a) = mul-le-mul_left n hs in
    let z : a ≤ n * a = omega (arith, mul-le-mul_right a hn) in
    (omega arith, omega (arith, mul-le-mul_left n x), omega arith, omega arith)

pub sizes : (l : BlockLayout) → Sound l → Sizes l
sizes l f =
    let q = sizes-fit l.first l.bands (run_size l) l.nbpp l.apart f.some-bands (sample-size l f).bits_pos
    (omega (arith, f.run_fits, f.runs-apart)) f.counted in
    let e : l.bands - 1 < l.bands = omega (arith, f.some-bands) in
    record {
      run_le = q.0;
      block-le = q.1;
      run_bits = omega (arith, f.run_fits, f.runs-apart, q.3);
      block_bits = q.2;
      apart-le = q.3;
      last-le = omega (arith, below-runs (l.bands - 1) l.bands l.apart e, f.runs-apart, f.counted);
    }

-- an actual sample is one of the samples of the runs
pub ordinal_in_runs : (l : BlockLayout) → Sound l → (b r c : ℕ) → Sample l b r c
    → ordinal_in l b r c < l.bands * run_size l
ordinal_in_runs l f b r c t =
    let s = run_place l f b r c t in
    ordinal_lt l.mode l.bands l.run_rows l.run_columns b r c t.in_b s.r_lt s.c_lt

-- the last actual sample
pub last-sample : (l : BlockLayout) → Sound l → Sample l (l.bands - 1) (l.rows - 1) (l.columns - 1)
last-sample l f = record { in_b = omega (arith, f.some-bands); in_r = omega (arith, f.some-rows); in_c = omega (arith, f.some-columns) }

-- the run of the sample at place n of the order, and its bits there
pub record OrderPlace (l : BlockLayout) (n : ℕ) : Type 0 where
  pub size-pos : 0 < run_size l
  pub run_le : l.first + n / run_size l * l.apart + l.apart ≤ 2 ^ 56
  pub bits_le : n % run_size l * l.nbpp ≤ 2 ^ 59

pub order_place : (l : BlockLayout) → Sound l → (n : ℕ) → n < l.bands * run_size l → OrderPlace l n
order_place l f n h =
    let pos : 0 < run_size l = (run_place l f _ _ _ (last-sample l f)).size-pos in
    let k : n / run_size l < l.bands = (div-lt_iff_lt-mul pos).1 h in
    record {
      size-pos = pos;
      run_le = omega (arith, below-runs _ _ l.apart k, f.counted);
      bits_le = omega (arith, mul-le-mul_right l.nbpp (mod-lt n pos), (sizes l f).run_bits);
    }

-- the end is that of the last run, or before it
end_by_lem : (w : Bool) (l : BlockLayout) → byte_multiple l ≡ w → Sound l → end_by w l ≤ l.first + (l.bands - 1) * l.apart + l.run_bytes
unfolding place
end_by_lem true l e f =
    let w : l.nbpp % 8 ≡ 0 = eqb-true (l.nbpp % 8) 0 e in
    let s = run_place l f (l.bands - 1) (l.rows - 1) (l.columns - 1) (last-sample l f) in
    let k : ℕ = ordinal_in l (l.bands - 1) (l.rows - 1) (l.columns - 1) / run_size l in
    omega (arith, s.bits_in, mul-le-mul_right {m = k} {n = l.bands - 1} l.apart (omega (arith, s.run_lt)))
end_by_lem false l e f = omega arith

pub end-le : (l : BlockLayout) → Sound l → block_end l ≤ l.first + (l.bands - 1) * l.apart + l.run_bytes
unfolding block_end
end-le l f = end_by_lem (byte_multiple l) l refl f

-- the end can be counted too
pub end-small : (l : BlockLayout) → Sound l → block_end l ≤ 2 ^ 56
end-small l f = omega (arith, end-le l f, (sizes l f).last-le)

-- at widths that fill no whole bytes it is the end of the last run
pub end-packed : (l : BlockLayout) → byte_multiple l ≡ false → block_end l ≡ l.first + (l.bands - 1) * l.apart + l.run_bytes
unfolding block_end
end-packed l e = rw e

-- ---- the block's samples in planes

pub record DataFits (l : BlockLayout) : Type 0 where
  pub bands-rows : l.bands * l.rows < 2 ^ 64
  pub plane : l.rows * l.columns < 2 ^ 64
  pub plane-bytes : l.rows * l.columns * sample_bytes l < 2 ^ 64
  pub samples : l.bands * l.rows * l.columns < 2 ^ 64
  pub bytes : l.bands * l.rows * l.columns * sample_bytes l < 2 ^ 64

-- they take no more bytes than bits can be counted
pub data_fits : (l : BlockLayout) → Sound l → DataFits l
data_fits l f =
    let p : l.rows * l.columns ≤ run_size l = mul-le-mul f.rows-le f.columns-le in
    let q : l.bands * (l.rows * l.columns) ≤ l.bands * run_size l = mul-le-mul_left l.bands p in
    let r : l.rows * l.columns ≤ l.bands * (l.rows * l.columns) = omega (arith, mul-le-mul_right (l.rows * l.columns) f.some-bands) in
    let x : l.bands * l.rows ≤ l.bands * l.rows * l.columns = omega (arith, mul-le-mul_left (l.bands * l.rows) f.some-columns) in
    let y : l.bands * l.rows * l.columns * sample_bytes l ≤ 2 ^ 59 * 8
    = prod_le (l.bands * l.rows * l.columns) (sample_bytes l) (2 ^ 59) 8 (omega (arith, (sizes l f).block-le)) f.size.bytes_le in
    let z : l.rows * l.columns * sample_bytes l ≤ l.bands * l.rows * l.columns * sample_bytes l = omega (arith, mul-le-mul_right (sample_bytes l) r) in
    let b = (sizes l f).block-le in
    record { bands-rows = omega arith; plane = omega arith; plane-bytes = omega arith; samples = omega arith; bytes = omega arith }
