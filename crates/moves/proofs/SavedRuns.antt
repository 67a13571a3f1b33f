-- Laws of runs that are saved: their layout, their bits, and the bytes after them.
-- Assumes nothing.
use Prim.Native.Nat.{ℕ, zero, suc, ◌+◌, ◌-◌, ◌*◌, ◌/◌, ◌%◌, ◌^◌, ◌≤◌, ◌<◌}
use mathlib.Core.Path.{◌≡◌, refl, sym, ap, ap₂, ◌∙◌}
use mathlib.Core.List.{List}
use native.Mathlib.Omega.{arith}
use native.Mathlib.Decide.{ℕ_discrete}
use native.Mathlib.Nat.{mul-le-mul_left, mul-le-mul_right}
use lib.ListN.{length, get_or, take, drop, length-take, length-drop}
use lib.Seq.{get_or-take, get_or-drop, drop-drop}
use Rattle.bits.specs.Bits.{bit_of, bit_at, bits_at, put_bits}
use Rattle.bits.proofs.Bits.{within, next-sample}
use Rattle.common.specs.Over.{over}
use Rattle.common.proofs.Over.{length_over, drop-over, get_or-over_in, get_or-over-before}
use Rattle.common.proofs.Turns.{iter_steps, iter_ext}
use Rattle.rows.proofs.WholeBytes.{last_row}
use Rattle.layout.specs.declared.BlockLayout.{BlockLayout}
use Rattle.layout.specs.Internal.Layout.{run_size, ordinal_in, place, Sample, Sound}
use Rattle.layout.proofs.Places.{run_place, end-le}
use Rattle.moves.specs.Internal.Stores.{put_all}
use Rattle.moves.specs.Internal.Relays.{save_runs, bits_of, saved, SameSamples, Relayable, BlockRelayable}

-- ---- their layout

saved-bytes : (l : BlockLayout) → Sound l → l.bands * l.run_bytes ≤ 2 ^ 56
saved-bytes l f = omega (arith, mul-le-mul_left l.bands f.runs-apart, f.counted)

saved-sound : (l : BlockLayout) → Sound l → Sound (saved l)
saved-sound l f =
    record {
      size = f.size;
      some-bands = f.some-bands;
      some-rows = f.some-rows;
      some-columns = f.some-columns;
      rows-le = f.rows-le;
      columns-le = f.columns-le;
      run_fits = f.run_fits;
      runs-apart = omega arith;
      counted = omega (arith, saved-bytes l f);
    }

pub relayable : (from to : BlockLayout) (n m : ℕ) → BlockRelayable from to n m → Relayable (saved from) to m n
relayable from to n m t =
    let f = saved-sound from t.sound_from in
    record {
      sound_from = f;
      sound_to = t.sound_to;
      same =
          record {
            mode = t.same.mode;
            bands = t.same.bands;
            rows = t.same.rows;
            columns = t.same.columns;
            nbpp = t.same.nbpp;
          };
      from_held =
          omega (
            arith,
            end-le (saved from) f,
            last_row from.bands from.run_bytes t.sound_from.some-bands,
            t.saved_held,
          );
      to_held = t.to_held;
    }

-- ---- their bytes

-- the same bits elsewhere
bits_moved : (xs ys : List ℕ) (p q n : ℕ) → ((i : ℕ) → i < n → bit_at xs (p + i) ≡ bit_at ys (q + i))
    → bits_at xs p n ≡ bits_at ys q n
unfolding bits_at
bits_moved xs ys p q zero h = refl
bits_moved xs ys p q (suc n) h =
    ap₂ (λ (a b : ℕ). a * 2 + b) (bits_moved xs ys p q n (λ i l. h i (omega arith))) (h n (omega arith))

module _ (l : BlockLayout) (f : Sound l) (image scratch : List ℕ)
    (runs : l.first + (l.bands - 1) * l.apart + l.run_bytes ≤ length image)
    (room : l.bands * l.run_bytes ≤ length scratch) where
  -- run k of the image
  run_kept : ℕ → List ℕ
  run_kept k = take l.run_bytes (drop (l.first + k * l.apart) image)

  length-run_kept : (k : ℕ) → k < l.bands → length (run_kept k) ≡ l.run_bytes
  unfolding run_kept
  length-run_kept k h =
      simp (length-take, length-drop) (omega (arith, mul-le-mul_right {m = k} {n = l.bands - 1} l.apart (omega arith)))

  -- after k runs are saved
  record SoFar (k : ℕ) (s : List ℕ) : Type 0 where
    size : length s ≡ length scratch
    byte : (j i : ℕ) → j < k → i < l.run_bytes
        → get_or s (j * l.run_bytes + i) 0 ≡ get_or image (l.first + j * l.apart + i) 0
    rest : drop (k * l.run_bytes) s ≡ drop (k * l.run_bytes) scratch

  one_more : (k : ℕ) → k < l.bands → (s : List ℕ) → SoFar k s → SoFar (k + 1) (over s (k * l.run_bytes) (run_kept k))
  unfolding run_kept
  one_more k h s p =
      let t : ℕ = l.run_bytes in
      let vs : List ℕ = run_kept k in
      let e : length vs ≡ t = length-run_kept k h in
      let fits : k * t + length vs ≤ length s = omega (arith, p.size, within k l.bands t h, length-run_kept k h) in
      let next : (k + 1) * t ≡ k * t + t = next-sample k t in
      record {
        size = length_over s (k * t) vs fits ∙ p.size;
        byte = λ j i hj hi. go j i hj hi fits e (ℕ_discrete j k);
        rest =
            ap (λ (n : ℕ). drop n (over s (k * t) vs)) (next ∙ ap (λ (n : ℕ). k * t + n) (sym e))
            ∙ drop-over s (k * t) vs fits
            ∙ ap (λ (n : ℕ). drop (k * t + n) s) e
            ∙ sym (drop-drop t (k * t) s)
            ∙ ap (drop t) p.rest
            ∙ drop-drop t (k * t) scratch
            ∙ ap (λ (n : ℕ). drop n scratch) (sym next);
      }
    where
      go : (j i : ℕ) → j < k + 1 → i < l.run_bytes → k * l.run_bytes + length (run_kept k) ≤ length s
          → length (run_kept k) ≡ l.run_bytes → Dec (j ≡ k)
          → get_or (over s (k * l.run_bytes) (run_kept k)) (j * l.run_bytes + i) 0
          ≡ get_or image (l.first + j * l.apart + i) 0
      go j i hj hi fits e (yes q) =
          rw q
          (get_or-over_in s (k * l.run_bytes) (run_kept k) i 0 fits (omega arith)
          ∙ get_or-take l.run_bytes (drop (l.first + k * l.apart) image) i 0 hi
          ∙ get_or-drop (l.first + k * l.apart) image i 0)
      go j i hj hi fits e (no ne) =
          get_or-over-before s (k * l.run_bytes) (run_kept k) (j * l.run_bytes + i) 0 (omega arith)
          (omega (arith, within j k l.run_bytes (omega arith)))
          ∙ p.byte j i (omega arith) hi

  all_saved : SoFar l.bands (save_runs l image scratch)
  unfolding save_runs run_kept
  all_saved =
      iter_steps SoFar l.bands _ scratch one_more
      (record { size = refl; byte = λ j i h _. absurd (omega arith); rest = refl })

  pub saved_rest : drop (l.bands * l.run_bytes) (save_runs l image scratch) ≡ drop (l.bands * l.run_bytes) scratch
  saved_rest = all_saved.rest

  -- ---- their bits

  -- bit z of run k
  saved_bit : (k z : ℕ) → k < l.bands → z < 8 * l.run_bytes
      → bit_at (save_runs l image scratch) (8 * (0 + k * l.run_bytes) + z)
      ≡ bit_at image (8 * (l.first + k * l.apart) + z)
  unfolding bit_at
  saved_bit k z hk hz =
      let a : ℕ = k * l.run_bytes in
      let b : ℕ = l.first + k * l.apart in
      let ea : (8 * (0 + a) + z) / 8 ≡ a + z / 8 = omega arith in
      let eb : b + z / 8 ≡ (8 * b + z) / 8 = omega arith in
      let e : (8 * (0 + a) + z) % 8 ≡ (8 * b + z) % 8 = omega arith in
      ap₂ (λ (x y : ℕ). bit_of x (7 - y))
      (ap (λ (i : ℕ). get_or (save_runs l image scratch) i 0) ea ∙ all_saved.byte k (z / 8) hk (omega arith)
      ∙ ap (λ (i : ℕ). get_or image i 0) eb)
      e

  -- a sample is saved
  pub saved_sample : (b r c : ℕ) → Sample l b r c
      → bits_of (saved l) (save_runs l image scratch) b r c ≡ bits_of l image b r c
  unfolding place
  saved_sample b r c s =
      let q = run_place l f b r c s in
      let m : ℕ = ordinal_in l b r c % run_size l * l.nbpp in
      bits_moved _ _ _ _ l.nbpp
      (λ i h.
      ap (bit_at (save_runs l image scratch)) (assoc _ m i)
      ∙ saved_bit (ordinal_in l b r c / run_size l) (m + i) q.run_lt (omega (arith, q.bits_in))
      ∙ ap (bit_at image) (sym (assoc _ m i)))
    where
      assoc : (x y z : ℕ) → x + y + z ≡ x + (y + z)
      assoc x y z = omega arith

-- the same numbers put
pub put_all_same : (l : BlockLayout) (v w : ℕ → ℕ → ℕ → ℕ) (image : List ℕ)
    → ((b r c : ℕ) → Sample l b r c → v b r c ≡ w b r c) → put_all l v image ≡ put_all l w image
put_all_same l v w image e =
    iter_ext l.rows _ _ image
    (λ r hr x.
    iter_ext l.bands _ _ x
    (λ b hb y.
    iter_ext l.columns _ _ y
    (λ c hc z.
    ap (put_bits z (place l b r c) l.nbpp) (e b r c (record { in_b = hb; in_r = hr; in_c = hc })))))

pub sample_by : (from to : BlockLayout) → SameSamples from to → (b r c : ℕ) → Sample to b r c → Sample from b r c
sample_by from to s b r c t =
    record {
      in_b = omega (arith, t.in_b, s.bands);
      in_r = omega (arith, t.in_r, s.rows);
      in_c = omega (arith, t.in_c, s.columns);
    }
