-- Samples of a block put into an image, in any order: their places are apart, so that only which of them are put
-- counts.
-- Assumes nothing.
use Prim.Native.Nat.{ℕ, suc, ◌+◌, ◌-◌, ◌*◌, ◌%◌, ◌^◌, ◌≤◌, ◌<◌}
use mathlib.Core.Path.{◌≡◌, refl, sym, ap, ◌∙◌}
use mathlib.Core.List.{List}
use native.Mathlib.Omega.{arith}
use native.Mathlib.Nat.{add-zero}
use lib.ListN.{length, get_or}
use lib.Seq.{ext_get_or}
use Rattle.bits.specs.Bits.{bit_of, bit_at, bits_at, be_at, Bytes}
use Rattle.bits.proofs.Bits.{bits_at_ext, put_bits_hit}
use Rattle.bits.proofs.Joined.{put_bits-low}
use Rattle.bits.proofs.BigEndian.{bits_at-bytes}
use Rattle.samples.specs.Internal.Samples.{put_spaced}
use Rattle.samples.proofs.Samples.{length-put_spaced, put_spaced-bytes, put_spaced-apart, put_spaced_hit}
use Rattle.rows.proofs.WholeBytes.{last_row}
use Rattle.layout.specs.declared.BlockLayout.{BlockLayout}
use Rattle.layout.specs.Internal.Layout.{place, block_end, Sample, Sound}
use Rattle.layout.proofs.Places.{ends, apart}
use Rattle.moves.specs.Internal.Puts.{Samples, Among, Puts}
use Rattle.moves.specs.Internal.Stores.{put_all, image_target}
use Rattle.moves.proofs.Putting.{Agree, puts_turns, puts_run, puts_same}

-- ---- bytes with the same bits

pub byte_is : (xs : List ℕ) (i : ℕ) → Bytes xs → bits_at xs (8 * i) (8 * 1) ≡ get_or xs i 0
unfolding be_at
byte_is xs i b = bits_at-bytes xs i 1 b ∙ rw add-zero (omega arith)

same_bits : (xs ys : List ℕ) → Bytes xs → Bytes ys → length xs ≡ length ys → ((p : ℕ) → bit_at xs p ≡ bit_at ys p) → xs
    ≡ ys
same_bits xs ys bx by e h =
    ext_get_or 0 xs ys e (λ i l. sym (byte_is xs i bx) ∙ bits_at_ext xs ys (8 * i) (8 * 1) (λ p _ _. h p)
    ∙ byte_is ys i by)

-- of a number that is put only its low bits count
low_bit : (xs : List ℕ) (p n u v i : ℕ) → i < n → p + n ≤ 8 * length xs → u % 2 ^ n ≡ v % 2 ^ n → bit_of u (n - suc i)
    ≡ bit_of v (n - suc i)
low_bit xs p n u v i h l e =
    sym (put_bits_hit xs p n u i h l) ∙ ap (λ (ys : List ℕ). bit_at ys (p + i)) (put_bits-low xs p n u v e)
    ∙ put_bits_hit xs p n v i h l

-- ---- samples put

module _ (l : BlockLayout) (f : Sound l) (v : ℕ → ℕ → ℕ → ℕ) where
  sample : (b r c : ℕ) → Among (image_target l v) b r c → Sample l b r c
  sample b r c a = record { in_b = a.in_b; in_r = a.in_r; in_c = a.in_c }

  image-agree : Agree (image_target l v)
  image-agree b r c i b' r' c' i' a a' h h' e =
      let q = apart l f b r c i b' r' c' i' (sample b r c a) (sample b' r' c' a') h h' e in
      same q.0.eq_b q.0.eq_r q.0.eq_c q.1
    where
      same : b ≡ b' → r ≡ r' → c ≡ c' → i ≡ i' → bit_of (v b r c) (l.nbpp - suc i)
          ≡ bit_of (v b' r' c') (l.nbpp - suc i')
      same eb er ec ei = cc

  -- n samples, the x-th of which is sample (b x, r x, c x), put at bit `at` and then every `step` bits
  pub image_run : {some : Samples} {xs ys : List ℕ} (w : ℕ → ℕ) (n at step : ℕ) (b r c : ℕ → ℕ) → block_end l
      ≤ length xs → l.nbpp ≤ step
      → ((x : ℕ) → x < n → Sample l (b x) (r x) (c x)) → ((x : ℕ) → x < n → place l (b x) (r x) (c x) ≡ at + x * step)
      → ((x : ℕ) → x < n → w x % 2 ^ l.nbpp ≡ v (b x) (r x) (c x) % 2 ^ l.nbpp)
      → ys ≡ put_spaced w l.nbpp at step n xs
      → ((b' r' c' : ℕ) → Among (image_target l v) b' r' c' → some b' r' c' → (x : ℕ) × (x < n) × (b' ≡ b x)
      × (r' ≡ r x) × (c' ≡ c x))
      → Puts (image_target l v) some xs ys
  image_run {some} {xs} {ys} w n at step b r c fits wide are places values e run =
      rw e
      (puts_run (image_target l v) image-agree n b r c
      (length-put_spaced w l.nbpp at step n xs) (put_spaced-bytes w l.nbpp at step n xs)
      (λ x h. let s = are x h in record { in_b = s.in_b; in_r = s.in_r; in_c = s.in_c })
      hit
      (λ p ne. put_spaced-apart w l.nbpp at step n xs p
      (λ x i h m q. ne x i h m (q ∙ ap (λ (z : ℕ). z + i) (sym (places x h)))))
      run)
    where
      hit : (x : ℕ) → x < n → (i : ℕ) → i < l.nbpp
          → bit_at (put_spaced w l.nbpp at step n xs) (place l (b x) (r x) (c x) + i) ≡ bit_of (v (b x) (r x) (c x))
          (l.nbpp - suc i)
      hit x h i m =
          let last : n - 1 < n = omega arith in
          let end = ends l f _ _ _ (are (n - 1) last) in
          let room : at + n * step + l.nbpp ≤ 8 * length xs + step
          = omega (arith, places (n - 1) last, last_row n step (omega arith)) in
          let here : place l (b x) (r x) (c x) + l.nbpp ≤ 8 * length xs = omega (arith, ends l f _ _ _ (are x h)) in
          ap (λ (z : ℕ). bit_at (put_spaced w l.nbpp at step n xs) (z + i)) (places x h)
          ∙ put_spaced_hit w l.nbpp at step n xs x i wide room h m
          ∙ low_bit xs (place l (b x) (r x) (c x)) l.nbpp (w x) (v (b x) (r x) (c x)) i m here (values x h)

  -- all of them, one after another
  pub all-put : (image : List ℕ) → block_end l ≤ length image → Puts (image_target l v) (λ b r c. Unit {0}) image
      (put_all l v image)
  unfolding put_spaced
  all-put image fits =
      puts_turns (image_target l v) _ (λ b r c. r) l.rows _ image
      (λ r hr x ex _. puts_turns (image_target l v) _ (λ b r c. b) l.bands _ x
      (λ b hb y ey _. puts_turns (image_target l v) _ (λ b r c. c) l.columns _ y
      (λ c hc z ez _. image_run (λ _. v b r c) 1 (place l b r c) l.nbpp (λ _. b) (λ _. r) (λ _. c) (omega arith)
      (omega arith)
      (λ _ _. record { in_b = hb; in_r = hr; in_c = hc }) (λ x h. let e : x ≡ 0 = omega arith in rw e (omega arith))
      (λ _ _. refl)
      (let e : place l b r c + 0 * l.nbpp ≡ place l b r c = omega arith in rw e refl)
      (λ b' r' c' a h. (0, omega arith, h.0.1, h.0.0.1, h.1)))
      (λ b' r' c' a _. a.in_c))
      (λ b' r' c' a _. a.in_b))
      (λ b' r' c' a _. a.in_r)

  -- all samples put, in whatever order
  pub put-done : {some : Samples} {image after : List ℕ} → Bytes image → block_end l ≤ length image
      → Puts (image_target l v) some image after
      → ((b r c : ℕ) → Among (image_target l v) b r c → some b r c) → after ≡ put_all l v image
  put-done {image = image} bytes fits p all =
      let q = all-put image fits in
      same_bits _ _ (p.kept bytes) (q.kept bytes) (p.size ∙ sym q.size)
      (puts_same (image_target l v) p q (λ b r c a. (all b r c a, tt)))
