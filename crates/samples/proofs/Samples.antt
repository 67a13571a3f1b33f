-- Laws of samples put at evenly spaced bits.
-- Assumes nothing.
use mathlib.Core.Path.{◌≡◌, refl, ap₂, ◌∙◌}
use mathlib.Core.List.{List}
use mathlib.Core.Logic.{◌≢◌, ◌⊎◌, inl, inr}
use Prim.Native.Nat.{ℕ, zero, suc, ◌+◌, ◌-◌, ◌*◌, ◌≤◌, ◌<◌}
use native.Mathlib.Nat.{suc-mul}
use native.Mathlib.Decide.{ℕ_discrete, dec_lt}
use native.Mathlib.Omega.{arith}
use lib.ListN.{length}
use Rattle.bits.specs.Bits.{Bytes, bit_of, bit_at, put_bits}
use Rattle.bits.proofs.Bits.{within, length-put_bits, put_bits_bit, put_bits_hit}
use Rattle.bits.proofs.BigEndian.{put_bits-keeps}
use Rattle.samples.specs.Internal.Samples.{put_spaced}

pub length-put_spaced : (v : ℕ → ℕ) (width p step n : ℕ) (xs : List ℕ) → length (put_spaced v width p step n xs) ≡ length xs
unfolding put_spaced
length-put_spaced v width p step zero xs = refl
length-put_spaced v width p step (suc n) xs =
    length-put_bits (put_spaced v width p step n xs) (p + n * step) width (v n) ∙ length-put_spaced v width p step n xs

pub put_spaced-bytes : (v : ℕ → ℕ) (width p step n : ℕ) (xs : List ℕ) → Bytes xs → Bytes (put_spaced v width p step n xs)
unfolding put_spaced
put_spaced-bytes v width p step zero xs b = b
put_spaced-bytes v width p step (suc n) xs b = put_bits-keeps (put_spaced v width p step n xs) (p + n * step) width (v n) (put_spaced-bytes v width p step n xs b)

pub put_spaced_ext : (v w : ℕ → ℕ) (width p step n : ℕ) (xs : List ℕ) → ((k : ℕ) → k < n → v k ≡ w k)
    → put_spaced v width p step n xs ≡ put_spaced w width p step n xs
unfolding put_spaced
put_spaced_ext v w width p step zero xs h = refl
put_spaced_ext v w width p step (suc n) xs h =
    ap₂ (λ (l : List ℕ) (x : ℕ). put_bits l (p + n * step) width x) (put_spaced_ext v w width p step n xs (λ k l. h k (omega arith))) (h n (omega arith))

-- a bit of none of the samples is as it was
pub put_spaced-apart : (v : ℕ → ℕ) (width p step n : ℕ) (xs : List ℕ) (i : ℕ) → ((k j : ℕ) → k < n → j < width → i ≢ p + k * step + j)
    → bit_at (put_spaced v width p step n xs) i ≡ bit_at xs i
unfolding put_spaced
put_spaced-apart v width p step zero xs i h = refl
put_spaced-apart v width p step (suc n) xs i h =
    put_bits_bit (put_spaced v width p step n xs) (p + n * step) width (v n) i (go (dec_lt i (p + n * step)) (dec_lt i (p + n * step + width)))
    ∙ put_spaced-apart v width p step n xs i (λ k j l m. h k j (omega arith) m)
  where
    go : Dec (i < p + n * step) → Dec (i < p + n * step + width) → (i < p + n * step) ⊎ (p + n * step + width ≤ i)
    go (yes l) d = inl l
    go (no l) (no m) = inr (omega arith)
    go (no l) (yes m) = absurd (h n (i - (p + n * step)) (omega arith) (omega arith) (omega arith))

-- bit j of sample k is the one put, where no two samples meet and all lie inside
pub put_spaced_hit : (v : ℕ → ℕ) (width p step n : ℕ) (xs : List ℕ) (k j : ℕ) → width ≤ step → p + n * step + width ≤ 8 * length xs + step → k < n → j < width
    → bit_at (put_spaced v width p step n xs) (p + k * step + j) ≡ bit_of (v k) (width - suc j)
unfolding put_spaced
put_spaced_hit v width p step zero xs k j w f h l = absurd (omega arith)
put_spaced_hit v width p step (suc n) xs k j w f h l = go (ℕ_discrete k n) (λ m. put_spaced_hit v width p step n xs k j w (omega arith) m l)
  where
    ys : List ℕ
    ys = put_spaced v width p step n xs

    go : Dec (k ≡ n) → (k < n → bit_at ys (p + k * step + j) ≡ bit_of (v k) (width - suc j))
        → bit_at (put_bits ys (p + n * step) width (v n)) (p + k * step + j) ≡ bit_of (v k) (width - suc j)
    go (yes e) r =
        rw e (put_bits_hit ys (p + n * step) width (v n) j l (omega (arith, suc-mul n step, length-put_spaced v width p step n xs)))
    go (no ne) r =
        let m : k < n = omega arith in
        put_bits_bit ys (p + n * step) width (v n) (p + k * step + j) (inl (omega (arith, within k n step m))) ∙ r m
