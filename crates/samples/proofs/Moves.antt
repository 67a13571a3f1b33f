-- Laws of the moves: whole bytes as bits, samples side by side as one run, and a turn of each kind of loop.
-- Assumes nothing.
use mathlib.Core.Path.{◌≡◌, refl, sym, ap, ◌∙◌}
use mathlib.Core.List.{List}
use Prim.Native.Nat.{ℕ, zero, suc, ◌+◌, ◌-◌, ◌*◌, ◌/◌, ◌%◌, ◌^◌, ◌≤◌}
use native.Mathlib.Nat.{mul_left_comm, suc-mul}
use native.Mathlib.Numerals.{add-one}
use native.Mathlib.Omega.{arith}
use lib.ListN.{length, take, drop}
use lib.Pow.{high, low}
use Rattle.bits.specs.Bits.{Bytes, bits_at, put_bits, be_at, be_bytes}
use Rattle.common.specs.Over.{over}
use Rattle.bits.proofs.Bits.{bits_at-add, bits_at_lt}
use Rattle.bits.proofs.BigEndian.{bits_at-bytes, put_bits-bytes}
use Rattle.common.proofs.Over.{over_none}
use Rattle.bits.specs.Values.{values, side_by_side}
use Rattle.samples.specs.Internal.Samples.{spaced, put_spaced}
use Rattle.bits.proofs.Values.{values_ext, next-over, side-by-side}
use Rattle.samples.proofs.Samples.{length-put_spaced, put_spaced-bytes}

-- ---- whole bytes

eights : (k n : ℕ) → k * (8 * n) ≡ 8 * (k * n)
eights k n = mul_left_comm k 8 n

-- a start and a step of whole bytes
abbrev pub Whole : ℕ → ℕ → ℕ → Type 0
Whole at step n = (8 * (at / 8) ≡ at) × (8 * (step / 8) ≡ step) × (n * step ≡ 8 * (n * (step / 8)))

pub whole : (at step n : ℕ) → (at % 8 ≡ 0) × (step % 8 ≡ 0) → Whole at step n
whole at step n h =
    let e : step ≡ 8 * (step / 8) = omega arith in
    (omega arith, sym e, ap (λ (s : ℕ). n * s) e ∙ eights n (step / 8))

-- the first bit of byte at + k * step
place : (at step k : ℕ) → 8 * at + k * (8 * step) ≡ 8 * (at + k * step)
place at step k = omega (arith, eights k step)

pub spaced-bytes : (xs : List ℕ) (at step size k : ℕ) → Bytes xs → be_at xs (at + k * step) size ≡ spaced xs (8 * at) (8 * step) (8 * size) k
unfolding spaced
spaced-bytes xs at step size k b = sym (ap (λ (i : ℕ). bits_at xs i (8 * size)) (place at step k) ∙ bits_at-bytes xs (at + k * step) size b)

put-bytes : (ys : List ℕ) (at step size k x : ℕ) → Bytes ys → at + k * step + size ≤ length ys
    → over ys (at + k * step) (be_bytes size x) ≡ put_bits ys (8 * at + k * (8 * step)) (8 * size) x
put-bytes ys at step size k x b h = sym (ap (λ (i : ℕ). put_bits ys i (8 * size) x) (place at step k) ∙ put_bits-bytes ys (at + k * step) size x b h)

-- the w bits from bit `at` on, out of the eight bytes from its byte on; no bits out of none
pub packed : (xs : List ℕ) (at w : ℕ) → Bytes xs → at % 8 + w ≤ 64 → be_at xs (at / 8) 8 / 2 ^ ((64 - at % 8 - w) % 64) % 2 ^ w ≡ bits_at xs at w
unfolding bits_at
packed xs at zero b h = omega arith
packed xs at (suc n) b h =
    let w : ℕ = suc n in
    let i : ℕ = at / 8 in
    let a : ℕ = at % 8 in
    let r : ℕ = (64 - a - w) % 64 in
    let e : 64 ≡ a + w + r = omega arith in
    let p : 8 * i + a ≡ at = omega arith in
    ap (λ (x : ℕ). x / 2 ^ r % 2 ^ w) (sym (bits_at-bytes xs i 8 b) ∙ ap (bits_at xs (8 * i)) e ∙ bits_at-add xs (8 * i) (a + w) r)
    ∙ ap (λ (x : ℕ). x % 2 ^ w) (high (bits_at xs (8 * i) (a + w)) r (bits_at_lt xs (8 * i + (a + w)) r) ∙ bits_at-add xs (8 * i) a w)
    ∙ low (bits_at xs (8 * i) a) w (bits_at_lt xs (8 * i + a) w)
    ∙ ap (λ (x : ℕ). bits_at xs x w) p

-- ---- a turn

pub put_spaced-none : (v : ℕ → ℕ) (width p step : ℕ) (d : List ℕ) → d ≡ put_spaced v width p step 0 d
unfolding put_spaced
put_spaced-none v width p step d = refl

-- one more sample put
pub put_spaced-turn : (v : ℕ → ℕ) (width p step : ℕ) (d : List ℕ) (k : ℕ) {x : ℕ} {ys zs : List ℕ} → ys ≡ put_spaced v width p step k d → x ≡ v k
    → zs ≡ put_bits ys (p + k * step) width x → zs ≡ put_spaced v width p step (k + 1) d
unfolding put_spaced
put_spaced-turn v width p step d k ey ex ez = rw (ez, ex, ey, add-one)

-- the same where the sample is put as whole bytes
pub put-turn : (v : ℕ → ℕ) (size at step : ℕ) (d : List ℕ) (k : ℕ) {x : ℕ} {ys zs : List ℕ} → Bytes d → at + k * step + size ≤ length d
    → ys ≡ put_spaced v (8 * size) (8 * at) (8 * step) k d → x ≡ v k → zs ≡ over ys (at + k * step) (be_bytes size x)
    → zs ≡ put_spaced v (8 * size) (8 * at) (8 * step) (k + 1) d
put-turn v size at step d k {x} {ys} b h ey ex ez =
    let by : Bytes ys = rw ey (put_spaced-bytes v (8 * size) (8 * at) (8 * step) k d b) in
    put_spaced-turn v (8 * size) (8 * at) (8 * step) d k ey ex
    (ez ∙ put-bytes ys at step size k x by (omega (arith, ap length ey, length-put_spaced v (8 * size) (8 * at) (8 * step) k d)))

-- ---- samples side by side

-- one run read
pub gathered_run : (xs : List ℕ) (at s n : ℕ) (d : List ℕ) (to : ℕ) {zs : List ℕ} → Bytes xs → at + n * s ≤ length xs → zs ≡ over d to (take (n * s) (drop at xs))
    → zs ≡ over d to (values (spaced xs (8 * at) (8 * s) (8 * s)) s n)
unfolding side_by_side
gathered_run xs at s n d to b h ez =
    ez ∙ ap (over d to) (sym (side-by-side xs at s n b h) ∙ values_ext (side_by_side xs at s) (spaced xs (8 * at) (8 * s) (8 * s)) s n (λ k l. spaced-bytes xs at s s k b))

-- samples put side by side are one run
pub put_spaced_run : (v : ℕ → ℕ) (s at n : ℕ) (d : List ℕ) → Bytes d → at + n * s ≤ length d → over d at (values v s n) ≡ put_spaced v (8 * s) (8 * at) (8 * s) n d
unfolding values put_spaced
put_spaced_run v s at zero d b h = over_none d at
put_spaced_run v s at (suc n) d b h =
    let e : suc n * s ≡ n * s + s = suc-mul n s in
    ap (λ (k : ℕ). over d at (values v s k)) (sym (add-one n))
    ∙ put-turn v s at s d n b (omega arith) (put_spaced_run v s at n d b (omega arith)) refl
    (sym (next-over v s d at n (omega arith)))
    ∙ ap (λ (k : ℕ). put_spaced v (8 * s) (8 * at) (8 * s) k d) (add-one n)

-- one run written
pub scattered_run : (xs : List ℕ) (from at s n : ℕ) (d : List ℕ) {zs : List ℕ} → Bytes xs → Bytes d → from + n * s ≤ length xs → at + n * s ≤ length d
    → zs ≡ over d at (take (n * s) (drop from xs)) → zs ≡ put_spaced (side_by_side xs from s) (8 * s) (8 * at) (8 * s) n d
scattered_run xs from at s n d b bd h l ez =
    ez ∙ ap (over d at) (sym (side-by-side xs from s n b h)) ∙ put_spaced_run (side_by_side xs from s) s at n d bd l
