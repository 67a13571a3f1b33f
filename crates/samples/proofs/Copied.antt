-- Laws of bits that are copied: what a word holds, and parts of a copy put side by side.
-- Assumes nothing.
use mathlib.Core.Path.{◌≡◌, refl, sym, ap, ap₂, ◌∙◌}
use mathlib.Core.List.{List}
use Prim.Native.Nat.{ℕ, zero, suc, ◌+◌, ◌-◌, ◌*◌, ◌/◌, ◌%◌, ◌^◌, ◌≤◌, ◌<◌}
use native.Mathlib.Nat.{mod-eq_of_lt, mod-lt, suc-mul, zero-mul}
use native.Mathlib.Omega.{arith}
use lib.ListN.{length, get_or}
use lib.Bits.{bit_and, and_mask}
use lib.Pow.{split, pow_pos, high, low, pow-add, shl_lt, shl_exact, shr_mod, shr-shr}
use Rattle.bits.specs.Bits.{Bytes, with_field, bits_at, put_bits, be_at, be_bytes}
use Rattle.common.specs.Over.{over}
use Rattle.samples.specs.Internal.Samples.{spaced, put_spaced}
use Rattle.bits.proofs.Bits.{bits_at-add, bits_at_lt, bits_at_byte, with_field_lt, put_bits-add, length-put_bits}
use Rattle.bits.proofs.BigEndian.{bits_at-bytes, put_bits-bytes, put_bits-keeps}
use Rattle.bits.proofs.Joined.{put_bits-low}
use Rattle.bits.proofs.Shift.{one_shl}

-- ---- 64 bits out of nine bytes

-- the a low bits of the ninth, at its high end
last_bits : (xs : List ℕ) (p a : ℕ) → Bytes xs → p % 8 ≡ 0 → a ≤ 8 → get_or xs (p / 8) 0 / 2 ^ (8 - a) ≡ bits_at xs p a
last_bits xs p a b e h =
    let f : 8 ≡ a + (8 - a) = omega arith in
    let l : get_or xs (p / 8) 0 < 256 = b (p / 8) in
    let k : 256 ≡ 2 ^ (a + (8 - a)) = ap (λ (n : ℕ). 2 ^ n) f in
    let g : 8 - (p % 8 + a) ≡ 8 - a = omega arith in
    sym (shr_mod a (8 - a) (omega arith))
    ∙ ap (λ (k : ℕ). get_or xs (p / 8) 0 / 2 ^ k % 2 ^ a) (sym g)
    ∙ sym (bits_at_byte xs p a (omega arith))

-- the bits of a number of 64 bits after its first a, moved to the high end
moved_up : (A h m a : ℕ) → m + a ≡ 64 → h < 2 ^ m → (A * 2 ^ m + h) * 2 ^ a % 2 ^ 64 ≡ h * 2 ^ a
moved_up A h m a e l =
    let f : (A * 2 ^ m + h) * 2 ^ a ≡ A * 2 ^ (m + a) + h * 2 ^ a = rw (pow-add 2 m a) (omega arith) in
    ap (λ (k : ℕ). (A * 2 ^ m + h) * 2 ^ a % 2 ^ k) (sym e)
    ∙ ap (λ (x : ℕ). x % 2 ^ (m + a)) f
    ∙ low A (m + a) (shl_lt m a l)

pub word : (xs : List ℕ) (at : ℕ) {x y : ℕ} → Bytes xs → x ≡ be_at xs (at / 8) 8 → y ≡ get_or xs (at / 8 + 8) 0
    → x * 2 ^ (at % 8) % 2 ^ 64 + y / 2 ^ (8 - at % 8) ≡ bits_at xs at 64
word xs at {x} {y} b ex ey =
    let i : ℕ = at / 8 in
    let a : ℕ = at % 8 in
    let m : ℕ = 64 - a in
    let h : ℕ = bits_at xs at m in
    let e : m + a ≡ 64 = omega arith in
    let p : 8 * i + a ≡ at = omega arith in
    let q : i + 8 ≡ (at + m) / 8 = omega arith in
    let x-is : x ≡ bits_at xs (8 * i) a * 2 ^ m + h
    = ex ∙ sym (bits_at-bytes xs i 8 b) ∙ ap (bits_at xs (8 * i)) (let f : 8 * 8 ≡ a + m = omega arith in f)
    ∙ bits_at-add xs (8 * i) a m ∙ ap (λ (k : ℕ). bits_at xs (8 * i) a * 2 ^ m + bits_at xs k m) p in
    let y-is : y / 2 ^ (8 - a) ≡ bits_at xs (at + m) a
    = ap (λ (z : ℕ). z / 2 ^ (8 - a)) (ey ∙ ap (λ (k : ℕ). get_or xs k 0) q)
    ∙ last_bits xs (at + m) a b (omega arith) (omega arith) in
    ap₂ (λ (z w : ℕ). z * 2 ^ a % 2 ^ 64 + w) x-is y-is
    ∙ ap (λ (z : ℕ). z + bits_at xs (at + m) a) (moved_up (bits_at xs (8 * i) a) h m a e (bits_at_lt xs at m))
    ∙ sym (bits_at-add xs at m a)
    ∙ ap (bits_at xs at) e

-- ---- some bits of a number of 64 exchanged

exchanged : (x k w v : ℕ) → k + w ≤ 64 → v < 2 ^ w
    → (x / 2 ^ k % 2 ^ w * 2 ^ k % 2 ^ 64 ≤ x)
    × (x - x / 2 ^ k % 2 ^ w * 2 ^ k % 2 ^ 64 + v * 2 ^ k % 2 ^ 64 ≡ with_field x k w v)
unfolding with_field
exchanged x k w v l lv =
    let f : ℕ = x / 2 ^ k % 2 ^ w in
    let q : ℕ = x / 2 ^ (k + w) in
    let room : w + k ≤ 64 = omega arith in
    let ef : f * 2 ^ k % 2 ^ 64 ≡ f * 2 ^ k = shl_exact w k 64 (mod-lt (x / 2 ^ k) (pow_pos w)) room in
    let ev : v * 2 ^ k % 2 ^ 64 ≡ v * 2 ^ k = shl_exact w k 64 lv room in
    let eq : x / 2 ^ k ≡ q * 2 ^ w + f
    = sym (ap (λ (z : ℕ). z * 2 ^ w + f) (sym (shr-shr x k w)) ∙ split (x / 2 ^ k) w) in
    let ex : x ≡ (q * 2 ^ w + f) * 2 ^ k + x % 2 ^ k = sym (split x k) ∙ ap (λ (z : ℕ). z * 2 ^ k + x % 2 ^ k) eq in
    parts x (q * 2 ^ w) f v (2 ^ k) (x % 2 ^ k) ex ef ev
  where
    parts : (x q f v p r : ℕ) {a b : ℕ} → x ≡ (q + f) * p + r → a ≡ f * p → b ≡ v * p
        → (a ≤ x) × (x - a + b ≡ (q + v) * p + r)
    parts x q f v p r ex ea eb = (omega arith, omega arith)

-- w bits of x from bit k up taken out, and v put there
abbrev taken_out : ℕ → ℕ → ℕ → ℕ
taken_out x k w = bit_and (x / 2 ^ k) (1 * 2 ^ w % 2 ^ 64 - 1) * 2 ^ k % 2 ^ 64

pub record Exchanged (x k w v : ℕ) : Type 0 where
  pub le : taken_out x k w ≤ x
  pub is : x - taken_out x k w + v * 2 ^ k % 2 ^ 64 ≡ with_field x k w v
  pub fits : with_field x k w v < 2 ^ 64

pub exchange : (x k w v : ℕ) → x < 2 ^ 64 → k + w ≤ 64 → w ≤ 57 → v < 2 ^ w → Exchanged x k w v
exchange x k w v h l n lv =
    let e : bit_and (x / 2 ^ k) (1 * 2 ^ w % 2 ^ 64 - 1) ≡ x / 2 ^ k % 2 ^ w
    = ap (λ (z : ℕ). bit_and (x / 2 ^ k) (z - 1)) (one_shl w (omega arith)) ∙ and_mask (x / 2 ^ k) w in
    let q = exchanged x k w v l lv in
    let j : ℕ = 64 - (k + w) in
    let ej : j + (k + w) ≡ 64 = omega arith in
    let p : 2 ^ (j + (k + w)) ≡ 2 ^ 64 = ap (λ (z : ℕ). 2 ^ z) ej in
    let y : with_field x k w v < 2 ^ (j + (k + w)) = with_field_lt x j k w v (omega arith) lv in
    record { le = rw e q.0; is = rw e q.1; fits = omega arith }

-- ---- parts side by side

pub copied-none : (xs : List ℕ) (p q : ℕ) (d : List ℕ) → d ≡ put_bits d q 0 (bits_at xs p 0)
unfolding put_bits
copied-none xs p q d = refl

-- a bits copied, and then the b bits after them
pub copied_then : (xs : List ℕ) (p q a b : ℕ) (d : List ℕ) {ys zs : List ℕ} → ys ≡ put_bits d q a (bits_at xs p a)
    → zs ≡ put_bits ys (q + a) b (bits_at xs (p + a) b) → zs ≡ put_bits d q (a + b) (bits_at xs p (a + b))
copied_then xs p q a b d ey ez =
    let hi : ℕ = bits_at xs p a in
    let lo : ℕ = bits_at xs (p + a) b in
    let v : ℕ = bits_at xs p (a + b) in
    let l : lo < 2 ^ b = bits_at_lt xs (p + a) b in
    let e : v ≡ hi * 2 ^ b + lo = bits_at-add xs p a b in
    ez ∙ ap (λ (s : List ℕ). put_bits s (q + a) b lo) ey
    ∙ put_bits-low (put_bits d q a hi) (q + a) b lo v
    (mod-eq_of_lt l ∙ sym (low hi b l) ∙ ap (λ (z : ℕ). z % 2 ^ b) (sym e))
    ∙ ap (λ (z : ℕ). put_bits (put_bits d q a z) (q + a) b v) (sym (ap (λ (z : ℕ). z / 2 ^ b) e ∙ high hi b l))
    ∙ sym (put_bits-add d q a b v)

-- one more word, put as bytes
pub word_then : (xs : List ℕ) (p o k : ℕ) (d : List ℕ) {v : ℕ} {ys zs : List ℕ} → Bytes d → o + 8 * k + 8 ≤ length d
    → ys ≡ put_bits d (8 * o) (64 * k) (bits_at xs p (64 * k)) → v ≡ bits_at xs (p + 64 * k) 64
    → zs ≡ over ys (o + 8 * k) (be_bytes 8 v)
    → zs ≡ put_bits d (8 * o) (64 * (k + 1)) (bits_at xs p (64 * (k + 1)))
word_then xs p o k d {v} {ys} b h ey ev ez =
    let e : 64 * k + 64 ≡ 64 * (k + 1) = omega arith in
    let f : 8 * (o + 8 * k) ≡ 8 * o + 64 * k = omega arith in
    let by : Bytes ys = rw ey (put_bits-keeps d (8 * o) (64 * k) (bits_at xs p (64 * k)) b) in
    copied_then xs p (8 * o) (64 * k) 64 d ey
    (ez ∙ ap (λ (z : ℕ). over ys (o + 8 * k) (be_bytes 8 z)) ev
    ∙ sym
    (put_bits-bytes ys (o + 8 * k) 8 _ by
    (omega (arith, ap length ey, length-put_bits d (8 * o) (64 * k) (bits_at xs p (64 * k)))))
    ∙ ap (λ (z : ℕ). put_bits ys z 64 (bits_at xs (p + 64 * k) 64)) f)
    ∙ ap (λ (n : ℕ). put_bits d (8 * o) n (bits_at xs p n)) e

-- ---- samples side by side

-- k samples copied at once
pub copied_spaced : (xs : List ℕ) (p q w k : ℕ) (d : List ℕ) {zs : List ℕ}
    → zs ≡ put_bits d q (k * w) (bits_at xs p (k * w))
    → zs ≡ put_spaced (spaced xs p w w) w q w k d
unfolding put_bits spaced put_spaced
copied_spaced xs p q w k d e = e ∙ go k
  where
    go : (k : ℕ) → put_bits d q (k * w) (bits_at xs p (k * w)) ≡ put_spaced (spaced xs p w w) w q w k d
    go zero = rw zero-mul
    go (suc k) =
        ap (λ (n : ℕ). put_bits d q n (bits_at xs p n)) (suc-mul k w)
        ∙ sym (copied_then xs p q (k * w) w d (sym (go k)) refl)
