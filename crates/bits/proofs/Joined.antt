-- Laws of bits put together with the bits beside them, as one wider number.
-- Assumes nothing.
use mathlib.Core.Path.{◌≡◌, refl, sym, ap, ap₂, ◌∙◌}
use mathlib.Core.List.{List}
use mathlib.Core.Logic.{inr}
use Prim.Native.Nat.{ℕ, zero, suc, ◌+◌, ◌*◌, ◌/◌, ◌%◌, ◌^◌, ◌≤◌, ◌<◌}
use native.Mathlib.Nat.{mod-lt, mod-eq_of_lt}
use native.Mathlib.Numerals.{add-one}
use native.Mathlib.Omega.{arith}
use lib.ListN.{length, get_or, set}
use lib.Seq.{set-get_or}
use lib.Pow.{split, pow_pos, high, low, shr-shr, mod-pow-add}
use Rattle.bits.specs.Bits.{with_bit, with_field, bit_at, bits_at, set_bit, put_bits, Bytes, be_at, be_bytes}
use Rattle.common.specs.Over.{over}
use Rattle.bits.proofs.Bits.{bit_at_lt, bits_at_lt, bits_at-add, put_bits-add, put_bits-apart}
use Rattle.bits.proofs.BigEndian.{put_bits-bytes, bits_at-bytes}

-- the low digit, and those above it
digits : (v n : ℕ) → v % 2 ^ suc n ≡ v / 2 % 2 ^ n * 2 + v % 2
digits v n = ap (λ (a : ℕ). v % 2 ^ a) (sym (add-one n)) ∙ mod-pow-add v n 1

-- only the n low bits of a number are put
pub put_bits-low : (xs : List ℕ) (p n u v : ℕ) → u % 2 ^ n ≡ v % 2 ^ n → put_bits xs p n u ≡ put_bits xs p n v
unfolding put_bits
put_bits-low xs p zero u v e = refl
put_bits-low xs p (suc n) u v e =
    let f : u / 2 % 2 ^ n * 2 + u % 2 ≡ v / 2 % 2 ^ n * 2 + v % 2 = sym (digits u n) ∙ e ∙ digits v n in
    ap₂ (λ (ys : List ℕ) (b : ℕ). set_bit ys (p + n) b) (put_bits-low xs p n (u / 2) (v / 2) (omega arith)) (omega arith)

pub put_bits-mod : (xs : List ℕ) (p n v : ℕ) → put_bits xs p n v ≡ put_bits xs p n (v % 2 ^ n)
put_bits-mod xs p n v = put_bits-low xs p n v (v % 2 ^ n) (sym (mod-eq_of_lt (mod-lt v (pow_pos n))))

-- ---- bits that are there already

with_bit-kept : (x k : ℕ) → with_bit x k (x / 2 ^ k % 2) ≡ x
unfolding with_bit
with_bit-kept x k =
    let e : x / 2 ^ k / 2 ≡ x / 2 ^ suc k = shr-shr x k 1 ∙ ap (λ (a : ℕ). x / 2 ^ a) (add-one k) in
    let f : x / 2 ^ suc k * 2 + x / 2 ^ k % 2 ≡ x / 2 ^ k = omega arith in
    ap (λ (a : ℕ). a * 2 ^ k + x % 2 ^ k) f ∙ split x k

set_bit-kept : (xs : List ℕ) (i : ℕ) → set_bit xs i (bit_at xs i) ≡ xs
unfolding set_bit bit_at
set_bit-kept xs i = ap (set xs (i / 8)) (with_bit-kept (get_or xs (i / 8) 0) _) ∙ set-get_or xs (i / 8) 0

pub put_bits-kept : (xs : List ℕ) (p n v : ℕ) → v % 2 ^ n ≡ bits_at xs p n → put_bits xs p n v ≡ xs
unfolding put_bits bits_at
put_bits-kept xs p zero v e = refl
put_bits-kept xs p (suc n) v e =
    let f : v / 2 % 2 ^ n * 2 + v % 2 ≡ bits_at xs p n * 2 + bit_at xs (p + n) = sym (digits v n) ∙ e in
    let l : bit_at xs (p + n) < 2 = bit_at_lt xs (p + n) in
    ap₂ (λ (ys : List ℕ) (b : ℕ). set_bit ys (p + n) b) (put_bits-kept xs p n (v / 2) (omega arith)) (omega arith) ∙ set_bit-kept xs (p + n)

-- ---- w bits put as a field of a number, between the a bits before them and the r bits after them

pub put_bits-field : (xs : List ℕ) (p a w r v : ℕ) → put_bits xs p (a + w + r) (with_field (bits_at xs p (a + w + r)) r w (v % 2 ^ w)) ≡ put_bits xs (p + a) w v
unfolding with_field
put_bits-field xs p a w r v =
    let x : ℕ = bits_at xs p (a + w + r) in
    let f : ℕ = v % 2 ^ w in
    let m : ℕ = x / 2 ^ (r + w) * 2 ^ w + f in
    let y : ℕ = m * 2 ^ r + x % 2 ^ r in
    let zs : List ℕ = put_bits xs (p + a) w v in
    let q : ℕ = p + (a + w) in
    let f< : f < 2 ^ w = mod-lt v (pow_pos w) in
    let e : x ≡ bits_at xs p (a + w) * 2 ^ r + bits_at xs q r = bits_at-add xs p (a + w) r in
    let after : x % 2 ^ r ≡ bits_at xs q r = ap (λ (z : ℕ). z % 2 ^ r) e ∙ low (bits_at xs p (a + w)) r (bits_at_lt xs q r) in
    let before : x / 2 ^ (r + w) ≡ bits_at xs p a =
    sym (shr-shr x r w) ∙ ap (λ (z : ℕ). z / 2 ^ r / 2 ^ w) e ∙ ap (λ (z : ℕ). z / 2 ^ w) (high (bits_at xs p (a + w)) r (bits_at_lt xs q r) ∙ bits_at-add xs p a w)
    ∙ high (bits_at xs p a) w (bits_at_lt xs (p + a) w) in
    let front : put_bits xs p a (m / 2 ^ w) ≡ xs =
    put_bits-kept xs p a (m / 2 ^ w) (ap (λ (z : ℕ). z % 2 ^ a) (high (x / 2 ^ (r + w)) w f< ∙ before) ∙ mod-eq_of_lt (bits_at_lt xs p a)) in
    let middle : put_bits xs (p + a) w m ≡ zs = put_bits-low xs (p + a) w m v (low (x / 2 ^ (r + w)) w f<) in
    let back : put_bits zs q r y ≡ zs =
    put_bits-kept zs q r y (low m r (mod-lt x (pow_pos r)) ∙ after ∙ sym (put_bits-apart xs (p + a) w v q r (inr (omega arith)))) in
    put_bits-add xs p (a + w) r y
    ∙ ap (λ (z : ℕ). put_bits (put_bits xs p (a + w) z) q r y) (high m r (mod-lt x (pow_pos r)))
    ∙ ap (λ (ys : List ℕ). put_bits ys q r y) (put_bits-add xs p a w m ∙ ap (λ (ys : List ℕ). put_bits ys (p + a) w m) front ∙ middle)
    ∙ back

-- w bits put by a change of the n bytes from their first byte on, r being the bits after them
pub put_bits-within : (xs : List ℕ) (at w r n v : ℕ) {x y : ℕ} {zs : List ℕ} → Bytes xs → at % 8 + w + r ≡ 8 * n → at / 8 + n ≤ length xs
    → x ≡ be_at xs (at / 8) n → y ≡ with_field x r w (v % 2 ^ w) → zs ≡ over xs (at / 8) (be_bytes n y) → zs ≡ put_bits xs at w v
put_bits-within xs at w r n v b e h ex ey ez =
    let i : ℕ = at / 8 in
    let a : ℕ = at % 8 in
    let p : 8 * i + a ≡ at = omega arith in
    ez ∙ ap (λ (z : ℕ). over xs i (be_bytes n z)) ey ∙ sym (put_bits-bytes xs i n (with_field _ r w (v % 2 ^ w)) b h)
    ∙ ap₂ (λ (k z : ℕ). put_bits xs (8 * i) k (with_field z r w (v % 2 ^ w))) (sym e) (ex ∙ sym (bits_at-bytes xs i n b) ∙ ap (bits_at xs (8 * i)) (sym e))
    ∙ put_bits-field xs (8 * i) a w r v
    ∙ ap (λ (k : ℕ). put_bits xs k w v) p
