-- Laws of bits: of a number, of a list of bytes, after bits are put, within one byte, and of whole bytes.
-- Assumes nothing.
use mathlib.Core.Path.{◌≡◌, refl, sym, ap, ap₂, ◌∙◌}
use mathlib.Core.List.{List}
use mathlib.Core.Logic.{◌⊎◌, inl, inr, ⊎_elim}
use Prim.Native.Nat.{ℕ, zero, suc, ◌+◌, ◌-◌, ◌*◌, ◌/◌, ◌%◌, ◌^◌, ◌≤◌, ◌<◌}
use native.Mathlib.Nat.{mod-lt, pow-suc, add-zero, add-suc, mul_assoc, add_assoc, zero-lt-suc, lt_of_lt_of_le, mod-one, mul-one, div-one, suc-mul, mul-le-mul_right}
use native.Mathlib.Numerals.{add-one, one-add}
use native.Mathlib.Decide.{ℕ_discrete, dec_lt}
use native.Mathlib.Omega.{arith}
use lib.ListN.{length, get_or, set, length-set}
use lib.Seq.{get_or-set_same, get_or-set_other, set_out, set-get_or, set-set}
use lib.Arith.{digits_lt, digits_mod, digits_div}
use lib.Pow.{split, pow_pos, pow_mono, pow-add, high, low, field, mod-mod-pow, shr-shr, shr_lt, mod-pow-add}
use Rattle.bits.specs.Bits.{bit_of, with_bit, with_field, bit_at, bits_at, set_bit, put_bits}

-- ---- one bit of a number

pub with_bit-same : (x k v : ℕ) → v < 2 → with_bit x k v / 2 ^ k % 2 ≡ v
unfolding with_bit
with_bit-same x k v h = ap (λ (y : ℕ). y % 2) (high (x / 2 ^ suc k * 2 + v) k (mod-lt x (pow_pos k))) ∙ digits_mod (x / 2 ^ suc k) h

-- the bits above k
with_bit-high : (x k v : ℕ) → v < 2 → with_bit x k v / 2 ^ suc k ≡ x / 2 ^ suc k
unfolding with_bit
with_bit-high x k v h =
    ap (λ (y : ℕ). with_bit x k v / 2 ^ y) (sym (add-one k)) ∙ sym (shr-shr (with_bit x k v) k 1)
    ∙ ap (λ (y : ℕ). y / 2) (high (x / 2 ^ suc k * 2 + v) k (mod-lt x (pow_pos k)))
    ∙ digits_div (x / 2 ^ suc k) h

-- the bits below k
with_bit-low : (x k v : ℕ) → with_bit x k v % 2 ^ k ≡ x % 2 ^ k
unfolding with_bit
with_bit-low x k v = low (x / 2 ^ suc k * 2 + v) k (mod-lt x (pow_pos k))

-- a bit below k is a bit of the remainder by 2 ^ k
bit_mod : (x j k : ℕ) → j < k → x % 2 ^ k / 2 ^ j % 2 ≡ x / 2 ^ j % 2
bit_mod x j k h =
    let e : k ≡ (k - (1 + j)) + (1 + j) = omega arith in
    ap (λ (n : ℕ). x % 2 ^ n / 2 ^ j % 2) e
    ∙ sym (field (x % 2 ^ ((k - (1 + j)) + (1 + j))) 1 j)
    ∙ ap (λ (n : ℕ). n / 2 ^ j) (mod-mod-pow x (k - (1 + j)) (1 + j))
    ∙ field x 1 j

bit_div : (x j k : ℕ) → k ≤ j → x / 2 ^ k / 2 ^ (j - k) ≡ x / 2 ^ j
bit_div x j k h =
    let e : k + (j - k) ≡ j = omega arith in
    shr-shr x k (j - k) ∙ ap (λ (n : ℕ). x / 2 ^ n) e

pub with_bit-other : (x k j v : ℕ) → v < 2 → (j ≡ k → ⊥) → with_bit x k v / 2 ^ j % 2 ≡ x / 2 ^ j % 2
with_bit-other x k j v h ne = go (dec_lt j k)
  where
    go : Dec (j < k) → with_bit x k v / 2 ^ j % 2 ≡ x / 2 ^ j % 2
    go (yes l) = sym (bit_mod (with_bit x k v) j k l) ∙ ap (λ (n : ℕ). n / 2 ^ j % 2) (with_bit-low x k v) ∙ bit_mod x j k l
    go (no l) =
        let m : suc k ≤ j = omega arith in
        ap (λ (n : ℕ). n % 2)
        (sym (bit_div (with_bit x k v) j (suc k) m) ∙ ap (λ (n : ℕ). n / 2 ^ (j - suc k)) (with_bit-high x k v h) ∙ bit_div x j (suc k) m)

-- ---- the bits of a list

pub bit_at_lt : (xs : List ℕ) (i : ℕ) → bit_at xs i < 2
unfolding bit_at
bit_at_lt xs i = mod-lt (get_or xs (i / 8) 0 / 2 ^ (7 - i % 8)) (zero-lt-suc 1)

pub bits_at_lt : (xs : List ℕ) (p n : ℕ) → bits_at xs p n < 2 ^ n
unfolding bits_at
bits_at_lt xs p zero = omega arith
bits_at_lt xs p (suc n) = rw pow-suc (digits_lt (bits_at_lt xs p n) (bit_at_lt xs (p + n)))

-- one more bit, as a loop's `n + 1` has it
pub bits_at-next : (xs : List ℕ) (p n : ℕ) → bits_at xs p (n + 1) ≡ bits_at xs p n * 2 + bit_at xs (p + n)
unfolding bits_at
bits_at-next xs p n = rw add-one

pub bits_at_64 : (xs : List ℕ) (p n : ℕ) → n ≤ 64 → bits_at xs p n < 2 ^ 64
bits_at_64 xs p n h = lt_of_lt_of_le (bits_at_lt xs p n) (pow_mono h)

-- lists with the same bits there have the same number there
pub bits_at_ext : (xs ys : List ℕ) (p n : ℕ) → ((i : ℕ) → p ≤ i → i < p + n → bit_at xs i ≡ bit_at ys i) → bits_at xs p n ≡ bits_at ys p n
unfolding bits_at
bits_at_ext xs ys p zero h = refl
bits_at_ext xs ys p (suc n) h =
    ap₂ (λ (a b : ℕ). a * 2 + b) (bits_at_ext xs ys p n (λ i l m. h i l (omega arith))) (h (p + n) (omega arith) (omega arith))

-- the bits from p on: the first n, then the next m
pub bits_at-add : (xs : List ℕ) (p n m : ℕ) → bits_at xs p (n + m) ≡ bits_at xs p n * 2 ^ m + bits_at xs (p + n) m
unfolding bits_at
bits_at-add xs p n zero = rw add-zero (omega arith)
bits_at-add xs p n (suc m) =
    ap (bits_at xs p) (add-suc n m)
    ∙ ap₂ (λ (a b : ℕ). a * 2 + b) (bits_at-add xs p n m) (ap (bit_at xs) (sym (add_assoc p n m)))
    ∙ (let e : bits_at xs p n * 2 ^ suc m ≡ bits_at xs p n * 2 ^ m * 2 = rw (pow-suc, mul_assoc) in omega arith)

-- ---- after a bit is set

pub length-set_bit : (xs : List ℕ) (i v : ℕ) → length (set_bit xs i v) ≡ length xs
unfolding set_bit
length-set_bit xs i v = length-set xs (i / 8) (with_bit (get_or xs (i / 8) 0) (7 - i % 8) v)

pub set_bit-same : (xs : List ℕ) (i v : ℕ) → v < 2 → i < 8 * length xs → bit_at (set_bit xs i v) i ≡ v
unfolding set_bit bit_at
set_bit-same xs i v h l =
    let m : i / 8 < length xs = omega arith in
    ap (λ (n : ℕ). n / 2 ^ (7 - i % 8) % 2) (get_or-set_same xs (i / 8) (with_bit (get_or xs (i / 8) 0) (7 - i % 8) v) 0 m)
    ∙ with_bit-same (get_or xs (i / 8) 0) (7 - i % 8) v h

pub set_bit-other : (xs : List ℕ) (i j v : ℕ) → v < 2 → (j ≡ i → ⊥) → bit_at (set_bit xs i v) j ≡ bit_at xs j
unfolding set_bit bit_at
set_bit-other xs i j v h ne = go (ℕ_discrete (j / 8) (i / 8)) (dec_lt (i / 8) (length xs))
  where
    y : ℕ
    y = with_bit (get_or xs (i / 8) 0) (7 - i % 8) v

    go : Dec (j / 8 ≡ i / 8) → Dec (i / 8 < length xs) → get_or (set xs (i / 8) y) (j / 8) 0 / 2 ^ (7 - j % 8) % 2 ≡ get_or xs (j / 8) 0 / 2 ^ (7 - j % 8) % 2
    go (no n) d = ap (λ (x : ℕ). x / 2 ^ (7 - j % 8) % 2) (get_or-set_other xs (i / 8) (j / 8) y 0 n)
    go (yes e) (no l) = ap (λ (x : List ℕ). get_or x (j / 8) 0 / 2 ^ (7 - j % 8) % 2) (set_out xs (i / 8) y (omega arith))
    go (yes e) (yes l) =
        ap (λ (k : ℕ). get_or (set xs (i / 8) y) k 0 / 2 ^ (7 - j % 8) % 2) e
        ∙ ap (λ (n : ℕ). n / 2 ^ (7 - j % 8) % 2) (get_or-set_same xs (i / 8) y 0 l)
        ∙ with_bit-other (get_or xs (i / 8) 0) (7 - i % 8) (7 - j % 8) v h (λ q. ne (omega arith))
        ∙ ap (λ (k : ℕ). get_or xs k 0 / 2 ^ (7 - j % 8) % 2) (sym e)

-- ---- after bits are put

pub length-put_bits : (xs : List ℕ) (p n v : ℕ) → length (put_bits xs p n v) ≡ length xs
unfolding put_bits
length-put_bits xs p zero v = refl
length-put_bits xs p (suc n) v = length-set_bit (put_bits xs p n (v / 2)) (p + n) (v % 2) ∙ length-put_bits xs p n (v / 2)

pub put_bits_bit : (xs : List ℕ) (p n v i : ℕ) → (i < p) ⊎ (p + n ≤ i) → bit_at (put_bits xs p n v) i ≡ bit_at xs i
unfolding put_bits
put_bits_bit xs p zero v i h = refl
put_bits_bit xs p (suc n) v i h =
    set_bit-other (put_bits xs p n (v / 2)) (p + n) i (v % 2) (omega arith) (⊎_elim (λ l e. omega arith) (λ l e. omega arith) h)
    ∙ put_bits_bit xs p n (v / 2) i (⊎_elim (λ l. inl l) (λ l. inr (omega arith)) h)

-- what is read back is the low n bits of what was put
pub put_bits-read : (xs : List ℕ) (p n v : ℕ) → p + n ≤ 8 * length xs → bits_at (put_bits xs p n v) p n ≡ v % 2 ^ n
unfolding put_bits bits_at
put_bits-read xs p zero v l = omega arith
put_bits-read xs p (suc n) v l =
    ap₂ (λ (a b : ℕ). a * 2 + b)
    (bits_at_ext (set_bit (put_bits xs p n (v / 2)) (p + n) (v % 2)) (put_bits xs p n (v / 2)) p n
    (λ i a b. set_bit-other (put_bits xs p n (v / 2)) (p + n) i (v % 2) (omega arith) (λ e. omega arith))
    ∙ put_bits-read xs p n (v / 2) (omega arith))
    (set_bit-same (put_bits xs p n (v / 2)) (p + n) (v % 2) (omega arith) (omega (arith, length-put_bits xs p n (v / 2))))
    ∙ sym (mod-pow-add v n 1) ∙ ap (λ (a : ℕ). v % 2 ^ a) (add-one n)

-- each bit that was put
pub put_bits_hit : (xs : List ℕ) (p n v i : ℕ) → i < n → p + n ≤ 8 * length xs → bit_at (put_bits xs p n v) (p + i) ≡ bit_of v (n - suc i)
unfolding put_bits
put_bits_hit xs p zero v i h l = absurd (omega arith)
put_bits_hit xs p (suc n) v i h l = go (ℕ_discrete i n) (λ k. put_bits_hit xs p n (v / 2) i k (omega arith))
  where
    go : Dec (i ≡ n) → (i < n → bit_at (put_bits xs p n (v / 2)) (p + i) ≡ bit_of (v / 2) (n - suc i))
        → bit_at (set_bit (put_bits xs p n (v / 2)) (p + n) (v % 2)) (p + i) ≡ bit_of v (suc n - suc i)
    go (yes e) f =
        let q : suc n - suc i ≡ 0 = omega arith in
        let z : v % 2 ≡ v / 2 ^ 0 % 2 = omega arith in
        ap (λ (a : ℕ). bit_at (set_bit (put_bits xs p n (v / 2)) (p + n) (v % 2)) (p + a)) e
        ∙ set_bit-same (put_bits xs p n (v / 2)) (p + n) (v % 2) (omega arith) (omega (arith, length-put_bits xs p n (v / 2)))
        ∙ z ∙ ap (bit_of v) (sym q)
    go (no e) f =
        set_bit-other (put_bits xs p n (v / 2)) (p + n) (p + i) (v % 2) (omega arith) (λ q. e (omega arith))
        ∙ f (omega arith)
        ∙ ap (λ (a : ℕ). a % 2) (shr-shr v 1 (n - suc i) ∙ ap (λ (a : ℕ). v / 2 ^ a) (omega arith))

-- a number is known by the bits that hold it
pub bits_at-is : (xs : List ℕ) (p n v : ℕ) → ((i : ℕ) → i < n → bit_at xs (p + i) ≡ bit_of v (n - suc i)) → bits_at xs p n ≡ v % 2 ^ n
unfolding bits_at
bits_at-is xs p zero v h = omega arith
bits_at-is xs p (suc n) v h =
    ap₂ (λ (a b : ℕ). a * 2 + b)
    (bits_at-is xs p n (v / 2) (λ i l. h i (omega arith) ∙ up i l))
    (h n (omega arith) ∙ last)
    ∙ sym (mod-pow-add v n 1) ∙ ap (λ (a : ℕ). v % 2 ^ a) (add-one n)
  where
    last : bit_of v (suc n - suc n) ≡ v % 2
    last = let q : suc n - suc n ≡ 0 = omega arith in let z : v / 2 ^ 0 % 2 ≡ v % 2 = omega arith in ap (bit_of v) q ∙ z

    up : (i : ℕ) → i < n → bit_of v (suc n - suc i) ≡ bit_of (v / 2) (n - suc i)
    up i l = ap (λ (a : ℕ). a % 2) (ap (λ (a : ℕ). v / 2 ^ a) (omega arith) ∙ sym (shr-shr v 1 (n - suc i)))

-- each bit of the number in n bits
pub bits_at-bit : (xs : List ℕ) (p n i : ℕ) → i < n → bit_of (bits_at xs p n) (n - suc i) ≡ bit_at xs (p + i)
unfolding bits_at
bits_at-bit xs p zero i h = absurd (omega arith)
bits_at-bit xs p (suc n) i h = go (ℕ_discrete i n) (λ l. bits_at-bit xs p n i l)
  where
    x : ℕ
    x = bits_at xs p n * 2 + bit_at xs (p + n)

    go : Dec (i ≡ n) → (i < n → bit_of (bits_at xs p n) (n - suc i) ≡ bit_at xs (p + i))
        → bit_of x (suc n - suc i) ≡ bit_at xs (p + i)
    go (yes e) f =
        let q : suc n - suc i ≡ 0 = omega arith in
        let z : x / 2 ^ 0 % 2 ≡ x % 2 = omega arith in
        ap (bit_of x) q ∙ z ∙ digits_mod (bits_at xs p n) (bit_at_lt xs (p + n))
        ∙ ap (λ (k : ℕ). bit_at xs (p + k)) (sym e)
    go (no ne) f =
        let q : suc n - suc i ≡ 1 + (n - suc i) = omega arith in
        ap (bit_of x) q
        ∙ ap (λ (y : ℕ). y % 2) (sym (shr-shr x 1 (n - suc i))
        ∙ ap (λ (y : ℕ). y / 2 ^ (n - suc i)) (digits_div (bits_at xs p n) (bit_at_lt xs (p + n))))
        ∙ f (omega arith)

-- any bits apart from those put are as they were
pub put_bits-apart : (xs : List ℕ) (p n v q m : ℕ) → (q + m ≤ p) ⊎ (p + n ≤ q) → bits_at (put_bits xs p n v) q m ≡ bits_at xs q m
put_bits-apart xs p n v q m h =
    bits_at_ext (put_bits xs p n v) xs q m (λ i a b. put_bits_bit xs p n v i (⊎_elim (λ l. inl (omega arith)) (λ l. inr (omega arith)) h))

-- ---- bits within one byte

-- bits that lie in one byte are a field of it
pub bits_at_byte : (xs : List ℕ) (p n : ℕ) → p % 8 + n ≤ 8 → bits_at xs p n ≡ get_or xs (p / 8) 0 / 2 ^ (8 - (p % 8 + n)) % 2 ^ n
unfolding bits_at bit_at
bits_at_byte xs p zero h = omega arith
bits_at_byte xs p (suc n) h =
    let x : ℕ = get_or xs (p / 8) 0 in
    let k : ℕ = 8 - (p % 8 + suc n) in
    let e₁ : 8 - (p % 8 + n) ≡ k + 1 = omega arith in
    let e₂ : (p + n) / 8 ≡ p / 8 = omega arith in
    let e₃ : 7 - (p + n) % 8 ≡ k = omega arith in
    ap₂ (λ (a b : ℕ). a * 2 + b)
    (bits_at_byte xs p n (omega arith) ∙ ap (λ (a : ℕ). x / 2 ^ a % 2 ^ n) e₁ ∙ ap (λ (a : ℕ). a % 2 ^ n) (sym (shr-shr x k 1)))
    (ap₂ (λ (a b : ℕ). get_or xs a 0 / 2 ^ b % 2) e₂ e₃)
    ∙ sym (mod-pow-add (x / 2 ^ k) n 1)
    ∙ ap (λ (a : ℕ). x / 2 ^ k % 2 ^ a) (add-one n)

-- ---- a field of several bits

-- it keeps within as many digits
pub with_field_lt : (x j k n v : ℕ) → x < 2 ^ (j + (k + n)) → v < 2 ^ n → with_field x k n v < 2 ^ (j + (k + n))
unfolding with_field
with_field_lt x j k n v h l =
    let e : 2 ^ (j + (k + n)) ≡ 2 ^ j * 2 ^ n * 2 ^ k = ap (λ (a : ℕ). 2 ^ a) (let f : j + (k + n) ≡ j + n + k = omega arith in f) ∙ pow-add 2 (j + n) k ∙ ap (λ (a : ℕ). a * 2 ^ k) (pow-add 2 j n) in
    rw e (digits_lt (digits_lt (shr_lt j (k + n) h) l) (mod-lt x (pow_pos k)))

with_field-none : (x k v : ℕ) → with_field x k 0 (v % 2 ^ 0) ≡ x
unfolding with_field
with_field-none x k v = rw (add-zero, mod-one, add-zero, mul-one) (split x k)

mod_suc_pow : (y k : ℕ) → y % 2 ^ suc k % 2 ^ k ≡ y % 2 ^ k
mod_suc_pow y k = ap (λ (a : ℕ). y % 2 ^ a % 2 ^ k) (sym (one-add k)) ∙ mod-mod-pow y 1 k

-- one more digit at the low end
with_field_suc : (x k n v : ℕ) → with_bit (with_field x (suc k) n (v / 2 % 2 ^ n)) k (v % 2) ≡ with_field x k (suc n) (v % 2 ^ suc n)
unfolding with_field with_bit
with_field_suc x k n v =
    let q : ℕ = x / 2 ^ (suc k + n) in
    let y : ℕ = (q * 2 ^ n + v / 2 % 2 ^ n) * 2 ^ suc k + x % 2 ^ suc k in
    let lo : y % 2 ^ suc k ≡ x % 2 ^ suc k = low (q * 2 ^ n + v / 2 % 2 ^ n) (suc k) (mod-lt x (pow_pos (suc k))) in
    let hi : y / 2 ^ suc k ≡ q * 2 ^ n + v / 2 % 2 ^ n = high (q * 2 ^ n + v / 2 % 2 ^ n) (suc k) (mod-lt x (pow_pos (suc k))) in
    let e₁ : y % 2 ^ k ≡ x % 2 ^ k = sym (mod_suc_pow y k) ∙ ap (λ (a : ℕ). a % 2 ^ k) lo ∙ mod_suc_pow x k in
    let e₂ : v % 2 ^ suc n ≡ v / 2 % 2 ^ n * 2 + v % 2 = ap (λ (a : ℕ). v % 2 ^ a) (sym (add-one n)) ∙ mod-pow-add v n 1 in
    let e₃ : q * 2 ^ suc n ≡ q * 2 ^ n * 2 = rw (pow-suc, mul_assoc) in
    let e₄ : k + suc n ≡ suc k + n = omega arith in
    let e₅ : (q * 2 ^ n + v / 2 % 2 ^ n) * 2 + v % 2 ≡ q * 2 ^ suc n + v % 2 ^ suc n = omega arith in
    ap₂ (λ (a b : ℕ). (a * 2 + v % 2) * 2 ^ k + b) hi e₁
    ∙ ap (λ (a : ℕ). a * 2 ^ k + x % 2 ^ k) e₅
    ∙ ap (λ (a : ℕ). (x / 2 ^ a * 2 ^ suc n + v % 2 ^ suc n) * 2 ^ k + x % 2 ^ k) (sym e₄)

-- bits put within one byte are one store
pub put_bits_byte : (xs : List ℕ) (p n v : ℕ) → p % 8 + n ≤ 8 → p / 8 < length xs
    → put_bits xs p n v ≡ set xs (p / 8) (with_field (get_or xs (p / 8) 0) (8 - (p % 8 + n)) n (v % 2 ^ n))
unfolding put_bits set_bit
put_bits_byte xs p zero v h l = sym (ap (set xs (p / 8)) (with_field-none (get_or xs (p / 8) 0) (8 - (p % 8 + 0)) v) ∙ set-get_or xs (p / 8) 0)
put_bits_byte xs p (suc n) v h l =
    let i : ℕ = p / 8 in
    let x : ℕ = get_or xs i 0 in
    let k : ℕ = 8 - (p % 8 + suc n) in
    let y : ℕ = with_field x (suc k) n (v / 2 % 2 ^ n) in
    let e₁ : 8 - (p % 8 + n) ≡ suc k = omega arith in
    let e₂ : (p + n) / 8 ≡ i = omega arith in
    let e₃ : 7 - (p + n) % 8 ≡ k = omega arith in
    ap (λ (ys : List ℕ). set ys ((p + n) / 8) (with_bit (get_or ys ((p + n) / 8) 0) (7 - (p + n) % 8) (v % 2)))
    (put_bits_byte xs p n (v / 2) (omega arith) l ∙ ap (λ (a : ℕ). set xs i (with_field x a n (v / 2 % 2 ^ n))) e₁)
    ∙ ap₂ (λ (a b : ℕ). set (set xs i y) a (with_bit (get_or (set xs i y) a 0) b (v % 2))) e₂ e₃
    ∙ set-set xs i y (with_bit (get_or (set xs i y) i 0) k (v % 2))
    ∙ ap (λ (a : ℕ). set xs i (with_bit a k (v % 2))) (get_or-set_same xs i y 0 l)
    ∙ ap (set xs i) (with_field_suc x k n v)

-- put the first n of the bits, then the next m
pub put_bits-add : (xs : List ℕ) (p n m v : ℕ) → put_bits xs p (n + m) v ≡ put_bits (put_bits xs p n (v / 2 ^ m)) (p + n) m v
unfolding put_bits
put_bits-add xs p n zero v = rw (add-zero, div-one)
put_bits-add xs p n (suc m) v =
    ap (λ (a : ℕ). put_bits xs p a v) (add-suc n m)
    ∙ ap₂ (λ (ys : List ℕ) (a : ℕ). set_bit ys a (v % 2)) (put_bits-add xs p n m (v / 2)) (sym (add_assoc p n m))
    ∙ ap (λ (a : ℕ). set_bit (put_bits (put_bits xs p n a) (p + n) m (v / 2)) (p + n + m) (v % 2))
    (shr-shr v 1 m ∙ ap (λ (a : ℕ). v / 2 ^ a) (one-add m))

-- ---- a turn of a loop that goes byte by byte: the n bits from p + d on lie in one byte

pub bits_at-turn : (xs : List ℕ) (p d n : ℕ) → (p + d) % 8 + n ≤ 8
    → bits_at xs p (d + n) ≡ bits_at xs p d * 2 ^ n + get_or xs ((p + d) / 8) 0 / 2 ^ (8 - (p + d) % 8 - n) % 2 ^ n
bits_at-turn xs p d n h =
    let e : 8 - (p + d) % 8 - n ≡ 8 - ((p + d) % 8 + n) = omega arith in
    bits_at-add xs p d n ∙ ap (λ (a : ℕ). bits_at xs p d * 2 ^ n + a) (bits_at_byte xs (p + d) n h)
    ∙ ap (λ (a : ℕ). bits_at xs p d * 2 ^ n + get_or xs ((p + d) / 8) 0 / 2 ^ a % 2 ^ n) (sym e)

pub put_bits-turn : (xs : List ℕ) (p w d n v : ℕ) → d + n ≤ w → (p + d) % 8 + n ≤ 8 → (p + d) / 8 < length xs
    → set (put_bits xs p d (v / 2 ^ (w - d))) ((p + d) / 8) (with_field (get_or (put_bits xs p d (v / 2 ^ (w - d))) ((p + d) / 8) 0) (8 - (p + d) % 8 - n) n (v / 2 ^ (w - d - n) % 2 ^ n))
    ≡ put_bits xs p (d + n) (v / 2 ^ (w - (d + n)))
put_bits-turn xs p w d n v h k l =
    let Y : List ℕ = put_bits xs p d (v / 2 ^ (w - d)) in
    let e : 8 - (p + d) % 8 - n ≡ 8 - ((p + d) % 8 + n) = omega arith in
    let f : w - d - n + n ≡ w - d = omega arith in
    let g : w - d - n ≡ w - (d + n) = omega arith in
    ap (λ (a : ℕ). set Y ((p + d) / 8) (with_field (get_or Y ((p + d) / 8) 0) a n (v / 2 ^ (w - d - n) % 2 ^ n))) e
    ∙ sym (put_bits_byte Y (p + d) n (v / 2 ^ (w - d - n)) k (rw length-put_bits l))
    ∙ ap (λ (a : ℕ). put_bits (put_bits xs p d a) (p + d) n (v / 2 ^ (w - d - n))) (sym (shr-shr v (w - d - n) n ∙ ap (λ (a : ℕ). v / 2 ^ a) f))
    ∙ sym (put_bits-add xs p d n (v / 2 ^ (w - d - n)))
    ∙ ap (λ (a : ℕ). put_bits xs p (d + n) (v / 2 ^ a)) g

-- ---- steps

-- sample k of a run ends within the run
pub within : (k c w : ℕ) → k < c → k * w + w ≤ c * w
within k c w h = rw suc-mul at (mul-le-mul_right w h)

pub next-sample : (k w : ℕ) → (k + 1) * w ≡ k * w + w
next-sample k w = rw (add-one, suc-mul)
