-- Laws of big-endian bytes: putting and reading bits at whole bytes is putting and reading bytes.
-- Assumes nothing.
use mathlib.Core.Path.{◌≡◌, refl, sym, ap, ap₂, ◌∙◌, subst}
use mathlib.Core.List.{List, [], ◌∷◌, ◌++◌}
use Prim.Native.Nat.{ℕ, zero, suc, ◌+◌, ◌-◌, ◌*◌, ◌/◌, ◌%◌, ◌^◌, ◌≤◌, ◌<◌}
use native.Mathlib.Numerals.{add-one}
use native.Mathlib.Decide.{ℕ_discrete, dec_lt}
use native.Mathlib.Omega.{arith}
use lib.Seq.{get_or-set_same, get_or-set_other, set_out}
use lib.ListN.{length, get_or, set, length-append}
use Rattle.bits.specs.Bits.{bits_at, with_bit, with_field, set_bit, put_bits, Bytes, be_at, be_bytes}
use Rattle.common.specs.Over.{over}
use Rattle.bits.proofs.Bits.{with_field_lt, put_bits-add, put_bits_byte, bits_at_lt, bits_at-add, bits_at_byte}
use Rattle.common.proofs.Over.{over_none, set-over, length_over, get_or-over-after}

pub length-be_bytes : (s v : ℕ) → length (be_bytes s v) ≡ s
unfolding be_bytes
length-be_bytes zero v = refl
length-be_bytes (suc s) v = length-append (be_bytes s (v / 256)) (v % 256 ∷ []) ∙ rw (length-be_bytes s (v / 256)) (add-one s)

pub be_bytes-next : (s v : ℕ) → be_bytes (s + 1) v ≡ be_bytes s (v / 256) ++ (v % 256 ∷ [])
unfolding be_bytes
be_bytes-next s v = rw add-one

-- the whole byte
with_field_byte : (x v : ℕ) → x < 256 → v < 256 → with_field x 0 8 v ≡ v
unfolding with_field
with_field_byte x v h l = omega arith

-- putting bits at whole bytes is putting bytes
pub put_bits-bytes : (d : List ℕ) (o s v : ℕ) → Bytes d → o + s ≤ length d → put_bits d (8 * o) (8 * s) v ≡ over d o (be_bytes s v)
unfolding be_bytes put_bits
put_bits-bytes d o zero v b h = sym (over_none d o)
put_bits-bytes d o (suc s) v b h =
    let L : length (be_bytes s (v / 256)) ≡ s = length-be_bytes s (v / 256) in
    let D : List ℕ = over d o (be_bytes s (v / 256)) in
    let hl : o + length (be_bytes s (v / 256)) ≤ length d = omega arith in
    let e : 8 * suc s ≡ 8 * s + 8 = omega arith in
    let q : (8 * o + 8 * s) / 8 ≡ o + s = omega arith in
    let r : (8 * o + 8 * s) % 8 ≡ 0 = omega arith in
    let lD : length D ≡ length d = length_over d o (be_bytes s (v / 256)) hl in
    let x : get_or D (o + s) 0 ≡ get_or d (o + s) 0 = get_or-over-after d o (be_bytes s (v / 256)) (o + s) 0 hl (omega arith) in
    let x< : get_or D (o + s) 0 < 256 = rw x (b (o + s)) in
    ap (λ (a : ℕ). put_bits d (8 * o) a v) e ∙ put_bits-add d (8 * o) (8 * s) 8 v
    ∙ ap (λ (a : List ℕ). put_bits a (8 * o + 8 * s) 8 v) (put_bits-bytes d o s (v / 256) b (omega arith))
    ∙ put_bits_byte D (8 * o + 8 * s) 8 v (omega arith) (omega arith)
    ∙ ap₂ (λ (a c : ℕ). set D a (with_field (get_or D a 0) (8 - (c + 8)) 8 (v % 256))) q r
    ∙ ap (set D (o + s)) (with_field_byte (get_or D (o + s) 0) (v % 256) x< (omega arith))
    ∙ ap (λ (a : ℕ). set D (o + a) (v % 256)) (sym L)
    ∙ set-over d o (be_bytes s (v / 256)) (v % 256) (omega arith)

-- reading bits at whole bytes is reading a big-endian number
pub bits_at-bytes : (xs : List ℕ) (k m : ℕ) → Bytes xs → bits_at xs (8 * k) (8 * m) ≡ be_at xs k m
unfolding be_at bits_at
bits_at-bytes xs k zero h = refl
bits_at-bytes xs k (suc m) h =
    let e : 8 * suc m ≡ 8 * m + 8 = omega arith in
    let q : (8 * k + 8 * m) / 8 ≡ k + m = omega arith in
    let r : (8 * k + 8 * m) % 8 ≡ 0 = omega arith in
    ap (bits_at xs (8 * k)) e ∙ bits_at-add xs (8 * k) (8 * m) 8
    ∙ ap₂ (λ (a b : ℕ). a * 256 + b) (bits_at-bytes xs k m h)
    (bits_at_byte xs (8 * k + 8 * m) 8 (omega arith)
    ∙ ap₂ (λ (a b : ℕ). get_or xs a 0 / 2 ^ (8 - (b + 8)) % 256) q r
    ∙ (let l : get_or xs (k + m) 0 < 256 = h (k + m) in omega arith))

-- a number in m bytes
pub be_at_lt : (xs : List ℕ) (k m : ℕ) → Bytes xs → be_at xs k m < 2 ^ (8 * m)
be_at_lt xs k m h = subst (λ (x : ℕ). x < 2 ^ (8 * m)) (bits_at-bytes xs k m h) (bits_at_lt xs (8 * k) (8 * m))

-- ---- bytes stay bytes where bits are put

with_bit_lt : (x k v : ℕ) → x < 256 → k < 8 → v < 2 → with_bit x k v < 256
unfolding with_bit with_field
with_bit_lt x k v hx hk hv =
    let e : 7 - k + (k + 1) ≡ 8 = omega arith in
    let f : with_field x k 1 v < 2 ^ (7 - k + (k + 1)) = with_field_lt x (7 - k) k 1 v (rw e hx) hv in
    rw (e, add-one) at f

set_bit-keeps : (xs : List ℕ) (p v : ℕ) → v < 2 → Bytes xs → Bytes (set_bit xs p v)
unfolding set_bit
set_bit-keeps xs p v hv b i = go (ℕ_discrete i (p / 8)) (dec_lt (p / 8) (length xs))
  where
    x : ℕ
    x = with_bit (get_or xs (p / 8) 0) (7 - p % 8) v

    go : Dec (i ≡ p / 8) → Dec (p / 8 < length xs) → get_or (set xs (p / 8) x) i 0 < 256
    go (yes e) (yes l) = rw (e, get_or-set_same) (with_bit_lt (get_or xs (p / 8) 0) (7 - p % 8) v (b (p / 8)) (omega arith) hv)
    go (yes e) (no l) = rw (set_out xs (p / 8) x (omega arith)) (b i)
    go (no e) d = rw get_or-set_other (b i)

pub put_bits-keeps : (xs : List ℕ) (p n v : ℕ) → Bytes xs → Bytes (put_bits xs p n v)
unfolding put_bits
put_bits-keeps xs p zero v b = b
put_bits-keeps xs p (suc n) v b = set_bit-keeps (put_bits xs p n (v / 2)) (p + n) (v % 2) (omega arith) (put_bits-keeps xs p n (v / 2) b)
