-- Bits of the front of a list, of a list with zeros put in it, and what stands past what was put.
-- Assumes nothing.
use Prim.Native.Nat.{ℕ, zero, suc, ◌+◌, ◌-◌, ◌*◌, ◌/◌, ◌%◌, ◌^◌, ◌≤◌, ◌<◌}
use mathlib.Core.Path.{◌≡◌, refl, sym, ap, ◌∙◌}
use mathlib.Core.Logic.{◌⊎◌, inl, inr, ⊎_elim}
use mathlib.Core.List.{List, ◌++◌}
use native.Mathlib.Omega.{arith}
use native.Mathlib.Decide.{dec_lt}
use native.Mathlib.Nat.{zero-div}
use lib.ListN.{length, get_or, take, drop, replicate, length-replicate, get_or-replicate, get_or-append}
use lib.Seq.{get_or-take, drop-drop, drop-set-lt}
use Rattle.bits.specs.Bits.{bit_of, bit_at, set_bit, put_bits}
use Rattle.common.specs.Over.{over}
use Rattle.common.proofs.Over.{drop-over, get_or-over_in, get_or-over-before, get_or-over-after}

-- ---- the front of a list

-- a bit is known by its byte
same_byte : (xs ys : List ℕ) (p : ℕ) → get_or xs (p / 8) 0 ≡ get_or ys (p / 8) 0 → bit_at xs p ≡ bit_at ys p
unfolding bit_at
same_byte xs ys p e = ap (λ (x : ℕ). bit_of x (7 - p % 8)) e

pub bit_at-take : (n : ℕ) (xs : List ℕ) (p : ℕ) → p / 8 < n → bit_at (take n xs) p ≡ bit_at xs p
bit_at-take n xs p h = same_byte (take n xs) xs p (get_or-take n xs (p / 8) 0 h)

pub bit_at-left : (xs rest : List ℕ) (p : ℕ) → p / 8 < length xs → bit_at (xs ++ rest) p ≡ bit_at xs p
bit_at-left xs rest p h = same_byte (xs ++ rest) xs p (get_or-append xs rest 0 (p / 8) h)

-- ---- t zeros put from index o on

pub bit_zero : (k : ℕ) → bit_of 0 k ≡ 0
bit_zero k = ap (λ (x : ℕ). x % 2) (zero-div (2 ^ k))

module _ (xs : List ℕ) (o t : ℕ) (fits : o + t ≤ length xs) where
  size : length (replicate {A = ℕ} t 0) ≡ t
  size = length-replicate t 0

  pub zeros_in : (p : ℕ) → o ≤ p / 8 → p / 8 < o + t → bit_at (over xs o (replicate t 0)) p ≡ 0
  unfolding bit_at
  zeros_in p l h =
      let e : p / 8 ≡ o + (p / 8 - o) = omega arith in
      ap (λ (x : ℕ). bit_of x (7 - p % 8))
      (ap (λ (i : ℕ). get_or (over xs o (replicate t 0)) i 0) e
      ∙ get_or-over_in xs o (replicate t 0) (p / 8 - o) 0 (omega (arith, size)) (omega (arith, size))
      ∙ get_or-replicate t (p / 8 - o) 0 0 (omega arith))
      ∙ bit_zero (7 - p % 8)

  pub zeros-out : (p : ℕ) → (p / 8 < o) ⊎ (o + t ≤ p / 8) → bit_at (over xs o (replicate t 0)) p ≡ bit_at xs p
  zeros-out p h =
      same_byte (over xs o (replicate t 0)) xs p
      (⊎_elim (λ l. get_or-over-before xs o (replicate t 0) (p / 8) 0 (omega arith) l)
      (λ l. get_or-over-after xs o (replicate t 0) (p / 8) 0 (omega (arith, size)) (omega (arith, size))) h)

  -- a zero bit stays zero wherever it is
  pub zeros_keep : (p : ℕ) → bit_at xs p ≡ 0 → bit_at (over xs o (replicate t 0)) p ≡ 0
  zeros_keep p z = go (dec_lt (p / 8) o) (dec_lt (p / 8) (o + t))
    where
      go : Dec (p / 8 < o) → Dec (p / 8 < o + t) → bit_at (over xs o (replicate t 0)) p ≡ 0
      go (yes l) d = zeros-out p (inl l) ∙ z
      go (no l) (yes h) = zeros_in p (omega arith) h
      go (no l) (no h) = zeros-out p (inr (omega arith)) ∙ z

-- ---- past what was put

pub drop_past : (k : ℕ) (xs : List ℕ) (o : ℕ) (vs : List ℕ) → o + length vs ≤ k → o + length vs ≤ length xs → drop k (over xs o vs) ≡ drop k xs
drop_past k xs o vs h l =
    let e : o + length vs + (k - (o + length vs)) ≡ k = omega arith in
    let n : ℕ = k - (o + length vs) in
    ap (λ (m : ℕ). drop m (over xs o vs)) (sym e) ∙ sym (drop-drop n (o + length vs) (over xs o vs))
    ∙ ap (drop n) (drop-over xs o vs l)
    ∙ drop-drop n (o + length vs) xs ∙ ap (λ (m : ℕ). drop m xs) e

pub drop-put_bits : (k : ℕ) (xs : List ℕ) (p n v : ℕ) → p + n ≤ k * 8 → drop k (put_bits xs p n v) ≡ drop k xs
unfolding put_bits set_bit
drop-put_bits k xs p zero v h = refl
drop-put_bits k xs p (suc n) v h =
    drop-set-lt k (put_bits xs p n (v / 2)) ((p + n) / 8) _ (omega arith) ∙ drop-put_bits k xs p n (v / 2) (omega arith)
