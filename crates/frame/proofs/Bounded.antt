-- Elements that stay below 2 ^ w, as bytes and words do, and are then known by their w bits.
-- Assumes nothing.
use Prim.Native.Nat.{ℕ, zero, suc, ◌+◌, ◌-◌, ◌*◌, ◌/◌, ◌%◌, ◌^◌, ◌≤◌, ◌<◌}
use mathlib.Core.Path.{◌≡◌, sym, ap, ◌∙◌, subst}
use mathlib.Core.List.{List, ◌++◌}
use native.Mathlib.Omega.{arith}
use native.Mathlib.Decide.{ℕ_discrete, dec_lt}
use native.Mathlib.Nat.{pow-suc}
use native.Mathlib.Numerals.{add-one}
use lib.ListN.{length, get_or, set, take, replicate, length-replicate, get_or-replicate, get_or-append}
use lib.Pow.{pow_pos, shr-shr}
use lib.Seq.{get_or-take, get_or-set_same, get_or-set_other, set_out}
use Rattle.bits.specs.Bits.{bit_of, with_bit, with_field, set_bit, put_bits}
use Rattle.common.specs.Over.{over}
use Rattle.bits.proofs.Bits.{with_field_lt}
use Rattle.common.proofs.Over.{get_or-over_in, get_or-over-before, get_or-over-after}
use Rattle.grid.specs.declared.Grid.{Grid}
use Rattle.grid.specs.Sizes.{band_bytes, image_bytes, block_index, byte_multiple}
use Rattle.grid.specs.Layout.{run_byte, Block}
use Rattle.grid.proofs.SamplePlaces.{run_inside}
use Rattle.marks.specs.Marks.{mark}
use Rattle.calls.specs.Writes.{store_block}
use Rattle.frame.proofs.StoredBits.{store_keep}

-- the first n elements are below 2 ^ w
abbrev pub Below : ℕ → ℕ → List ℕ → Type 0
Below w n xs = (i : ℕ) → i < n → get_or xs i 0 < 2 ^ w

-- ---- known by their bits

pub same_bits : (w x y : ℕ) → x < 2 ^ w → y < 2 ^ w → ((k : ℕ) → k < w → bit_of x k ≡ bit_of y k) → x ≡ y
same_bits zero x y h l e = omega arith
same_bits (suc w) x y h l e =
    let p : 2 ^ suc w ≡ 2 ^ w * 2 = pow-suc 2 w in
    let half : x / 2 ≡ y / 2
    = same_bits w (x / 2) (y / 2) (omega arith) (omega arith)
    (λ k m. shifted x k ∙ e (suc k) (omega arith) ∙ sym (shifted y k)) in
    let low : x / 2 ^ 0 % 2 ≡ y / 2 ^ 0 % 2 = e 0 (omega arith) in
    omega arith
  where
    shifted : (z k : ℕ) → bit_of (z / 2) k ≡ bit_of z (suc k)
    shifted z k =
        let q : 1 + k ≡ suc k = omega arith in
        ap (λ (v : ℕ). v % 2) (shr-shr z 1 k ∙ ap (λ (j : ℕ). z / 2 ^ j) q)

-- ---- stay below

with_bit-below : (w x k v : ℕ) → x < 2 ^ w → k < w → v < 2 → with_bit x k v < 2 ^ w
unfolding with_bit with_field
with_bit-below w x k v h l hv =
    let e : w - 1 - k + (k + 1) ≡ w = omega arith in
    subst (λ (a : ℕ). (x / 2 ^ a * 2 + v) * 2 ^ k + x % 2 ^ k < 2 ^ w) (add-one k)
    (subst (λ (a : ℕ). with_field x k 1 v < 2 ^ a) e (with_field_lt x (w - 1 - k) k 1 v (rw e h) hv))

set_below : (w n : ℕ) (xs : List ℕ) (k v : ℕ) → Below w n xs → (k < n → v < 2 ^ w) → Below w n (set xs k v)
set_below w n xs k v s h i l = go (ℕ_discrete i k) (dec_lt k (length xs))
  where
    go : Dec (i ≡ k) → Dec (k < length xs) → get_or (set xs k v) i 0 < 2 ^ w
    go (yes e) (yes m) = rw (e, get_or-set_same xs k v 0 m) (h (omega arith))
    go (yes e) (no m) = rw (set_out xs k v (omega arith)) (s i l)
    go (no e) d = rw (get_or-set_other xs k i v 0 e) (s i l)

pub mark-below : (n : ℕ) (ms : List ℕ) (i : ℕ) → Below 64 n ms → Below 64 n (mark ms i)
unfolding mark
mark-below n ms i s =
    set_below 64 n ms (i / 64) _ s (λ l. with_bit-below 64 _ (i % 64) 1 (s _ l) (omega arith) (omega arith))

pub put-below : (n : ℕ) (xs : List ℕ) (p w v : ℕ) → Below 8 n xs → Below 8 n (put_bits xs p w v)
unfolding put_bits set_bit
put-below n xs p zero v s = s
put-below n xs p (suc w) v s =
    let r : Below 8 n (put_bits xs p w (v / 2)) = put-below n xs p w (v / 2) s in
    set_below 8 n (put_bits xs p w (v / 2)) ((p + w) / 8) _ r
    (λ l. with_bit-below 8 _ (7 - (p + w) % 8) (v % 2) (r _ l) (omega arith) (omega arith))

-- t zeros put from index o on: below it elements are as they were, among the zeros they need not be
module _ (w n : ℕ) (xs : List ℕ) (o t : ℕ) (fits : o + t ≤ length xs)
    (others : (i : ℕ) → i < n → (o ≤ i → o + t ≤ i) → get_or xs i 0 < 2 ^ w) where
  size : length (replicate {A = ℕ} t 0) ≡ t
  size = length-replicate t 0

  pub zeros-below : Below w n (over xs o (replicate t 0))
  zeros-below i l = go (dec_lt i o) (dec_lt i (o + t))
    where
      go : Dec (i < o) → Dec (i < o + t) → get_or (over xs o (replicate t 0)) i 0 < 2 ^ w
      go (yes a) d = rw (get_or-over-before xs o (replicate t 0) i 0 (omega arith) a) (others i l (λ b. absurd (omega arith)))
      go (no a) (yes b) =
          let e : o + (i - o) ≡ i = omega arith in
          subst (λ (x : ℕ). x < 2 ^ w)
          (sym (get_or-replicate {A = ℕ} t (i - o) 0 0 (omega arith))
          ∙ sym (get_or-over_in xs o (replicate t 0) (i - o) 0 (omega (arith, size)) (omega (arith, size)))
          ∙ ap (λ (j : ℕ). get_or (over xs o (replicate t 0)) j 0) e) (pow_pos w)
      go (no a) (no b) =
          rw (get_or-over-after xs o (replicate t 0) i 0 (omega (arith, size)) (omega (arith, size)))
          (others i l (λ c. omega arith))

pub left_below : (w n : ℕ) (xs rest : List ℕ) → n ≤ length xs → Below w n xs → Below w n (xs ++ rest)
left_below w n xs rest h s i l = rw (get_or-append xs rest 0 i (omega arith)) (s i l)

pub take_below : (w n m : ℕ) (xs : List ℕ) → n ≤ m → Below w n xs → Below w n (take m xs)
take_below w n m xs h s i l = rw (get_or-take m xs i 0 (omega arith)) (s i l)

pub stored_below : (g : Grid) (row column : ℕ) → Block g row column → (dat image : List ℕ) → image_bytes g ≤ length image
    → Below 8 (image_bytes g) image → Below 8 (image_bytes g) (store_block g row column dat image)
stored_below g row column t dat image fits s =
    store_keep g row column t dat image fits (Below 8 (image_bytes g))
    (λ b r c sm y q. put-below (image_bytes g) y _ _ _ q)
    (λ k hk y h q. zeros-below 8 (image_bytes g) y (run_byte g.imode g (block_index g row column) k) (band_bytes g)
    (omega (arith, run_inside g row column k t hk)) (λ i l d. q i l))
    (byte_multiple g) s
