-- A word of 64 marks as the machine has it: a bit set by `|`, and the ones of a word counted.
-- Assumes nothing.
use mathlib.Core.Path.{◌≡◌, refl, sym, ap, ap₂, ◌∙◌}
use mathlib.Core.Bool.{Bool}
use mathlib.Core.List.{List}
use Prim.Native.Nat.{ℕ, zero, suc, ◌+◌, ◌-◌, ◌*◌, ◌/◌, ◌%◌, ◌^◌, ◌≤◌, ◌<◌, max}
use native.Mathlib.Nat.{mod-lt, mod-eq_of_lt, one-mul, add-zero, add_comm, lt_of_le_of_lt}
use native.Mathlib.Numerals.{add-one, one-add}
use native.Mathlib.Omega.{arith}
use lib.Arith.{digits_div, digits_mod}
use lib.Bits.{bit_and, bit_or, and_mask, and_le_l, or_block, or_step, or_zero_r}
use lib.Count.{ones, ones_cat, ones-le}
use lib.Dec.{eqb}
use lib.ListN.{get_or, set, length, take}
use lib.Pow.{pow_pos, split, shr-shr, mod-pow-add}
use Rattle.std.specs.Prelude.{◌≢◌, Option, Some, None}
use Rattle.std.specs.Option.{unwrap_or, MatchOption}
use Rattle.std.specs.List.{AllWithin, HoldsAt}
use Rattle.std.proofs.lemmas.List.{get_or-take, length-take-le}
use Rattle.bits.specs.Bits.{bit_of, with_bit}
use Rattle.bits.proofs.Shift.{one_shl}
use Rattle.marks.specs.Marks.{marked, mark, one_if, count, AllMarked}
use Rattle.marks.proofs.Marks.{count-le, count-all, count_ext, count_add}

or_one : (a : ℕ) → bit_or a 1 ≡ a / 2 * 2 + 1
or_one a =
    let e : max (a % 2) 1 ≡ 1 = omega arith in
    or_step a 1 ∙ ap₂ (λ (x y : ℕ). x * 2 + y) (or_zero_r (a / 2)) e

-- `w | 2 ^ k` sets bit k
or_bit : (w k : ℕ) → bit_or w (2 ^ k) ≡ with_bit w k 1
unfolding with_bit
or_bit w k =
    ap₂ bit_or (sym (split w k)) (sym (add-zero (1 * 2 ^ k) ∙ one-mul (2 ^ k)))
    ∙ or_block k (w / 2 ^ k) 1 (w % 2 ^ k) 0 (mod-lt w (pow_pos k)) (pow_pos k)
    ∙ ap₂ (λ (x y : ℕ). x * 2 ^ k + y)
    (or_one (w / 2 ^ k) ∙ ap (λ (x : ℕ). x * 2 + 1) (shr-shr w k 1 ∙ ap (λ (n : ℕ). w / 2 ^ n) (add-one k)))
    (or_zero_r (w % 2 ^ k))

-- the word of mark i with `1 << i % 64` set in it
pub set_word : (ms : List ℕ) (i : ℕ) → set ms (i / 64) (bit_or (get_or ms (i / 64) 0) (1 * 2 ^ (i % 64) % 2 ^ 64)) ≡ mark ms i
unfolding mark
set_word ms i =
    ap (set ms (i / 64))
    (ap (bit_or (get_or ms (i / 64) 0)) (one_shl (i % 64) (omega arith)) ∙ or_bit (get_or ms (i / 64) 0) (i % 64))

-- ---- the ones of a word

ones_bit : (b : ℕ) → b < 2 → ones b ≡ one_if (eqb b 1)
unfolding ones
ones_bit zero h = refl
ones_bit (suc zero) h = refl
ones_bit (suc (suc b)) h = absurd (omega arith)

-- the test of a word's bit
abbrev is_one : ℕ → ℕ → Bool
is_one w k = eqb (bit_of w k) 1

ones_low : (w j : ℕ) → ones (w % 2 ^ j) ≡ count j (is_one w)
unfolding count
ones_low w zero = ap ones (let e : w % 1 ≡ 0 = omega arith in e) ∙ ones_bit 0 (omega arith)
ones_low w (suc j) =
    ap (λ (n : ℕ). ones (w % 2 ^ n)) (sym (one-add j)) ∙ ap ones (mod-pow-add w 1 j)
    ∙ ones_cat j (bit_of w j) (w % 2 ^ j) (mod-lt w (pow_pos j))
    ∙ ap₂ ◌+◌ (ones_bit (bit_of w j) (omega arith)) (ones_low w j)
    ∙ add_comm _ _

-- the marks of k whole words, and then the ones among the j low bits of the next
pub count_word : (ms : List ℕ) (k j : ℕ) → j ≤ 64 → count (k * 64) (marked ms) + ones (get_or ms k 0 % 2 ^ j) ≡ count (k * 64 + j) (marked ms)
unfolding marked
count_word ms k j h =
    ap (λ (x : ℕ). count (k * 64) (marked ms) + x)
    (ones_low (get_or ms k 0) j ∙ count_ext j (is_one (get_or ms k 0)) (λ (i : ℕ). marked ms (k * 64 + i)) inside)
    ∙ sym (count_add (k * 64) j (marked ms))
  where
    inside : (i : ℕ) → i < j → is_one (get_or ms k 0) i ≡ marked ms (k * 64 + i)
    inside i l =
        let b : i < 64 = omega arith in
        rw (digits_div k b, digits_mod k b)

-- a turn of the loop: a whole word more
pub next_word : (ms : List ℕ) (k : ℕ) → get_or ms k 0 < 2 ^ 64 → count (k * 64) (marked ms) + ones (get_or ms k 0) ≡ count ((k + 1) * 64) (marked ms)
next_word ms k h =
    ap (λ (w : ℕ). count (k * 64) (marked ms) + ones w) (sym (mod-eq_of_lt h))
    ∙ count_word ms k 64 (omega arith)
    ∙ ap (λ (n : ℕ). count n (marked ms)) (omega arith)

-- a word that has all its marks
pub full_word : (ms : List ℕ) (k : ℕ) → get_or ms k 0 < 2 ^ 64 → ones (get_or ms k 0) ≡ 64 → count (k * 64) (marked ms) ≡ k * 64 → count ((k + 1) * 64) (marked ms) ≡ (k + 1) * 64
full_word ms k l o h = sym (next_word ms k l) ∙ omega arith

-- a word has at most 64 ones, whatever the mask
pub masked-le : (w m : ℕ) → w < 2 ^ 64 → ones (bit_and w m) ≤ 64
masked-le w m h = ones-le 64 (bit_and w m) (lt_of_le_of_lt (and_le_l w m) h)

-- the last word, masked
pub last_word :
    (ms : List ℕ) (n : ℕ) →
    count (n / 64 * 64) (marked ms) + ones (bit_and (get_or ms (n / 64) 0) (1 * 2 ^ (n % 64) % 2 ^ 64 - 1)) ≡ count n (marked ms)
last_word ms n =
    ap (λ (x : ℕ). count (n / 64 * 64) (marked ms) + ones (bit_and (get_or ms (n / 64) 0) (x - 1))) (one_shl (n % 64) (omega arith))
    ∙ ap (λ (x : ℕ). count (n / 64 * 64) (marked ms) + ones x) (and_mask (get_or ms (n / 64) 0) (n % 64))
    ∙ count_word ms (n / 64) (n % 64) (omega arith)
    ∙ ap (λ (k : ℕ). count k (marked ms)) (omega arith)

-- so it counts no more than n
pub last-le :
    (ms : List ℕ) (n : ℕ) →
    count (n / 64 * 64) (marked ms) + ones (bit_and (get_or ms (n / 64) 0) (1 * 2 ^ (n % 64) % 2 ^ 64 - 1)) ≤ n
last-le ms n = rw (last_word ms n) (count-le n (marked ms))

-- words that are full have all their marks
full_words :
    (ms : List ℕ) (k : ℕ) → ((i : ℕ) → get_or ms i 0 < 2 ^ 64) → ((i : ℕ) → i < k → ones (get_or ms i 0) ≡ 64) →
    count (k * 64) (marked ms) ≡ k * 64
unfolding count
full_words ms zero b f = refl
full_words ms (suc k) b f = rw (← add-one k) (full_word ms k (b k) (f k (omega arith)) (full_words ms k b (λ i l. f i (omega arith))))

-- of the first n words those before the first that is not full, or all, have all their marks
pub found_full :
    (ms : List ℕ) (n : ℕ) (found : Option ℕ) → n ≤ length ms → ((i : ℕ) → get_or ms i 0 < 2 ^ 64) →
    MatchOption found (AllWithin (λ x. ones x ≡ 64) (take n ms) 0 (length (take n ms)))
    (λ i. (i < length (take n ms)) × HoldsAt (λ x. ones x ≢ 64) (take n ms) i × AllWithin (λ x. ones x ≡ 64) (take n ms) 0 i) →
    (unwrap_or found n ≤ n) × AllMarked ms (unwrap_or found n * 64)
found_full ms n None l b h =
    let t = length-take-le n ms l in (
      omega arith,
      count-all _ _ (full_words ms n b (λ i k. rw (get_or-take n ms i 0 k) at (h i 0 (omega arith) (omega (arith, t))))),
    )
found_full ms n (Some i) l b h =
    let t = length-take-le n ms l in (
      omega (arith, t, h.0),
      count-all _ _ (full_words ms i b (λ j k. rw (get_or-take n ms j 0 (omega (arith, t, h.0))) at (h.2 j 0 (omega arith) k))),
    )
