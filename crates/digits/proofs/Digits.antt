-- Laws of digits: a number that fits comes back from its digits.
-- Assumes nothing.
use mathlib.Core.Path.{◌≡◌, refl, ap, ap₂, ◌∙◌}
use mathlib.Core.Bool.{Bool, true, false, ◌&&◌}
use mathlib.Core.List.{List, [], ◌∷◌, ◌++◌}
use Prim.Native.Nat.{ℕ, zero, suc, ◌+◌, ◌-◌, ◌*◌, ◌/◌, ◌%◌, ◌^◌, ◌≤◌, ◌<◌}
use native.Mathlib.Nat.{pow-suc, pow-zero, mul_assoc, mul_comm, mul-le-mul_right}
use native.Mathlib.Numerals.{add-one}
use native.Mathlib.Omega.{arith}
use borrow.Author.Tests.{le-leb}
use lib.ListN.{length, get_or, drop, length-append}
use lib.Seq.{drop-cons}
use lib.Dec.{leb}
use Rattle.std.specs.Char.{is_ascii_digit}
use Rattle.std.specs.List.{list_all}
use Rattle.common.specs.Tests.{every, within}
use Rattle.digits.specs.Digits.{is_digit, are_digits, with_digits, number_of, digit_bytes, DigitsComeBack}
use Rattle.common.proofs.Tests.{every-at, within-facts}

pub length-digit_bytes : (s n : ℕ) → length (digit_bytes s n) ≡ s
unfolding digit_bytes
length-digit_bytes zero n = refl
length-digit_bytes (suc s) n =
    length-append (digit_bytes s (n / 10)) ((0x30 + n % 10) ∷ []) ∙ rw (length-digit_bytes s (n / 10)) (add-one s)

-- ---- tests

-- a byte of digits, and the rest of them
pub record Digit (x : ℕ) (xs : List ℕ) : Type 0 where
  pub low : 0x30 ≤ x
  pub high : x ≤ 0x39
  pub rest : are_digits xs ≡ true

pub digit-first : (x : ℕ) (xs : List ℕ) → are_digits (x ∷ xs) ≡ true → Digit x xs
unfolding are_digits
digit-first x xs e =
    let a = every-at _ e in
    let w = within-facts 0x30 0x39 x (a 0) in
    record { low = w.low; high = w.high; rest = a 1 }

is_digit_lem : (x : ℕ) → 0x30 ≤ x → x ≤ 0x39 → is_digit x ≡ true
unfolding within every
is_digit_lem x l h = rw (le-leb 0x30 x l, le-leb x 0x39 h)

pub digits_append : (xs ys : List ℕ) → are_digits xs ≡ true → are_digits ys ≡ true → are_digits (xs ++ ys) ≡ true
unfolding are_digits every
digits_append [] ys e f = f
digits_append (x ∷ xs) ys e f =
    let a = every-at (is_digit x ∷ are_digits xs ∷ []) e in
    let first : is_digit x ≡ true = a 0 in
    let rest : are_digits (xs ++ ys) ≡ true = digits_append xs ys (a 1) f in
    rw (first, rest)

pub digits_are : (s n : ℕ) → are_digits (digit_bytes s n) ≡ true
unfolding digit_bytes are_digits every
digits_are zero n = refl
digits_are (suc s) n =
    digits_append (digit_bytes s (n / 10)) ((0x30 + n % 10) ∷ []) (digits_are s (n / 10))
    (rw (is_digit_lem (0x30 + n % 10) (omega arith) (omega arith)))

every_of : (a b : Bool) → (a && b) ≡ every (a ∷ b ∷ [])
unfolding every
every_of true true = refl
every_of true false = refl
every_of false b = refl

-- the library's test of each byte
pub all-are_digits : (xs : List ℕ) → list_all is_ascii_digit xs ≡ are_digits xs
unfolding are_digits within
all-are_digits [] = refl
all-are_digits (x ∷ xs) = ap₂ ◌&&◌ (every_of (leb 0x30 x) (leb x 0x39)) (all-are_digits xs) ∙ every_of (is_digit x) (are_digits xs)

pub digit_at : (xs : List ℕ) (j : ℕ) → j < length xs → are_digits (drop j xs) ≡ true → Digit (get_or xs j 0) (drop (j + 1) xs)
digit_at xs j h e = rw add-one (digit-first _ _ (rw (drop-cons xs j 0 h) at e))

-- ---- numbers

-- one more digit
pub number-go : (n : ℕ) (xs : List ℕ) (j : ℕ) → j < length xs → with_digits (n * 10 + (get_or xs j 0 - 0x30)) (drop (j + 1) xs) ≡ with_digits n (drop j xs)
unfolding with_digits
number-go n xs j h = rw (add-one, drop-cons xs j 0 h)

with_digits-append : (n : ℕ) (xs ys : List ℕ) → with_digits n (xs ++ ys) ≡ with_digits (with_digits n xs) ys
unfolding with_digits
with_digits-append n [] ys = refl
with_digits-append n (x ∷ xs) ys = with_digits-append (n * 10 + (x - 0x30)) xs ys

-- a number of so many digits comes back from them
pub number_of_digits : (s n : ℕ) → n < 10 ^ s → number_of (digit_bytes s n) ≡ n
unfolding digit_bytes with_digits
number_of_digits zero n h = omega (arith, pow-zero 10)
number_of_digits (suc s) n h =
    let e : 10 ^ suc s ≡ 10 ^ s * 10 = pow-suc 10 s in
    let q : n / 10 < 10 ^ s = omega arith in
    with_digits-append 0 (digit_bytes s (n / 10)) ((0x30 + n % 10) ∷ [])
    ∙ rw (number_of_digits s (n / 10) q) (omega arith)

pub digits_come_back : DigitsComeBack
digits_come_back size n h = (length-digit_bytes size n, digits_are size n, number_of_digits size n h)

-- digits after a number give one below the next number with as many zeros
with_digits_lt : (n : ℕ) (xs : List ℕ) → are_digits xs ≡ true → with_digits n xs < (n + 1) * 10 ^ length xs
unfolding with_digits
with_digits_lt n [] e = omega (arith, pow-zero 10)
with_digits_lt n (x ∷ xs) e =
    let d = digit-first x xs e in
    let h : with_digits (n * 10 + (x - 0x30)) xs < (n * 10 + (x - 0x30) + 1) * 10 ^ length xs = with_digits_lt (n * 10 + (x - 0x30)) xs d.rest in
    let p : ℕ = 10 ^ length xs in
    let k : (n * 10 + (x - 0x30) + 1) * p ≤ (n + 1) * 10 * p = mul-le-mul_right p (omega (arith, d.low, d.high)) in
    let e : (n + 1) * 10 * p ≡ (n + 1) * (p * 10) = mul_assoc (n + 1) 10 p ∙ ap (λ (a : ℕ). (n + 1) * a) (mul_comm 10 p) in
    rw (pow-suc 10 (length xs)) (omega (arith, h, k, e))

pub number_lt : (xs : List ℕ) → are_digits xs ≡ true → number_of xs < 10 ^ length xs
number_lt xs e = omega (arith, with_digits_lt 0 xs e)
