-- One more digit, after at most eight.
use Rattle.std.proofs.Common.{◌≡◌, ℕ, ◌+◌, ◌^◌, ◌≤◌, ◌<◌, true, List, drop, length, get_or, sym, ap, ◌∙◌, add-one, arith, lit<}
use Rattle.std.proofs.Math.Nat.{pow-le-pow_right, pow-suc, lt_of_lt_of_le}
use lib.Seq.{drop-length}
use Rattle.digits.specs.Digits.{are_digits, with_digits}
use Rattle.digits.proofs.Digits.{Digit, digit_at, number-go}
use Rattle.digits.proofs.number_of.Goals as goal

-- a digit, and the number of at most eight before it
record Turn (n x : ℕ) (rest : List ℕ) : Type 0 where
  digit : Digit x rest
  small : n < 100_000_000

turn : (xs : List ℕ) (n j : ℕ) → length xs ≤ 9 → j < length xs → are_digits (drop j xs) ≡ true → n < 10 ^ j → Turn n (get_or xs j 0) (drop (j + 1) xs)
turn xs n j most h d s =
    let top : j ≤ 8 = omega arith in
    record { digit = digit_at xs j h d; small = lt_of_lt_of_le s (pow-le-pow_right (lit< tt) top) }

pub overflow_mul-number : goal.overflow_mul-number
overflow_mul-number c =
    let i = c.loop-byte.invariant in
    omega (arith, turn _ _ _ c.requires.0 c.loop-byte-test.true i.digits i.small)

pub overflow_sub-number : goal.overflow_sub-number
overflow_sub-number c =
    let i = c.loop-byte.invariant in
    (turn _ _ _ c.requires.0 c.loop-byte-test.true i.digits i.small).digit.low

pub overflow_add-number : goal.overflow_add-number
overflow_add-number c =
    let i = c.loop-byte.invariant in
    omega (arith, turn _ _ _ c.requires.0 c.loop-byte-test.true i.digits i.small)

pub loop-byte-preserved : goal.loop-byte-preserved
loop-byte-preserved c =
    let l = c.loop-byte in
    let i = l.invariant in
    let t = turn _ _ _ c.requires.0 c.loop-byte-test.true i.digits i.small in
    record {
      number = number-go l.number c.args.bytes.now l.byte-index c.loop-byte-test.true ∙ i.number;
      digits = t.digit.rest;
      small = rw (add-one, pow-suc) (omega (arith, t, i.small));
    }

pub returns : goal.returns
unfolding with_digits
returns c =
    let xs : List ℕ = c.args.bytes.now in
    let e : c.loop-byte.byte-index ≡ length xs = omega arith in
    ap (with_digits c.loop-byte.number) (sym (drop-length xs) ∙ ap (λ (n : ℕ). drop n xs) (sym e)) ∙ c.loop-byte.invariant.number
