-- The digits from index i on are put, and what is left of the number gives the others.
use Rattle.std.proofs.Common.{◌≡◌, ◌++◌, length, drop}
use Rattle.digits.specs.Digits.{digit_bytes}
use Rattle.digits.proofs.put_digits.Given as goal

abbrev pub invariant-loop-i : goal.invariant-loop-i
invariant-loop-i l = digit_bytes l.i l.left ++ drop l.i l.out ≡ digit_bytes (length l.fn.out) l.number
