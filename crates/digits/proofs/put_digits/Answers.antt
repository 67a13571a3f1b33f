-- One more digit, from the end on.
use Rattle.std.proofs.Common.{◌≡◌, ℕ, suc, ◌+◌, ◌-◌, ◌/◌, ◌%◌, ◌<◌, List, ◌∷◌, ◌++◌, length, set, drop, sym, ap, ap₂, ◌∙◌, arith}
use lib.ListN.{length-set}
use lib.Seq.{drop-cons, drop-set-lt, get_or-set_same, append_snoc}
use Rattle.digits.specs.Digits.{digit_bytes}
use Rattle.digits.proofs.put_digits.Goals as goal

turn : (out : List ℕ) (k left : ℕ) → k < length out
    → digit_bytes k (left / 10) ++ drop k (set out k (0x30 + left % 10)) ≡ digit_bytes (suc k) left ++ drop (suc k) out
unfolding digit_bytes
turn out k left h =
    let x : ℕ = 0x30 + left % 10 in
    let l : k < length (set out k x) = rw length-set h in
    ap (λ (z : List ℕ). digit_bytes k (left / 10) ++ z)
    (drop-cons (set out k x) k 0 l ∙ ap₂ ◌∷◌ (get_or-set_same out k x 0 h) (drop-set-lt (suc k) out k x (omega arith)))
    ∙ sym (append_snoc (digit_bytes k (left / 10)) x (drop (suc k) out))

pub loop-i-preserved : goal.loop-i-preserved
loop-i-preserved c =
    let l = c.loop-i in
    let k : ℕ = l.i - 1 in
    let e : l.i ≡ suc k = omega arith in
    turn l.out k l.left (omega arith) ∙ (rw e at l.invariant)

pub returns : goal.returns
unfolding digit_bytes
returns c =
    let e : c.loop-i.i ≡ 0 = omega arith in
    rw e at c.loop-i.invariant
