-- What the shifts and masks of `merge` compute is `with_field`.
use Rattle.std.proofs.Common.{◌≡◌, ap, ap₂, ◌∙◌, ℕ, ◌+◌, ◌*◌, ◌/◌, ◌%◌, ◌-◌, ◌^◌, ◌<◌, ◌≤◌, bit_and, bit_or, arith}
use Rattle.std.proofs.Math.Nat.{mod-lt, lt_of_le_of_lt}
use lib.Bits.{and_mask}
use lib.Arith.{digits_lt}
use lib.Pow.{pow_pos, pow-add, shr_le}
use Rattle.bits.specs.Bits.{with_field}
use Rattle.bits.proofs.Bits.{with_field_lt}
use Rattle.bits.proofs.Shift.{one_shl, shl_or}
use Rattle.bits.proofs.merge.Goals as goal

-- what the code computes
abbrev computed : ℕ → ℕ → ℕ → ℕ → ℕ
computed x k n v = bit_or (bit_or (x / 2 ^ (k + n) * 2 ^ n % 2 ^ 64) v * 2 ^ k % 2 ^ 64) (bit_and x (1 * 2 ^ k % 2 ^ 64 - 1))

is_field : (x k n v : ℕ) → x < 2 ^ 8 → k + n ≤ 8 → v < 2 ^ n → computed x k n v ≡ with_field x k n v
unfolding with_field
is_field x k n v hx hk hv =
    let q : ℕ = x / 2 ^ (k + n) in
    let hq : q < 2 ^ 8 = lt_of_le_of_lt (shr_le x (k + n)) hx in
    let e₁ : bit_or (q * 2 ^ n % 2 ^ 64) v ≡ q * 2 ^ n + v = shl_or q 8 n v hq (omega arith) hv in
    let e₂ : bit_and x (1 * 2 ^ k % 2 ^ 64 - 1) ≡ x % 2 ^ k = ap (λ (a : ℕ). bit_and x (a - 1)) (one_shl k (omega arith)) ∙ and_mask x k in
    let hm : q * 2 ^ n + v < 2 ^ (8 + n) = rw (pow-add 2 8 n) (digits_lt hq hv) in
    ap₂ (λ (a b : ℕ). bit_or (a * 2 ^ k % 2 ^ 64) b) e₁ e₂
    ∙ shl_or (q * 2 ^ n + v) (8 + n) k (x % 2 ^ k) hm (omega arith) (mod-lt x (pow_pos k))

small : (x k n v : ℕ) → x < 2 ^ 8 → k + n ≤ 8 → v < 2 ^ n → with_field x k n v < 2 ^ 8
small x k n v hx hk hv =
    let e : 8 - (k + n) + (k + n) ≡ 8 = omega arith in
    rw e at (with_field_lt x (8 - (k + n)) k n v (rw e hx) hv)

pub overflow_cast-result : goal.overflow_cast-result
overflow_cast-result c =
    let r = c.requires in
    record { fits = rw (is_field c.args.x c.args.low c.args.n c.args.v c.ranges.x.fits r.0 r.1) (small c.args.x c.args.low c.args.n c.args.v c.ranges.x.fits r.0 r.1) }

pub returns : goal.returns
returns c = is_field c.args.x c.args.low c.args.n c.args.v c.ranges.x.fits c.requires.0 c.requires.1
