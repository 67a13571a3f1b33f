-- `samples::pack::exchange`: the bits above the field, the field, the bits below it.
-- Assumes nothing.
use mathlib.Core.Path.{◌≡◌, ap₂, ◌∙◌}
use Prim.Native.Nat.{ℕ, ◌+◌, ◌*◌, ◌/◌, ◌%◌, ◌-◌, ◌^◌, ◌<◌}
use native.Mathlib.Nat.{lt_of_lt_of_le}
use native.Mathlib.Omega.{arith}
use lib.Arith.{digits_lt}
use lib.Bits.{bit_and, and_mask, mask_lt}
use lib.Pow.{pow_pos, pow_mono, pow-add, shr_lt}
use Rattle.bits.specs.Bits.{with_field}
use Rattle.bits.proofs.Shift.{one_shl}
use Rattle.samples.proofs.pack.exchange.Goals as goal

above : (x k : ℕ) → x < 2 ^ 64 → k < 64 → x / 2 ^ k < 2 ^ (64 - k)
above x k h l = let e : 64 - k + k ≡ 64 = omega arith in shr_lt (64 - k) k (rw e h)

above_field : (x k n v : ℕ) → x < 2 ^ 64 → k + n < 64 → v < 2 ^ n → x / 2 ^ (k + n) * 2 ^ n + v < 2 ^ (64 - k)
above_field x k n v h l lv =
    let e : 64 - k ≡ 64 - (k + n) + n = omega arith in
    rw (e, pow-add 2 (64 - (k + n)) n) (digits_lt (above x (k + n) h l) lv)

below : (x k : ℕ) → k < 64 → bit_and x (1 * 2 ^ k % 2 ^ 64 - 1) ≡ x % 2 ^ k
below x k h = rw (one_shl k h) (and_mask x k)

pub append-high-requires : goal.append-high-requires
append-high-requires c =
    let a = c.args in (
      omega arith,
      lt_of_lt_of_le (above a.x (a.low + a.width) (omega arith) (omega arith)) (pow_mono {i = 64 - (a.low + a.width)} {j = 64 - a.width} (omega arith)),
      c.requires.1,
    )

pub overflow_sub-low : goal.overflow_sub-low
overflow_sub-low c = let k : ℕ = c.args.low in rw (one_shl k (omega arith)) (pow_pos k)

pub append-requires : goal.append-requires
append-requires c =
    let a = c.args in (
      omega arith,
      rw c.append-high.ensures (above_field a.x a.low a.width a.v (omega arith) (omega arith) c.requires.1),
      rw (one_shl a.low (omega arith)) (mask_lt a.x a.low),
    )

pub returns : goal.returns
unfolding with_field
returns c =
    let a = c.args in
    c.append.ensures ∙ ap₂ (λ (y z : ℕ). y * 2 ^ a.low + z) c.append-high.ensures (below a.x a.low (omega arith))
