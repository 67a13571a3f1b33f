-- `samples::unpack::get_by_eight`: a field of the number in eight bytes.
-- Assumes nothing.
use mathlib.Core.Path.{◌≡◌, ◌∙◌}
use mathlib.Core.List.{List}
use Prim.Native.Nat.{ℕ, ◌*◌, ◌/◌, ◌%◌, ◌-◌, ◌^◌, ◌≤◌}
use native.Mathlib.Omega.{arith}
use lib.Bits.{bit_and, and_mask}
use lib.Pow.{pow_pos}
use Rattle.bits.specs.Bits.{Bytes, bits_at, be_at}
use Rattle.bits.proofs.Shift.{one_shl}
use Rattle.samples.proofs.Moves.{packed}
use Rattle.samples.proofs.unpack.get_by_eight.Goals as goal

-- shifted and masked
masked : (xs : List ℕ) (at w x : ℕ) → Bytes xs → w ≤ 57 → x ≡ be_at xs (at / 8) 8 → bit_and (x / 2 ^ ((64 - at % 8 - w) % 64)) (1 * 2 ^ w % 2 ^ 64 - 1) ≡ bits_at xs at w
masked xs at w x b h e =
    rw (one_shl w (omega arith), e) (and_mask (be_at xs (at / 8) 8 / 2 ^ ((64 - at % 8 - w) % 64)) w ∙ packed xs at w b (omega arith))

pub overflow_sub-result-3 : goal.overflow_sub-result-3
overflow_sub-result-3 c = let w : ℕ = c.args.width in rw (one_shl w (omega arith)) (pow_pos w)

pub returns : goal.returns
returns c =
    let a = c.args in
    masked a.src.now a.at a.width c.get_be-x.result (λ i. (c.type_inv.src i).fits) (omega arith) c.get_be-x.ensures
