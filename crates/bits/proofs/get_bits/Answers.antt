-- The n bits that lie in the next byte are added.
use Rattle.std.proofs.Common.{◌≡◌, ap₂, ◌∙◌, sym, refl, ℕ, ◌+◌, ◌*◌, ◌/◌, ◌%◌, ◌-◌, ◌^◌, ◌<◌, ◌≤◌, min, List, get_or, bit_or, arith}
use Rattle.std.proofs.Math.Nat.{mod-lt}
use lib.Pow.{pow_pos}
use Rattle.bits.specs.Bits.{bits_at}
use Rattle.bits.proofs.Bits.{bits_at_lt, bits_at-turn}
use Rattle.bits.proofs.Shift.{shl_or}
use Rattle.bits.proofs.get_bits.Goals as goal

turn : (xs : List ℕ) (at width acc d n f : ℕ) → acc ≡ bits_at xs at d → d < width → width ≤ 64 → n ≡ min (8 - (at + d) % 8) (width - d)
    → f ≡ get_or xs ((at + d) / 8) 0 / 2 ^ (8 - (at + d) % 8 - n) % 2 ^ n → bit_or (acc * 2 ^ n % 2 ^ 64) f ≡ bits_at xs at (d + n)
turn xs at width acc d n f ea hd hw en ef =
    let hf : f < 2 ^ n = rw ef (mod-lt (get_or xs ((at + d) / 8) 0 / 2 ^ (8 - (at + d) % 8 - n)) (pow_pos n)) in
    shl_or acc d n f (rw ea (bits_at_lt xs at d)) (omega arith) hf
    ∙ ap₂ (λ (a b : ℕ). a * 2 ^ n + b) ea ef
    ∙ sym (bits_at-turn xs at d n (omega arith))

pub loop-done-init : goal.loop-done-init
unfolding bits_at
loop-done-init c = (omega arith, refl)

pub loop-done-preserved : goal.loop-done-preserved
loop-done-preserved c =
    let a = c.args in
    let l = c.loop-done in
    (omega arith, turn a.buf.now a.at a.width l.acc l.done c.min-n.result c.field-f.result l.invariant.1 c.loop-done-test.true c.requires.0 c.min-n.ensures c.field-f.ensures)
