-- The n bits that lie in the next byte are put.
use Rattle.std.proofs.Common.{◌≡◌, refl, ℕ, ◌+◌, ◌*◌, ◌/◌, ◌%◌, ◌-◌, ◌^◌, ◌<◌, ◌≤◌, min, List, length, get_or, set, arith}
use Rattle.bits.specs.Bits.{put_bits, with_field}
use Rattle.bits.proofs.Bits.{put_bits-turn}
use Rattle.bits.proofs.put_bits.Goals as goal

turn : (xs ys : List ℕ) (at width v d n f b : ℕ) → ys ≡ put_bits xs at d (v / 2 ^ (width - d)) → d < width → at + width ≤ 8 * length xs → n ≡ min (8 - (at + d) % 8) (width - d)
    → f ≡ v / 2 ^ (width - d - n) % 2 ^ n → b ≡ with_field (get_or ys ((at + d) / 8) 0) (8 - (at + d) % 8 - n) n f
    → set ys ((at + d) / 8) b ≡ put_bits xs at (d + n) (v / 2 ^ (width - (d + n)))
turn xs ys at width v d n f b ey hd hw en ef eb =
    rw (eb, ef, ey) (put_bits-turn xs at width d n v (omega arith) (omega arith) (omega arith))

pub loop-done-init : goal.loop-done-init
unfolding put_bits
loop-done-init c = (omega arith, refl)

pub loop-done-preserved : goal.loop-done-preserved
loop-done-preserved c =
    let a = c.args in
    let l = c.loop-done in (
      omega arith,
      turn a.buf.now l.buf a.at a.width a.value l.done c.min-n.result c.field-f.result c.merge.result l.invariant.1 c.loop-done-test.true c.requires.1
          c.min-n.ensures c.field-f.ensures c.merge.ensures,
    )
