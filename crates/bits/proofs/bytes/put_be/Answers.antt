-- One more byte.
use Rattle.std.proofs.Common.{◌≡◌, ap, sym, ◌∙◌, ℕ, ◌+◌, ◌*◌, ◌/◌, ◌%◌, ◌-◌, ◌^◌, ◌<◌, ◌≤◌, List, length, set, arith}
use Rattle.std.proofs.Math.Nat.{div-one}
use lib.Pow.{shr-shr}
use Rattle.bits.specs.Bits.{be_bytes}
use Rattle.common.specs.Over.{over}
use Rattle.bits.proofs.BigEndian.{length-be_bytes, be_bytes-next}
use Rattle.common.proofs.Over.{over_none, set-over}
use Rattle.bits.proofs.bytes.put_be.Goals as goal

turn : (d ys : List ℕ) (o s v j : ℕ) → ys ≡ over d o (be_bytes j (v / 2 ^ (8 * (s - j)))) → j < s → o + s ≤ length d
    → set ys (o + j) (v / 2 ^ (8 * (s - j - 1)) % 256) ≡ over d o (be_bytes (j + 1) (v / 2 ^ (8 * (s - (j + 1)))))
turn d ys o s v j ey h l =
    let w : ℕ = v / 2 ^ (8 * (s - (j + 1))) in
    let e : s - j - 1 ≡ s - (j + 1) = omega arith in
    let f : 8 * (s - (j + 1)) + 8 ≡ 8 * (s - j) = omega arith in
    let g : v / 2 ^ (8 * (s - j)) ≡ w / 256 = sym (shr-shr v (8 * (s - (j + 1))) 8 ∙ ap (λ (a : ℕ). v / 2 ^ a) f) in
    let L : length (be_bytes j (w / 256)) ≡ j = length-be_bytes j (w / 256) in
    rw (ey, g, e, be_bytes-next)
    (ap (λ (a : ℕ). set (over d o (be_bytes j (w / 256))) (o + a) (w % 256)) (sym L) ∙ set-over d o (be_bytes j (w / 256)) (w % 256) (omega arith))

pub loop-j-init : goal.loop-j-init
unfolding be_bytes
loop-j-init c = sym (over_none c.args.out.now c.args.q)

pub loop-j-preserved : goal.loop-j-preserved
loop-j-preserved c = turn c.args.out.now _ _ _ _ _ c.loop-j.invariant (omega arith) c.requires.1

pub returns : goal.returns
returns c =
    let e : c.loop-j.j ≡ c.args.size = omega arith in
    let z : c.args.size - c.args.size ≡ 0 = omega arith in
    c.loop-j.invariant ∙ rw (e, z, div-one)
