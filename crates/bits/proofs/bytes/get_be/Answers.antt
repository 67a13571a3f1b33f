-- One more byte, after at most seven.
use Rattle.std.proofs.Common.{◌≡◌, ℕ, ◌+◌, ◌*◌, ◌-◌, ◌^◌, ◌<◌, ◌≤◌, List, get_or, take, drop, length, Fits, w8, arith, add-one, refl}
use Rattle.std.proofs.Math.Nat.{lt_of_lt_of_le}
use lib.Pow.{pow_mono}
use Rattle.std.proofs.lemmas.List.Edits.{get_or-between, length-between}
use Rattle.bits.specs.Bits.{Bytes, be_at}
use Rattle.bits.proofs.BigEndian.{be_at_lt}
use Rattle.bits.proofs.bytes.get_be.Goals as goal

-- byte j of a part of xs, and the number acc in those before it
record Turn (xs : List ℕ) (p j acc b : ℕ) : Type 0 where
  small : acc < 2 ^ 56
  byte : b < 256
  is : b ≡ get_or xs (p + j) 0

turn : (xs : List ℕ) (p size j acc : ℕ) → ((i : ℕ) → Fits w8 (get_or xs i 0)) → (size ≤ 8) × (p + size ≤ length xs) → j < length (take (p + size - p) (drop p xs)) → acc ≡ be_at xs p j
    → Turn xs p j acc (get_or (take (p + size - p) (drop p xs)) j 0)
turn xs p size j acc b (s, r) l e =
    let b : Bytes xs = λ i. (b i).fits in
    let h : j < size = omega (arith, length-between xs p (p + size) r) in
    let is = get_or-between xs p (p + size) j 0 (omega arith) in
    record {
      small = rw e (lt_of_lt_of_le (be_at_lt xs p j b) (pow_mono {i = 8 * j} {j = 56} (omega arith)));
      byte = rw is (b (p + j));
      is = is;
    }

pub loop-byte-init : goal.loop-byte-init
unfolding be_at
loop-byte-init c = refl

pub overflow_mul-acc : goal.overflow_mul-acc
overflow_mul-acc c = omega (arith, turn _ _ _ _ _ c.type_inv.src c.requires c.loop-byte-test.true c.loop-byte.invariant)

pub overflow_add-acc : goal.overflow_add-acc
overflow_add-acc c = omega (arith, turn _ _ _ _ _ c.type_inv.src c.requires c.loop-byte-test.true c.loop-byte.invariant)

pub loop-byte-preserved : goal.loop-byte-preserved
unfolding be_at
loop-byte-preserved c =
    let t = turn _ _ _ _ _ c.type_inv.src c.requires c.loop-byte-test.true c.loop-byte.invariant in
    rw (add-one, t.is, c.loop-byte.invariant) refl
