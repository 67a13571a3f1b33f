-- `samples::pack::put_packed`: a field of the number in n bytes.
-- Assumes nothing.
use Prim.Native.Nat.{◌*◌, ◌%◌, ◌-◌}
use native.Mathlib.Nat.{mod-eq_of_lt}
use native.Mathlib.Omega.{arith}
use borrow.Author.Rules.{rules}
use Rattle.bits.proofs.Joined.{put_bits-within}
use Rattle.samples.proofs.pack.put_packed.Goals as goal

pub returns : goal.returns
returns c =
    let a = c.args in
    put_bits-within a.img.now a.at a.width (8 * a.n - a.at % 8 - a.width) a.n a.v (search rules)
    (omega arith) (omega arith) c.get_be-x.ensures
    (rw (mod-eq_of_lt c.requires.value_fits) c.exchange.ensures) c.put_be.ensures
