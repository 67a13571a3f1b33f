-- `samples::copy::put_by_eight`: some bits of the number in eight bytes are exchanged.
-- Assumes nothing.
use Rattle.std.proofs.Common.{rules, ◌%◌, ◌-◌, arith}
use Rattle.std.proofs.Math.Nat.{mod-eq_of_lt}
use Rattle.bits.proofs.Joined.{put_bits-within}
use Rattle.samples.proofs.Copied.{exchange}
use Rattle.samples.proofs.copy.put_by_eight.Goals as goal

pub overflow_sub-x : goal.overflow_sub-x
overflow_sub-x c =
    let a = c.args in
    (exchange c.get_be-x.result (64 - a.at % 8 - a.width) a.width a.v (omega arith) (omega arith) (omega arith)
    c.requires.value_fits).le

pub overflow_add-x : goal.overflow_add-x
overflow_add-x c =
    let a = c.args in
    let e = exchange c.get_be-x.result (64 - a.at % 8 - a.width) a.width a.v (omega arith) (omega arith) (omega arith)
    c.requires.value_fits in
    omega (arith, e.is, e.fits)

pub returns : goal.returns
returns c =
    let a = c.args in
    let low = 64 - a.at % 8 - a.width in
    let e = exchange c.get_be-x.result low a.width a.v (omega arith) (omega arith) (omega arith)
    c.requires.value_fits in
    put_bits-within a.out.now a.at a.width low 8 a.v (search rules)
    (omega arith) (omega arith) c.get_be-x.ensures (rw (mod-eq_of_lt c.requires.value_fits) e.is) c.put_be.ensures
