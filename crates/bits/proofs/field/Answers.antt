-- A mask of n ones takes the remainder by 2 ^ n.
use Rattle.std.proofs.Common.{◌/◌, ◌^◌, arith}
use lib.Bits.{and_mask}
use Rattle.bits.proofs.Shift.{one_shl}
use Rattle.bits.proofs.field.Goals as goal

pub returns : goal.returns
returns c = rw (one_shl c.args.n (omega arith)) (and_mask (c.args.x / 2 ^ c.args.low) c.args.n)
