-- `samples::pack::append`: the shift loses nothing, and what is joined is apart.
-- Assumes nothing.
use Rattle.std.proofs.Common.{◌-◌, arith}
use Rattle.bits.proofs.Shift.{shl_or}
use Rattle.samples.proofs.pack.append.Goals as goal

pub returns : goal.returns
returns c =
    let w = c.args.width in
    shl_or c.args.x (64 - w) w c.args.v c.requires.1 (omega arith) c.requires.2
