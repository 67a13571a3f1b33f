-- `moves::relay::line_size` meets its contract.
-- Assumes nothing.
use Rattle.std.proofs.Common.{◌*◌, ◌≤◌, arith}
use Rattle.std.proofs.Math.Nat.{mul-le-mul_right}
use Rattle.layout.proofs.Places.{data_fits}
use Rattle.moves.proofs.relay.line_size.Goals as goal

-- the samples of a row of all bands are samples of the block
pub overflow_mul-result : goal.overflow_mul-result
overflow_mul-result c =
    let l = c.args.layout in
    let f = c.requires in
    let row : l.columns ≤ l.rows * l.columns = omega (arith, mul-le-mul_right l.columns f.some-rows) in
    omega (arith, mul-le-mul_right l.bands row, (data_fits l f).samples)
