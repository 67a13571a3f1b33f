-- `samples::read::gather`: samples side by side are one run.
-- Assumes nothing.
use Rattle.std.proofs.Common.{arith}
use Rattle.samples.proofs.Moves.{gathered_run}
use Rattle.samples.proofs.read.gather.Goals as goal

pub returns-then-row : goal.returns-then-row
returns-then-row c =
    let row = c.args.row in
    rw c.if-row.true
    (gathered_run c.args.src.now row.at row.size row.count c.args.out.now row.data_at (λ i. (c.type_inv.src i).fits)
    (omega (arith, rw c.if-row.true at c.requires.src_holds)) c.copy.ensures)
