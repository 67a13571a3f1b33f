-- `samples::write::scatter`: samples side by side are one run.
-- Assumes nothing.
use Rattle.std.proofs.Common.{arith}
use borrow.Author.Rules.{rules}
use Rattle.samples.proofs.Moves.{scattered_run}
use Rattle.samples.proofs.write.scatter.Goals as goal

pub returns-then-row : goal.returns-then-row
returns-then-row c =
    let row = c.args.row in
    rw c.if-row.true
    (scattered_run c.args.dat.now row.data_at row.at row.size row.count c.args.img.now (λ i. (c.type_inv.dat i).fits)
    (search rules) c.requires.data_holds
    (omega (arith, rw c.if-row.true at c.requires.image_holds)) c.copy.ensures)
