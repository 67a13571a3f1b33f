-- `rows::whole::gather_column`: the samples of the one row are those of the rows.
-- Assumes nothing.
use Rattle.std.proofs.Common.{ℕ, ◌*◌, ap, arith}
use Rattle.rows.proofs.OneRow.{only_row, column_as_one}
use Rattle.rows.proofs.whole.gather_column.Goals as goal

pub returns : goal.returns
returns c =
    let rows = c.args.rows in
    let f = rows.first in
    let each = c.requires.one_each in
    rw (each.1, each.2)
    (column_as_one _ (8 * f.at) (8 * rows.apart) (8 * f.step) (8 * f.size) f.size rows.count f.data_at _
    (omega (arith, c.requires.out_holds, ap (λ (x : ℕ). x * f.size) each.1, ap (λ (x : ℕ). rows.count * x) each.2))
    (only_row _ _ _ _ _ _ _ _ _ _ c.gather_rows.ensures))
