-- 65 entries are the table's, and fewer are taken one by one.
use Rattle.std.proofs.Common.{ap, ◌∙◌, arith}
use Rattle.std.specs.Prelude.{List, ℕ, get_or}
use lib.Seq.{length-take-le}
use Rattle.common.proofs.Tabulate.{tabulate_is}
use Rattle.widths.specs.declared.Widths.{Widths}
use Rattle.widths.specs.Widths.{table_of}
use Rattle.widths.proofs.Tables.{front}
use Rattle.widths.proofs.Widths.new.Goals as goal

table-with : List ℕ → Widths
table-with xs = record { entries = xs }

pub unwrap-requires : goal.unwrap-requires
unwrap-requires c = c.try_into.ensures.0 (length-take-le 65 c.args.entries.now c.if-entries-ge65.true)

pub returns-then-entries-ge65 : goal.returns-then-entries-ge65
unfolding table_of table-with
returns-then-entries-ge65 c =
    let whole = rw c.unwrap.ensures at c.try_into.ensures.1 in
    ap table-with (whole.same ∙ front c.args.entries.now c.if-entries-ge65.true)

pub returns : goal.returns
unfolding table_of table-with
returns c =
    let i = c.loop-n.invariant in
    ap table-with (tabulate_is 65 (λ k. get_or c.args.entries.now k 0) _ i.0 (λ k l. i.1 k (omega (arith, l))))
