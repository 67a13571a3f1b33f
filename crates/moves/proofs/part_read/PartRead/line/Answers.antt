-- `moves::part_read::PartRead::line` meets its contract.
-- Assumes nothing.
use Rattle.std.proofs.Common.{refl, arith}
use Rattle.layout.proofs.Spaced.{strides_fit}
use Rattle.moves.proofs.Pieces.{to_fits, row_room}
use Rattle.moves.proofs.PartReads.{placed, row_in}
use Rattle.moves.proofs.ReadPieces.{row_read_lem}
use Rattle.moves.proofs.part_read.PartRead.line.Goals as goal

pub at-to-requires : goal.at-to-requires
at-to-requires c = to_fits (placed c.args.self.now c.requires.moves c.requires.room) (omega arith)

pub overflow_add-samples : goal.overflow_add-samples
overflow_add-samples c =
    let t = c.args.self.now.readable in
    omega (arith, c.requires.moves.inside.in_rows, t.in_rows, (strides_fit _ t.accepted).rows-le)

pub overflow_add-samples-2 : goal.overflow_add-samples-2
overflow_add-samples-2 c =
    let t = c.args.self.now.readable in
    omega (arith, c.requires.moves.inside.in_columns, t.in_columns, (strides_fit _ t.accepted).columns-le)

pub read_row-requires : goal.read_row-requires
read_row-requires c =
    let p = c.args.self.now in
    let t = p.readable in
    record {
      inside = row_in p c.requires.moves c.band_at-b.ensures;
      reached = t.reached;
      out_holds = row_room (placed p c.requires.moves c.requires.room) c.at-to.ensures;
    }

pub returns : goal.returns
returns c =
    row_read_lem _ (placed c.args.self.now c.requires.moves c.requires.room) c.at-to.ensures _ refl
    c.requires.moves.way-fits.0 c.requires.moves.way-fits.1 c.band_at-b.ensures c.read_row.ensures
