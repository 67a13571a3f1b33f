-- `moves::part_read::PartRead::rows` meets its contract.
-- Assumes nothing.
use Rattle.std.proofs.Common.{refl, arith}
use Rattle.moves.proofs.Pieces.{to_fits, at-fits, rows-room, rows_move}
use Rattle.moves.proofs.Counted.{counted}
use Rattle.moves.proofs.PartReads.{placed, band_in}
use Rattle.moves.proofs.ReadPieces.{rows-read}
use Rattle.moves.proofs.part_read.PartRead.rows.Goals as goal

pub at-at-requires : goal.at-at-requires
at-at-requires c =
    let p = c.args.self.now in
    let w = c.requires in
    at-fits (placed p w.moves w.room) w.moves.way-fits.0 _ (band_in p w.moves c.band_at-b.ensures)

pub at-to-requires : goal.at-to-requires
at-to-requires c = to_fits (placed c.args.self.now c.requires.moves c.requires.room) (omega arith)

pub invariant_of-first : goal.invariant_of-first
invariant_of-first c =
    let p = c.args.self.now in
    let w = c.requires in
    let k = placed p w.moves w.room in
    let m = rows_move k w.moves.way-fits.0 _ (band_in p w.moves c.band_at-b.ensures) c.at-at.ensures in
    let n = counted m w.moves.inside.in_rows.some (rows-room k c.at-to.ensures) (omega arith) in
    record { size_fits = m.bytes_le; width_fits = m.bits_le; bits_counted = n.first-bits; bytes_counted = n.first-bytes }

pub invariant_of-rows : goal.invariant_of-rows
invariant_of-rows c =
    let p = c.args.self.now in
    let w = c.requires in
    let k = placed p w.moves w.room in
    let m = rows_move k w.moves.way-fits.0 _ (band_in p w.moves c.band_at-b.ensures) c.at-at.ensures in
    let n = counted m w.moves.inside.in_rows.some (rows-room k c.at-to.ensures) (omega arith) in
    record { some = w.moves.inside.in_rows.some; bits_counted = n.bits; bytes_counted = n.bytes }

pub read_rows-requires : goal.read_rows-requires
read_rows-requires c =
    let p = c.args.self.now in
    let w = c.requires in
    let k = placed p w.moves w.room in
    let m = rows_move k w.moves.way-fits.0 _ (band_in p w.moves c.band_at-b.ensures) c.at-at.ensures in
    record { narrow = m.narrow; movable = m.movable; out_holds = rows-room k c.at-to.ensures }

pub returns : goal.returns
returns c =
    let w = c.requires in
    rows-read _ (placed c.args.self.now w.moves w.room) c.at-to.ensures w.moves.way-fits.0 _ refl
    w.moves.way-fits.1 c.band_at-b.ensures c.at-at.ensures c.read_rows.ensures
