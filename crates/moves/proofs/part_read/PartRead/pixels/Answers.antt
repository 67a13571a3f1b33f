-- `moves::part_read::PartRead::pixels` meets its contract.
-- Assumes nothing.
use Rattle.std.proofs.Common.{refl, arith}
use Rattle.layout.proofs.Listed.{band_lt}
use Rattle.moves.proofs.Pieces.{to_fits, at-fits, bands-room, rows_move, pixels-end}
use Rattle.moves.proofs.PartReads.{placed, list_at, list_piece}
use Rattle.moves.proofs.ReadPieces.{pixels-read}
use Rattle.moves.proofs.part_read.PartRead.pixels.Goals as goal

pub at-at-requires : goal.at-at-requires
at-at-requires c =
    let p = c.args.self.now in
    let w = c.requires in
    at-fits (placed p w.moves w.room) w.moves.way-fits.0 0 p.readable.accepted.some-bands

pub at-to-requires : goal.at-to-requires
at-to-requires c = to_fits (placed c.args.self.now c.requires.moves c.requires.room) (omega arith)

pub invariant_of-pixels : goal.invariant_of-pixels
invariant_of-pixels c =
    let p = c.args.self.now in
    let w = c.requires in
    let k = placed p w.moves w.room in
    record { size_fits = (rows_move k w.moves.way-fits.0 0 p.readable.accepted.some-bands c.at-at.ensures).bytes_le }

pub gather_listed-requires : goal.gather_listed-requires
gather_listed-requires c =
    let p = c.args.self.now in
    let q = c.requires.moves in
    let t = p.readable in
    let k = placed p q c.requires.room in
    let w = q.way-fits in
    let e = list_piece p c.unwrap-list.ensures q in
    record {
      size-le = (rows_move k w.0 0 t.accepted.some-bands c.at-at.ensures).bytes_le;
      some = omega (arith, e, q.inside.in_bands.some);
      inside = λ i l.
          let b = band_lt _ _ t.bands_in i (omega (arith, l, e, q.listed.2)) in
          pixels-end k w.0 w.2 w.3 0 _ (omega (arith, b, list_at p c.unwrap-list.ensures i)) c.at-at.ensures;
      room = rw e (bands-room k c.at-to.ensures);
    }

pub returns : goal.returns
returns c =
    let p = c.args.self.now in
    let q = c.requires.moves in
    let w = q.way-fits in
    pixels-read p.src.now (placed p q c.requires.room) c.at-to.ensures w.0 c.unwrap-list.result.now
    p.bytes refl (list_piece p c.unwrap-list.ensures q) (list_at p c.unwrap-list.ensures) q.listed.1 w.1 w.2 w.3
    c.at-at.ensures c.gather_listed.ensures
