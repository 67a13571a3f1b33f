-- `moves::block_store::BlockStore::rows` meets its contract.
-- Assumes nothing.
use Rattle.std.proofs.Common.{arith}
use Rattle.moves.proofs.Pieces.{to_fits, at-fits, rows-room, rows_move}
use Rattle.moves.proofs.StorePieces.{rows_fit, rows-put}
use Rattle.moves.proofs.Counted.{counted}
use Rattle.moves.proofs.BlockStores.{writable, placed}
use Rattle.moves.proofs.block_store.BlockStore.rows.Goals as goal

pub at-from-requires : goal.at-from-requires
at-from-requires c =
    to_fits (placed c.args.self.now c.args.image.now c.requires.image_holds c.requires.moves) (omega arith)

pub at-at-requires : goal.at-at-requires
at-at-requires c =
    let w = c.requires.moves in
    at-fits (placed c.args.self.now _ c.requires.image_holds w) w.way-fits.0 _ (omega (arith, w.inside.in_bands))

pub invariant_of-first : goal.invariant_of-first
invariant_of-first c =
    let w = c.requires.moves in
    let k = placed c.args.self.now c.args.image.now c.requires.image_holds w in
    let m = rows_move k w.way-fits.0 _ (omega (arith, w.inside.in_bands)) c.at-at.ensures in
    let n = counted m w.inside.in_rows.some (rows-room k c.at-from.ensures) (omega arith) in
    record { size_fits = m.bytes_le; width_fits = m.bits_le; bits_counted = n.first-bits; bytes_counted = n.first-bytes }

pub invariant_of-rows : goal.invariant_of-rows
invariant_of-rows c =
    let w = c.requires.moves in
    let k = placed c.args.self.now c.args.image.now c.requires.image_holds w in
    let m = rows_move k w.way-fits.0 _ (omega (arith, w.inside.in_bands)) c.at-at.ensures in
    let n = counted m w.inside.in_rows.some (rows-room k c.at-from.ensures) (omega arith) in
    record { some = w.inside.in_rows.some; bits_counted = n.bits; bytes_counted = n.bytes }

pub write_rows-requires : goal.write_rows-requires
write_rows-requires c =
    let s = c.args.self.now in
    let h = c.requires.image_holds in
    let w = c.requires.moves in
    let k = placed s c.args.image.now h w in
    let m = rows_move k w.way-fits.0 _ (omega (arith, w.inside.in_bands)) c.at-at.ensures in
    record {
      movable = m.movable;
      data_holds = rows-room k c.at-from.ensures;
      samples_fit
          = rows_fit (writable s c.args.image.now h) k w.inside w.way-fits.0 c.at-at.ensures c.at-from.ensures;
    }

pub returns : goal.returns
returns c =
    let s = c.args.self.now in
    let h = c.requires.image_holds in
    let w = c.requires.moves in
    rows-put (writable s _ h) (placed s _ h w) w.inside w.way-fits.0 c.at-at.ensures c.at-from.ensures w.way-fits.1
    c.write_rows.ensures
