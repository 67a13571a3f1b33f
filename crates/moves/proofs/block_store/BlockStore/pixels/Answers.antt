-- `moves::block_store::BlockStore::pixels` meets its contract.
-- Assumes nothing.
use Rattle.std.proofs.Common.{ℕ, ◌-◌, arith}
use Rattle.rows.proofs.WholeBytes.{last_row}
use Rattle.moves.proofs.Pieces.{to_fits, at-fits, bands-room, rows_move, pixels-end}
use Rattle.moves.proofs.StorePieces.{pixels-put}
use Rattle.moves.proofs.BlockStores.{writable, placed}
use Rattle.moves.proofs.block_store.BlockStore.pixels.Goals as goal

pub at-from-requires : goal.at-from-requires
at-from-requires c =
    to_fits (placed c.args.self.now c.args.image.now c.requires.image_holds c.requires.moves) (omega arith)

pub at-at-requires : goal.at-at-requires
at-at-requires c =
    let w = c.requires.moves in
    at-fits (placed c.args.self.now _ c.requires.image_holds w) w.way-fits.0 _ (omega (arith, w.inside.in_bands))

pub invariant_of-first : goal.invariant_of-first
invariant_of-first c =
    let w = c.requires.moves in
    let k = placed c.args.self.now c.args.image.now c.requires.image_holds w in
    record { size_fits = (rows_move k w.way-fits.0 _ (omega (arith, w.inside.in_bands)) c.at-at.ensures).bytes_le }

pub gather_rows-requires-clause-src_holds : goal.gather_rows-requires-clause-src_holds
gather_rows-requires-clause-src_holds c =
    let k = placed c.args.self.now c.args.image.now c.requires.image_holds c.requires.moves in
    omega (arith, bands-room k c.at-from.ensures)

pub gather_rows-requires-clause-out_holds : goal.gather_rows-requires-clause-out_holds
gather_rows-requires-clause-out_holds c =
    let s = c.args.self.now in
    let w = c.requires.moves in
    let f = w.way-fits in
    let n : ℕ = c.args.piece.bands.count in
    let end = pixels-end (placed s c.args.image.now c.requires.image_holds w) f.0 f.2 f.3 _ (n - 1)
    (omega (arith, w.inside.in_bands)) c.at-at.ensures in
    omega (arith, end, last_row n s.planes.column w.inside.in_bands.some)

pub returns : goal.returns
returns c =
    let s = c.args.self.now in
    let h = c.requires.image_holds in
    let w = c.requires.moves in
    let f = w.way-fits in
    pixels-put (writable s _ h) (placed s _ h w) w.inside f.0 c.at-at.ensures c.at-from.ensures s.bytes
    c.requires.bytes f.1 f.2 f.3 c.gather_rows.ensures
