-- `moves::block_store::BlockStore::all` meets its contract: the samples of k areas are put.
-- Assumes nothing.
use Rattle.std.proofs.Common.{◌<◌, arith}
use Rattle.layout.proofs.Places.{data_fits}
use Rattle.layout.proofs.Spaced.{strides_fit}
use Rattle.moves.specs.Internal.Orders.{area_count}
use Rattle.moves.specs.Internal.Stores.{put_block}
use Rattle.moves.proofs.Orders.{area_turn, areas_done, areas_fit, area_within, area_follows, area-moves}
use Rattle.moves.proofs.Stored.{put-done}
use Rattle.moves.proofs.block_store.BlockStore.all.Goals as goal

pub areas-k-end-requires : goal.areas-k-end-requires
areas-k-end-requires c =
    let f = c.args.self.now.storable.accepted in
    areas_fit c.choose-order.ensures (data_fits _ f).samples f.some-bands

pub area-requires-clause-moves : goal.area-requires-clause-moves
area-requires-clause-moves c =
    let h : c.loop-k.k < area_count c.choose-order.result = omega (arith, c.loop-k-test.true, c.areas-k-end.ensures) in
    let s = c.args.self.now in
    area-moves c.choose-order.ensures _ h (c.loop-k.invariant.area_is h)
    (omega (arith, (strides_fit s.layout s.storable.accepted).bands-le))

pub next_area-area-requires : goal.next_area-area-requires
next_area-area-requires c =
    let h : c.loop-k.k < area_count c.choose-order.result = omega (arith, c.loop-k-test.true, c.areas-k-end.ensures) in
    area_within c.choose-order.ensures _ h (c.loop-k.invariant.area_is h)

pub loop-k-preserved : goal.loop-k-preserved
loop-k-preserved c =
    let h : c.loop-k.k < area_count c.choose-order.result = omega (arith, c.loop-k-test.true, c.areas-k-end.ensures) in
    let e = c.loop-k.invariant.area_is h in
    record {
      bytes = c.loop-k.invariant.bytes;
      put = area_turn _ c.choose-order.ensures _ e c.loop-k.invariant.put c.area.ensures;
      area_is = area_follows c.choose-order.ensures _ h e c.next_area-area.ensures;
    }

pub returns : goal.returns
unfolding put_block
returns c =
    let s = c.args.self.now in
    put-done _ s.storable.accepted _ c.loop-k.invariant.bytes c.requires.image_holds c.loop-k.invariant.put
    (areas_done _ c.choose-order.ensures c.loop-k.k (omega (arith, c.loop-k-test.false, c.areas-k-end.ensures)))
