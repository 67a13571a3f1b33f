-- `moves::part_read::PartRead::all` meets its contract: the samples of k areas are read.
-- Assumes nothing.
use Rattle.std.proofs.Common.{◌<◌, arith}
use Rattle.layout.proofs.Places.{sample-size}
use Rattle.moves.specs.Internal.Orders.{area_count}
use Rattle.moves.proofs.Answers.{answer-done}
use Rattle.moves.proofs.Orders.{area_turn, areas_done, areas_fit, area_within, area_follows}
use Rattle.moves.proofs.PartReads.{order_is, area_is_moved}
use Rattle.moves.proofs.Pieces.{samples-fit}
use Rattle.moves.proofs.part_read.PartRead.all.Goals as goal

pub areas-k-end-requires : goal.areas-k-end-requires
areas-k-end-requires c =
    let p = c.args.self.now in
    areas_fit (order_is p c.band_count-bands.ensures c.choose-order.ensures)
    (samples-fit _ _ _ _ _ _ _ p.readable (omega (arith, c.requires.room))) p.some_bands

pub area-requires-clause-moves : goal.area-requires-clause-moves
area-requires-clause-moves c =
    let h : c.loop-k.k < area_count c.choose-order.result = omega (arith, c.loop-k-test.true, c.areas-k-end.ensures) in
    area_is_moved c.args.self.now c.band_count-bands.ensures c.choose-order.ensures c.listed_together.ensures
    (omega (arith, c.band_count-bands.ensures)) _ h (c.loop-k.invariant.area_is h)

pub next_area-area-requires : goal.next_area-area-requires
next_area-area-requires c =
    let h : c.loop-k.k < area_count c.choose-order.result = omega (arith, c.loop-k-test.true, c.areas-k-end.ensures) in
    area_within c.choose-order.ensures _ h (c.loop-k.invariant.area_is h)

pub loop-k-preserved : goal.loop-k-preserved
loop-k-preserved c =
    let h : c.loop-k.k < area_count c.choose-order.result = omega (arith, c.loop-k-test.true, c.areas-k-end.ensures) in
    let e = c.loop-k.invariant.area_is h in
    let o = order_is c.args.self.now c.band_count-bands.ensures c.choose-order.ensures in
    record {
      read = area_turn _ o _ e c.loop-k.invariant.read c.area.ensures;
      area_is = area_follows o _ h e c.next_area-area.ensures;
    }

pub returns : goal.returns
returns c =
    let t = c.args.self.now.readable in
    let o = order_is c.args.self.now c.band_count-bands.ensures c.choose-order.ensures in
    answer-done _ _ _ _ _ _ (sample-size _ t.accepted).some t.to_rows t.to_columns c.loop-k.invariant.read
    (areas_done _ o c.loop-k.k (omega (arith, c.loop-k-test.false, c.areas-k-end.ensures)))
