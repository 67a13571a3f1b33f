-- The areas before area k are put, and `area` is area k.
use Rattle.std.proofs.Common.{◌≡◌, ◌<◌}
use Rattle.bits.specs.Bits.{Bytes}
use Rattle.moves.specs.Internal.BlockStores.{HasPut}
use Rattle.moves.specs.Internal.Orders.{area_count, area_of}
use Rattle.moves.proofs.Orders.{AreasBefore}
use Rattle.moves.proofs.block_store.BlockStore.all.Given as goal

abbrev pub invariant-loop-k : goal.invariant-loop-k
invariant-loop-k l =
    record {
      bytes : Bytes l.initial.image;
      put : HasPut l.self (AreasBefore l.order l.k) l.initial.image l.image;
      area_is : l.k < area_count l.order → l.area ≡ area_of l.order l.k;
    }
