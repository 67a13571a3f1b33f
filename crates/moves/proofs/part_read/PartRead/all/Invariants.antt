-- The areas before area k are read, and `area` is area k.
use Rattle.std.proofs.Common.{◌≡◌, ◌<◌}
use Rattle.moves.specs.Internal.PartReads.{HasRead}
use Rattle.moves.specs.Internal.Orders.{area_count, area_of}
use Rattle.moves.proofs.Orders.{AreasBefore}
use Rattle.moves.proofs.part_read.PartRead.all.Given as goal

abbrev pub invariant-loop-k : goal.invariant-loop-k
invariant-loop-k l =
    record {
      read : HasRead l.self (AreasBefore l.order l.k) l.initial.out l.out;
      area_is : l.k < area_count l.order → l.area ≡ area_of l.order l.k;
    }
