-- `moves::order::Order::next_area` meets its contract.
-- Assumes nothing.
use Rattle.std.proofs.Common.{arith}
use Rattle.moves.proofs.Orders.{columns-go_on, rows-go_on}
use Rattle.moves.proofs.order.Order.next_area.Goals as goal

pub returns-then-columns-gt0 : goal.returns-then-columns-gt0
returns-then-columns-gt0 c =
    columns-go_on c.args.self c.args.area c.next-columns.ensures c.if-columns-gt0.true

pub returns-else-columns-gt0 : goal.returns-else-columns-gt0
returns-else-columns-gt0 c =
    rows-go_on c.args.self c.args.area c.next-columns.ensures c.next-rows.ensures
    (omega (arith, c.if-columns-gt0.false))
