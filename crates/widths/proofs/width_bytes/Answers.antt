-- `widths::width_bytes` meets its contract.
-- Assumes nothing.
use mathlib.Core.Path.{sym}
use native.Mathlib.Omega.{arith}
use lib.Dec.{ltb→lt}
use lib.ListN.{get_or}
use Rattle.widths.specs.Widths.{width_bytes}
use Rattle.widths.proofs.Table.{at}
use Rattle.widths.proofs.WidthLaws.{past}
use Rattle.widths.proofs.Constant.{constant, small, constant-at}
use Rattle.common.proofs.Tests.{pick_no}
use Rattle.widths.proofs.width_bytes.Goals as goal

pub overflow_cast-result : goal.overflow_cast-result
unfolding constant small
overflow_cast-result c = omega (arith, ltb→lt (get_or constant c.args.nbpp 0) 9 (at small constant tt c.args.nbpp c.if-nbpp-lt65.true))

pub returns-then-nbpp-lt65 : goal.returns-then-nbpp-lt65
unfolding constant
returns-then-nbpp-lt65 c = constant-at c.args.nbpp c.if-nbpp-lt65.true

pub returns-else-nbpp-lt65 : goal.returns-else-nbpp-lt65
unfolding width_bytes
returns-else-nbpp-lt65 c = sym (pick_no _ 0 (past c.args.nbpp c.if-nbpp-lt65.false))
