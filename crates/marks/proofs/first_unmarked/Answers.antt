-- `marks::first_unmarked` meets its contract.
-- Assumes nothing.
use Rattle.std.proofs.Common.{◌≡◌, arith, sym}
use native.Mathlib.Nat.{mul-le-mul_right, add_assoc}
use lib.Arith.{digits_lt}
use Rattle.marks.proofs.First.{reaches, passes, stops, ends}
use Rattle.marks.proofs.first_unmarked.Goals as goal

pub loop-row-init : goal.loop-row-init
loop-row-init c =
    let told = c.row_to_start-start.ensures in
    (told.0, reaches _ _ _ _ (mul-le-mul_right _ told.0) told.1)

pub returns-then-not-is_marked : goal.returns-then-not-is_marked
returns-then-not-is_marked c =
    stops _ _ _ _ _ (digits_lt c.loop-row-test.true c.loop-column-test.true) c.loop-column-test.true
    (sym c.if-not-is_marked.ensures) c.loop-column.invariant.1

pub loop-column-preserved : goal.loop-column-preserved
loop-column-preserved c = (
  omega arith,
  rw (← add_assoc)
      (passes _ _ _ _ (digits_lt c.loop-row-test.true c.loop-column-test.true) (sym c.if-not-is_marked.ensures) c.loop-column.invariant.1),
)

pub returns-after-loop-row : goal.returns-after-loop-row
returns-after-loop-row c =
    let e : c.loop-row.row ≡ c.args.down = omega arith in
    ends _ _ _ (rw e at c.loop-row.invariant.1)
