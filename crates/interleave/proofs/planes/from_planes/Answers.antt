-- `interleave::planes::from_planes` meets its contract.
-- Assumes nothing.
use Rattle.std.proofs.Common.{rules, ◌∙◌}
use Rattle.std.proofs.lemmas.Result.{err_from_is_err_and}
use Rattle.common.specs.Tests.{pick}
use Rattle.layout.specs.Bands.{band_count}
use Rattle.interleave.proofs.Accepted.{accepted, some_samples, all_room}
use Rattle.interleave.proofs.Answers.{reorder-refused, reorder-accepted, reorder-empty}
use Rattle.interleave.proofs.OrderPlaces.{order_writable, order_stored}
use Rattle.interleave.proofs.planes.from_planes.Goals as goal

pub returns-in_err-output : goal.returns-in_err-output
returns-in_err-output c =
    let p = err_from_is_err_and c.from_residual.result c.from_residual.ensures.1 in
    rw (p.1, p.2) (reorder-refused _ _ _ _ _ _ _ _ _ _ c.in_err-output.ensures.number)

pub order_layout-requires : goal.order_layout-requires
order_layout-requires c =
    let told = c.in_ok-output.ensures in
    let a = accepted told.number in ((some_samples a told.filled c.if-output-ne0.true).0, a.size-high, a.small)

pub store_block-requires : goal.store_block-requires
store_block-requires c =
    let told = c.in_ok-output.ensures in
    let a = accepted told.number in
    let h = some_samples a told.filled c.if-output-ne0.true in
    rw c.order_layout.ensures (order_writable _ _ _ _ _ _ _ h.0 h.1 h.2 a (all_room a))

pub returns-then-output-ne0 : goal.returns-then-output-ne0
unfolding band_count pick
returns-then-output-ne0 c =
    let told = c.in_ok-output.ensures in
    let a = accepted told.number in
    let h = some_samples a told.filled c.if-output-ne0.true in
    let w = order_writable _ _ _ _ _ _ _ h.0 h.1 h.2 a (all_room a) in
    let stored = rw c.order_layout.ensures at c.store_block.ensures in
    reorder-accepted _ _ _ _ _ _ _ _ _ told.number told.filled
    (stored ∙ order_stored _ _ _ _ _ _ _ (λ i. (c.type_inv.«data» i).fits) (λ i. search rules) w (all_room a))

pub returns-else-output-ne0 : goal.returns-else-output-ne0
returns-else-output-ne0 c =
    let told = c.in_ok-output.ensures in reorder-empty _ _ _ _ _ _ _ _ _ told.number told.filled c.if-output-ne0.false
