-- `interleave::planes::to_planes` meets its contract.
-- Assumes nothing.
use Rattle.std.proofs.Common.{ap, ◌∙◌}
use Rattle.std.proofs.lemmas.Result.{err_from_is_err_and}
use Rattle.bits.specs.Bits.{Bytes}
use Rattle.common.specs.Over.{over}
use Rattle.layout.specs.Bands.{bands_in}
use Rattle.interleave.proofs.Accepted.{accepted, some_samples}
use Rattle.interleave.proofs.Answers.{reorder-refused, reorder-accepted, reorder-empty}
use Rattle.interleave.proofs.OrderPlaces.{order_readable, order_planes}
use Rattle.interleave.proofs.planes.to_planes.Goals as goal

pub returns-in_err-output : goal.returns-in_err-output
returns-in_err-output c =
    let p = err_from_is_err_and c.from_residual.result c.from_residual.ensures.1 in
    rw (p.1, p.2) (reorder-refused _ _ _ _ _ _ _ _ _ _ c.in_err-output.ensures.number)

pub order_layout-requires : goal.order_layout-requires
order_layout-requires c =
    let told = c.in_ok-output.ensures in
    let a = accepted told.number in ((some_samples a told.filled c.if-output-ne0.true).0, a.size-high, a.small)

pub read_planes-requires : goal.read_planes-requires
read_planes-requires c =
    let told = c.in_ok-output.ensures in
    let a = accepted told.number in
    let h = some_samples a told.filled c.if-output-ne0.true in
    rw c.order_layout.ensures (order_readable _ _ _ _ _ _ _ _ h.0 h.1 h.2 a)

pub returns-then-output-ne0 : goal.returns-then-output-ne0
returns-then-output-ne0 c =
    let a = c.args in
    let p = a.counts in
    let told = c.in_ok-output.ensures in
    let read = rw c.order_layout.ensures at c.read_planes.ensures in
    let bytes : Bytes a.«data».now = λ i. (c.type_inv.«data» i).fits in
    let planes = order_planes a.mode p.bands p.rows p.columns p.size a.«data».now bytes (bands_in a.asked) in
    reorder-accepted _ _ _ _ _ _ _ _ _ told.number told.filled (read ∙ ap (over a.out.now 0) planes)

pub returns-else-output-ne0 : goal.returns-else-output-ne0
returns-else-output-ne0 c =
    let told = c.in_ok-output.ensures in reorder-empty _ _ _ _ _ _ _ _ _ told.number told.filled c.if-output-ne0.false
