-- `samples::pack::pack_grouped`: whole groups from a whole byte on, then the rest.
-- Assumes nothing.
use Rattle.std.proofs.Common.{◌≡◌, ◌*◌, ◌/◌, ◌%◌, ℕ, arith}
use Rattle.samples.specs.declared.row.Row.{Row}
use Rattle.samples.proofs.Groups.{Groups, groups}
use Rattle.samples.proofs.Rows.{packed_rest, written_after}
use Rattle.samples.proofs.pack.pack_grouped.Goals as goal

-- the whole groups of g samples in a row
whole_groups : (row : Row) (g : ℕ) → g * row.width % 8 ≡ 0 → Groups row.count g row.size row.width (g * row.width / 8)
whole_groups row g h = groups row.count g row.size row.width (g * row.width / 8) (omega arith)

pub pack_groups-requires-clause-data_holds : goal.pack_groups-requires-clause-data_holds
pack_groups-requires-clause-data_holds c =
    let g = whole_groups c.args.row c.group_of-group.result c.group_of-group.ensures.2 in omega arith

pub pack_groups-requires-clause-image_holds : goal.pack_groups-requires-clause-image_holds
pack_groups-requires-clause-image_holds c =
    let row = c.args.row in
    let g = whole_groups row c.group_of-group.result c.group_of-group.ensures.2 in
    omega (arith, rw c.requires.side_by_side at c.requires.image_holds)

pub pack_each-requires-clause-samples_fit : goal.pack_each-requires-clause-samples_fit
pack_each-requires-clause-samples_fit c =
    let row = c.args.row in
    let g = whole_groups row c.group_of-group.result c.group_of-group.ensures.2 in
    packed_rest row _ g.0 _ c.skip.ensures _ c.requires.samples_fit

pub returns-then-bytes-le8 : goal.returns-then-bytes-le8
returns-then-bytes-le8 c =
    let row = c.args.row in
    let g = whole_groups row c.group_of-group.result c.group_of-group.ensures.2 in
    let e : 8 * (row.at / 8) ≡ row.at = omega (arith, c.if-row-eq0.true) in
    written_after row _ g.0 _ c.skip.ensures _ _ (rw c.requires.side_by_side (rw e at c.pack_groups.ensures))
    c.pack_each.ensures
