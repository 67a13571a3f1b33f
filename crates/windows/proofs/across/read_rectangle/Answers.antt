-- `windows::across::read_rectangle` meets its contract.
-- Assumes nothing.
use Rattle.std.proofs.Common.{◌≤◌, ◌+◌, refl, arith}
use Rattle.grid.proofs.Accepted.{facts}
use Rattle.windows.proofs.Cuts.{crossed, first-last, cut_fits}
use Rattle.windows.proofs.WindowQuestions.{answerable}
use Rattle.windows.proofs.Rectangles.{block_in, block-readable, part-is-window, block-turn, rows_start, blocks_start, rows-turn, rows-done}
use Rattle.windows.proofs.across.read_rectangle.Goals as goal

pub overflow_sub-last_row : goal.overflow_sub-last_row
overflow_sub-last_row c = omega (arith, (answerable _ c.args.grid.accepted _ _ _ c.requires).picture.rows-pos)

pub nonzero_div-last_row : goal.nonzero_div-last_row
nonzero_div-last_row c = (facts _ c.args.grid.accepted).sides.nppbv-pos

pub nonzero_div-first_column : goal.nonzero_div-first_column
nonzero_div-first_column c = (facts _ c.args.grid.accepted).sides.nppbh-pos

pub overflow_sub-last_column : goal.overflow_sub-last_column
overflow_sub-last_column c = omega (arith, (answerable _ c.args.grid.accepted _ _ _ c.requires).picture.columns-pos)

pub nonzero_div-last_column : goal.nonzero_div-last_column
nonzero_div-last_column c = (facts _ c.args.grid.accepted).sides.nppbh-pos

pub overflow_step-block_row : goal.overflow_step-block_row
overflow_step-block_row c = (facts _ c.args.grid.accepted).sides.nppbv-pos

pub loop-block_row-init : goal.loop-block_row-init
loop-block_row-init c =
    let f = facts _ c.args.grid.accepted in
    let k = answerable _ c.args.grid.accepted _ _ _ c.requires in
    let a = c.args.area in
    (omega arith, first-last a.row a.rows c.args.grid.grid.nppbv f.sides.nppbv-pos k.picture.rows-pos, refl, rows_start _ _ _ _ k _ _)

pub cut_of-down-requires : goal.cut_of-down-requires
cut_of-down-requires c =
    let g = c.args.grid.grid in
    let f = facts g c.args.grid.accepted in
    let k = answerable _ c.args.grid.accepted _ _ _ c.requires in
    let y = crossed _ _ _ _ f.sides.nppbv-pos k.picture.rows-pos c.loop-block_row.invariant.0 c.loop-block_row-test.true in
    let h : c.args.area.row + c.args.area.rows ≤ 99_999_999 = omega (arith, k.picture.rows_end, f.sides.nrows-le) in
    cut_fits _ _ _ _ h f.sides.nppbv-le y

pub loop-block_column-init : goal.loop-block_column-init
loop-block_column-init c =
    let f = facts _ c.args.grid.accepted in
    let k = answerable _ c.args.grid.accepted _ _ _ c.requires in
    let a = c.args.area in (
      omega arith,
      first-last a.column a.columns c.args.grid.grid.nppbh f.sides.nppbh-pos k.picture.columns-pos,
      c.loop-block_row.invariant.2,
      blocks_start _ _ _ _ k _ _ _,
    )

pub cut_of-across-requires : goal.cut_of-across-requires
cut_of-across-requires c =
    let g = c.args.grid.grid in
    let f = facts g c.args.grid.accepted in
    let k = answerable _ c.args.grid.accepted _ _ _ c.requires in
    let x = crossed _ _ _ _ f.sides.nppbh-pos k.picture.columns-pos c.loop-block_column.invariant.0 c.loop-block_column-test.true in
    let h : c.args.area.column + c.args.area.columns ≤ 99_999_999 = omega (arith, k.picture.columns-end, f.sides.ncols-le) in
    cut_fits _ _ _ _ h f.sides.nppbh-le x

pub invariant_of-block : goal.invariant_of-block
invariant_of-block c =
    let g = c.args.grid.grid in
    let f = facts g c.args.grid.accepted in
    let k = answerable _ c.args.grid.accepted _ _ _ c.requires in
    let y = crossed _ _ _ _ f.sides.nppbv-pos k.picture.rows-pos c.loop-block_row.invariant.0 c.loop-block_row-test.true in
    let x = crossed _ _ _ _ f.sides.nppbh-pos k.picture.columns-pos c.loop-block_column.invariant.0 c.loop-block_column-test.true in
    record { inside = block_in _ _ _ _ k _ _ y x }

pub read_part-requires : goal.read_part-requires
read_part-requires c =
    let g = c.args.grid.grid in
    let f = facts g c.args.grid.accepted in
    let k = answerable _ c.args.grid.accepted _ _ _ c.requires in
    let y = crossed _ _ _ _ f.sides.nppbv-pos k.picture.rows-pos c.loop-block_row.invariant.0 c.loop-block_row-test.true in
    let x = crossed _ _ _ _ f.sides.nppbh-pos k.picture.columns-pos c.loop-block_column.invariant.0 c.loop-block_column-test.true in
    rw (c.layout.ensures, c.cut_of-down.ensures, c.cut_of-across.ensures, c.loop-block_column.invariant.2)
    (block-readable _ _ _ _ k _ _ y x)

pub loop-block_column-preserved : goal.loop-block_column-preserved
loop-block_column-preserved c =
    let g = c.args.grid.grid in
    let f = facts g c.args.grid.accepted in
    let k = answerable _ c.args.grid.accepted _ _ _ c.requires in
    let y = crossed _ _ _ _ f.sides.nppbv-pos k.picture.rows-pos c.loop-block_row.invariant.0 c.loop-block_row-test.true in
    let x = crossed _ _ _ _ f.sides.nppbh-pos k.picture.columns-pos c.loop-block_column.invariant.0 c.loop-block_column-test.true in
    let read = c.read_part in (
      omega (arith, c.loop-block_column.invariant.0),
      omega (arith, c.loop-block_column-test.true),
      omega (arith, read.auto, c.loop-block_column.invariant.2),
      block-turn _ _ _ _ k _ _ y x _ _ _ _ (part-is-window _ _ _ _ k _ _ y x _) c.loop-block_column.invariant.3
          (rw (c.layout.ensures, c.cut_of-down.ensures, c.cut_of-across.ensures) at read.ensures),
    )

pub loop-block_row-preserved : goal.loop-block_row-preserved
loop-block_row-preserved c =
    let g = c.args.grid.grid in
    let f = facts g c.args.grid.accepted in
    let k = answerable _ c.args.grid.accepted _ _ _ c.requires in
    let y = crossed _ _ _ _ f.sides.nppbv-pos k.picture.rows-pos c.loop-block_row.invariant.0 c.loop-block_row-test.true in (
      omega (arith, c.loop-block_row.invariant.0),
      omega (arith, c.loop-block_row-test.true),
      c.loop-block_column.invariant.2,
      rows-turn _ _ _ _ k _ _ _ _ y c.loop-block_row.invariant.3
          (omega (arith, c.loop-block_column.invariant.1, c.loop-block_column-test.false)) c.loop-block_column.invariant.3,
    )

pub returns : goal.returns
returns c =
    rows-done _ _ _ _ (answerable _ c.args.grid.accepted _ _ _ c.requires) _ _ _ refl
    (omega (arith, c.loop-block_row.invariant.1, c.loop-block_row-test.false)) c.loop-block_row.invariant.3
