-- `moves::runs::read_row` meets its contract.
-- Assumes nothing.
use Rattle.std.proofs.Common.{ap, ◌+◌, arith}
use Rattle.samples.specs.Internal.Samples.{spaced}
use Rattle.bits.proofs.Values.{values-none, values_run}
use Rattle.layout.specs.declared.Strides.{Strides}
use Rattle.layout.proofs.Places.{sample-size}
use Rattle.moves.specs.Internal.Parts.{sample_at}
use Rattle.moves.proofs.Pieces.{run_number, can_move}
use Rattle.moves.proofs.RowRuns.{passed-none, passed_run, run_of, run_fits}
use Rattle.moves.proofs.runs.read_row.Goals as goal

pub loop-run-init : goal.loop-run-init
loop-run-init c =
    rw c.into_iter-run-iterator.ensures.into_iter_gives (
      c.requires.inside,
      tt,
      (0, record { passed = passed-none c.args.row; at_is = omega arith; read = values-none _ _ _ _ }),
    )

pub invariant_of-part : goal.invariant_of-part
invariant_of-part c =
    let i = c.loop-run.invariant.2 in
    let next = c.in-Some.ensures.steps in
    let run = run_of i.1.passed next in
    let step = ap (λ (s : Strides). s.column) c.strides-step.ensures in
    let size = c.sample_bytes-size.ensures in
    let q = can_move _ _ _ _ _ _ size step (sample-size _ c.requires.inside.sound) (run.movable _ c.requires.reached) in
    let fits = run_fits i.1.passed next c.args.to size i.1.at_is c.requires.out_holds in
    record { size_fits = q.0.1; width_fits = q.0.0; bits_counted = q.2; bytes_counted = omega (arith, fits) }

pub read_samples-requires : goal.read_samples-requires
read_samples-requires c =
    let i = c.loop-run.invariant.2 in
    let next = c.in-Some.ensures.steps in
    let run = run_of i.1.passed next in
    let step = ap (λ (s : Strides). s.column) c.strides-step.ensures in
    let size = c.sample_bytes-size.ensures in
    let m = run.movable _ c.requires.reached in
    let q = can_move _ _ _ _ _ _ size step (sample-size _ c.requires.inside.sound) m in
    let fits = run_fits i.1.passed next c.args.to size i.1.at_is c.requires.out_holds in
    record {
      narrow = q.0.2;
      whole_bytes = q.1;
      src_holds = q.3;
      out_holds = omega (arith, fits, c.loop-run.auto.out);
    }

pub overflow_add-at : goal.overflow_add-at
overflow_add-at c =
    let i = c.loop-run.invariant.2 in
    omega (
      arith,
      run_fits i.1.passed c.in-Some.ensures.steps c.args.to c.sample_bytes-size.ensures i.1.at_is c.requires.out_holds,
    )

pub loop-run-preserved : goal.loop-run-preserved
loop-run-preserved c =
    let a = c.args in
    let w = a.row in
    let i = c.loop-run.invariant.2 in
    let next = c.in-Some.ensures.steps in
    let run = run_of i.1.passed next in
    let step = ap (λ (s : Strides). s.column) c.strides-step.ensures in
    let fits = run_fits i.1.passed next c.args.to c.sample_bytes-size.ensures i.1.at_is c.requires.out_holds in (
      c.in-Some.ensures.goes.keeps,
      tt,
      (
        i.0 + c.in-Some.run'.count,
        record {
          passed = passed_run i.1.passed next;
          at_is = omega (arith, i.1.at_is);
          read = values_run (λ j. sample_at w.layout a.src.now w.b w.r (w.c + j))
              (spaced a.src.now c.in-Some.run'.at c.strides-step.result.column w.layout.nbpp) _ _ _ _ _
              (omega (arith, fits, i.1.at_is)) i.1.read (rw i.1.at_is at c.read_samples.ensures)
              (λ j l. run_number w.layout a.src.now w.b w.r w.c i.0 _ _ j step run l);
        },
      ),
    )
