-- `moves::runs::put_row` meets its contract.
-- Assumes nothing.
use Rattle.std.proofs.Common.{ap, ℕ, ◌+◌, ◌*◌, ◌≤◌, List, length, arith}
use Rattle.layout.specs.declared.Strides.{Strides}
use Rattle.layout.proofs.Places.{sample-size}
use Rattle.moves.specs.Internal.Puts.{InRow, Target, Puts}
use Rattle.moves.proofs.Putting.{puts_none, row_then}
use Rattle.moves.proofs.Pieces.{can_move}
use Rattle.moves.proofs.StorePieces.{data_end, row_fits, run_put}
use Rattle.moves.proofs.RowRuns.{passed-none, passed_run, run_of, first_in, run_fits}
use Rattle.moves.proofs.runs.put_row.Goals as goal

-- of no samples, none is put
none : (t : Target) (xs : List ℕ) {b r c : ℕ} → Puts t (InRow b r c 0) xs xs
none t xs = puts_none t xs (λ b' r' c' h. omega (arith, h))

pub loop-run-init : goal.loop-run-init
loop-run-init c =
    rw c.into_iter-run-iterator.ensures.into_iter_gives (
      c.requires.inside,
      tt,
      (0, record { passed = passed-none c.args.row; at_is = omega arith; put = none _ _ }),
    )

pub invariant_of-part : goal.invariant_of-part
invariant_of-part c =
    let a = c.args.row in
    let w = c.requires in
    let i = c.loop-run.invariant.2 in
    let p = i.1.passed in
    let next = c.in-Some.ensures.steps in
    let run = run_of p next in
    let step = ap (λ (s : Strides). s.column) c.strides-step.ensures in
    let size = c.sample_bytes-size.ensures in
    let q = can_move _ _ _ _ _ _ size step (sample-size _ w.inside.sound) (run.movable _ w.writable.image_holds) in
    let end = data_end _ _ _ w.writable a.b a.r a.c a.count w.inside.in_b w.inside.in_r w.inside.in_c in
    let fits : c.loop-run.at + c.in-Some.run'.count * c.sample_bytes-size.result ≤ length c.args.dat.now
    = run_fits p next c.args.from size i.1.at_is (omega (arith, end, w.from_is)) in
    record { size_fits = q.0.1; width_fits = q.0.0; bits_counted = q.2; bytes_counted = omega (arith, fits) }

pub write_samples-requires : goal.write_samples-requires
write_samples-requires c =
    let a = c.args.row in
    let w = c.requires in
    let i = c.loop-run.invariant.2 in
    let p = i.1.passed in
    let next = c.in-Some.ensures.steps in
    let run = run_of p next in
    let step = ap (λ (s : Strides). s.column) c.strides-step.ensures in
    let size = c.sample_bytes-size.ensures in
    let m = run.movable (length c.loop-run.image) (omega (arith, w.writable.image_holds, c.loop-run.auto.image)) in
    let q = can_move _ _ _ _ _ _ size step (sample-size _ w.inside.sound) m in
    let end = data_end _ _ _ w.writable a.b a.r a.c a.count w.inside.in_b w.inside.in_r w.inside.in_c in
    record {
      data_holds = run_fits p next c.args.from size i.1.at_is (omega (arith, end, w.from_is));
      whole_bytes = q.1;
      image_holds = q.3;
      samples_fit
          = row_fits w.writable a.b a.r (a.c + i.0) _ w.inside.in_b w.inside.in_r
          (omega (arith, run.count-le, p.count, w.inside.in_c))
          (omega (arith, i.1.at_is, w.from_is, ap (λ (x : ℕ). i.0 * x) size)) size;
    }

pub overflow_add-at : goal.overflow_add-at
overflow_add-at c =
    let a = c.args.row in
    let w = c.requires in
    let i = c.loop-run.invariant.2 in
    let end = data_end _ _ _ w.writable a.b a.r a.c a.count w.inside.in_b w.inside.in_r w.inside.in_c in
    let fits : c.loop-run.at + c.in-Some.run'.count * c.sample_bytes-size.result ≤ length c.args.dat.now
    = run_fits i.1.passed c.in-Some.ensures.steps c.args.from c.sample_bytes-size.ensures i.1.at_is
    (omega (arith, end, w.from_is)) in
    omega (arith, fits)

pub loop-run-preserved : goal.loop-run-preserved
loop-run-preserved c =
    let a = c.args.row in
    let w = c.requires in
    let i = c.loop-run.invariant.2 in
    let p = i.1.passed in
    let next = c.in-Some.ensures.steps in
    let run = run_of p next in
    let step = ap (λ (s : Strides). s.column) c.strides-step.ensures in (
      c.in-Some.ensures.goes.keeps,
      tt,
      (
        i.0 + c.in-Some.run'.count,
        record {
          passed = passed_run p next;
          at_is = omega (arith, i.1.at_is);
          put = row_then _ a.b a.r a.c _ _ i.1.put
              (run_put a.layout w.inside.sound c.args.dat.now a.b a.r a.c i.0 _ _ (first_in p next w.inside)
              (omega (arith, p.count, w.inside.in_c)) (omega (arith, w.writable.image_holds, c.loop-run.auto.image))
              w.from_is c.sample_bytes-size.ensures step run (rw i.1.at_is at c.write_samples.ensures));
        },
      ),
    )
