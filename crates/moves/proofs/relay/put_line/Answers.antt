-- `moves::relay::put_line` meets its contract: the samples of one more part of the line are put.
-- Assumes nothing.
use Rattle.std.proofs.Common.{arith}
use Rattle.layout.proofs.Places.{sizes}
use Rattle.moves.proofs.Relays.{line_from, line_to, in_runs, part_is, part_fits, part_put, line_then}
use Rattle.moves.proofs.relay.put_line.Goals as goal

pub sample_ordinal-source-requires-clause-size_fits : goal.sample_ordinal-source-requires-clause-size_fits
sample_ordinal-source-requires-clause-size_fits c = omega (arith, (sizes _ c.requires.relayable.sound_from).block-le)

pub sample_ordinal-target-requires-clause-size_fits : goal.sample_ordinal-target-requires-clause-size_fits
sample_ordinal-target-requires-clause-size_fits c = omega (arith, (sizes _ c.requires.relayable.sound_to).block-le)

pub run_at-given-requires-clause-in_block : goal.run_at-given-requires-clause-in_block
run_at-given-requires-clause-in_block c =
    omega (arith, in_runs (line_from c.requires.relayable c.requires.line) c.loop-done.done (omega arith))

pub overflow_add-source : goal.overflow_add-source
overflow_add-source c =
    let t = c.requires.relayable in
    omega (arith, in_runs (line_from t c.requires.line) c.loop-done.done (omega arith), (sizes _ t.sound_from).block-le)

pub overflow_add-target : goal.overflow_add-target
overflow_add-target c =
    let t = c.requires.relayable in
    omega (arith, in_runs (line_to t c.requires.line) c.loop-done.done (omega arith), (sizes _ t.sound_to).block-le)

pub run_at-taken-requires-clause-in_block : goal.run_at-taken-requires-clause-in_block
run_at-taken-requires-clause-in_block c =
    omega (arith, in_runs (line_to c.requires.relayable c.requires.line) c.loop-done.done (omega arith))

pub overflow_mul-n : goal.overflow_mul-n
overflow_mul-n c =
    let t = c.requires.relayable in
    let l = c.requires.line in
    let g = c.run_at-given in
    let q = c.run_at-taken in
    let p = part_is t l c.loop-done.done g.result q.result c.sample_ordinal-source.ensures
    c.sample_ordinal-target.ensures g.ensures q.ensures c.line_size-size.ensures c.loop-done-test.true c.min.ensures
    c.min-n.ensures in
    omega (arith, part_fits t l p)

pub copy_bits-requires : goal.copy_bits-requires
copy_bits-requires c =
    let t = c.requires.relayable in
    let l = c.requires.line in
    let g = c.run_at-given in
    let q = c.run_at-taken in
    let p = part_is t l c.loop-done.done g.result q.result c.sample_ordinal-source.ensures
    c.sample_ordinal-target.ensures g.ensures q.ensures c.line_size-size.ensures c.loop-done-test.true c.min.ensures
    c.min-n.ensures in
    let f = part_fits t l p in
    (omega (arith, f), omega (arith, f, c.loop-done.auto.image), omega (arith, f), omega (arith, f))

pub loop-done-preserved : goal.loop-done-preserved
loop-done-preserved c =
    let a = c.args in
    let t = c.requires.relayable in
    let l = c.requires.line in
    let g = c.run_at-given in
    let q = c.run_at-taken in
    let p = part_is t l c.loop-done.done g.result q.result c.sample_ordinal-source.ensures
    c.sample_ordinal-target.ensures g.ensures q.ensures c.line_size-size.ensures c.loop-done-test.true c.min.ensures
    c.min-n.ensures in
    record {
      inside = omega arith;
      put = line_then a.from a.scratch.now a.to a.b a.r c.loop-done.done c.min-n.result c.loop-done.invariant.put
          (part_put t l p a.scratch.now c.loop-done.auto.image c.copy_bits.ensures);
    }
