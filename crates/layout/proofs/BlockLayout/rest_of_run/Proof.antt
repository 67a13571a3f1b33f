-- `layout::BlockLayout::rest_of_run` meets its contract.
-- Assumes nothing.
use borrow.Author.Rules.{rules}
use Prim.Native.Nat.{◌≤◌}
use native.Mathlib.Nat.{mod-lt, le_of_lt}
use Rattle.layout.specs.Internal.Spacing.{rest_of_run}
use Rattle.layout.proofs.Places.{RunPlace, run_place, sizes}
use Rattle.layout.proofs.Spaced.{steps_pos, steps_le, strides_fit}
use Rattle.layout.proofs.BlockLayout.rest_of_run.Statement.{statement}
use Rattle.layout.proofs.BlockLayout.rest_of_run.Tie as tie
use native.Mathlib.Omega.{arith}

known : (s : tie.Start) → RunPlace s.args.self s.args.b s.args.r s.args.c
known s = run_place s.args.self s.requires.0 s.args.b s.args.r s.args.c s.requires.1

some : (c : tie.After-column_steps-steps) → 1 ≤ c.column_steps-steps.result
some c =
    let s = c.before.before.before in
    rw c.column_steps-steps.ensures (steps_pos s.args.self.mode s.args.self s.requires.0.some-bands)

overflow_mul-samples : tie.Need-overflow_mul-samples
overflow_mul-samples c = omega (arith, (sizes _ c.requires.0).run_le)

sample_ordinal-requires : tie.Need-sample_ordinal-requires
sample_ordinal-requires c κs = let s = c.before in let k = known s in ((s.requires.1.in_b, k.r_lt, k.c_lt), omega (arith, (sizes _ s.requires.0).block-le))

nonzero_rem-rest : tie.Need-nonzero_rem-rest
nonzero_rem-rest c = (known c.before.before).size-pos

overflow_sub-rest : tie.Need-overflow_sub-rest
overflow_sub-rest c = le_of_lt (mod-lt c.sample_ordinal.result (known c.before.before).size-pos)

column_steps-steps-requires : tie.Need-column_steps-steps-requires
column_steps-steps-requires c κs = search rules

overflow_sub-result : tie.Need-overflow_sub-result
overflow_sub-result c = some c

overflow_add-result : tie.Need-overflow_add-result
overflow_add-result c =
    let s = c.before.before.before in
    rw c.column_steps-steps.ensures
    (omega (arith, (sizes _ s.requires.0).run_le, steps_le s.args.self.mode s.args.self s.requires.0.some-bands, (strides_fit _ s.requires.0).bands-le))

nonzero_div-result : tie.Need-nonzero_div-result
nonzero_div-result c = some c

returns : tie.Need-returns
unfolding rest_of_run
returns c = rw (c.column_steps-steps.ensures, c.sample_ordinal.ensures)

pub rest_of_run_spec : {M : Type 1} → statement M
rest_of_run_spec =
    tie.close
    (tie.spec
    overflow_mul-samples
    sample_ordinal-requires
    nonzero_rem-rest
    overflow_sub-rest
    column_steps-steps-requires
    overflow_sub-result
    overflow_add-result
    nonzero_div-result
    returns)
