-- The answers of a reordering, refused or accepted, and orders that are the same.
-- Assumes nothing.
use Rattle.std.specs.Prelude.{Ok}
use Prim.Native.Nat.{ℕ, ◌+◌, ◌*◌}
use mathlib.Core.Path.{◌≡◌, refl, sym, ap, ◌∙◌}
use mathlib.Core.List.{List, ◌++◌, append-nil}
use native.Mathlib.Omega.{arith}
use lib.ListN.{length, drop}
use lib.Seq.{drop-length}
use Rattle.bits.specs.Bits.{Bytes, be_at}
use Rattle.common.specs.Questions.{outcome}
use Rattle.common.proofs.Questions.{refused-by}
use Rattle.common.specs.Over.{over}
use Rattle.bits.specs.Values.{values}
use Rattle.bits.proofs.Values.{length-values}
use Rattle.layout.specs.declared.InterleaveMode.{InterleaveMode}
use Rattle.layout.specs.Bands.{Bands}
use Rattle.refusals.specs.declared.Refusal.{Refusal}
use Rattle.refusals.specs.Refusals.{number_of}
use Rattle.refusals.proofs.Numbers.{number-some}
use Rattle.interleave.specs.declared.Output.{Output}
use Rattle.interleave.specs.Interleave.{reorder_number, output_of, reordered_of, reordered_with, refusal}
use Rattle.interleave.specs.Interleave.{reordered_bytes, reorder}
use Rattle.interleave.proofs.Accepted.{accepted, no_output}
use Rattle.interleave.proofs.KnownSamples.{whole-from-samples, no-samples}

module _ (from to : InterleaveMode) (bs : Bands) (rows columns bands s : ℕ) (dat out : List ℕ) where
  pub reorder-refused : (reason : Refusal)
      → number_of reason ≡ reorder_number bs rows columns bands s (length dat) (length out)
      → reordered_with (refusal (number_of reason)) out ≡ reorder from to bs rows columns bands s dat out
  unfolding reorder
  reorder-refused reason e = refused-by _ (λ n. reordered_with (refusal n) out) e (number-some reason)

  pub reorder-accepted : {o : Output} {zs : List ℕ}
      → 0 ≡ reorder_number bs rows columns bands s (length dat) (length out)
      → o ≡ output_of bs rows columns bands s → zs ≡ over out 0 (reordered_bytes from to bs rows columns bands s dat)
      → reordered_with (reordered_of (Ok o)) zs ≡ reorder from to bs rows columns bands s dat out
  unfolding reorder outcome
  reorder-accepted e f z = rw (f, ← e, z)

  -- where there are no samples the output stays
  pub reorder-empty : {o : Output} → 0 ≡ reorder_number bs rows columns bands s (length dat) (length out)
      → o ≡ output_of bs rows columns bands s → o.bytes ≡ 0
      → reordered_with (reordered_of (Ok o)) out ≡ reorder from to bs rows columns bands s dat out
  reorder-empty e f z = reorder-accepted e f (no-samples _ _ _ out (no_output (accepted e) f z))

-- data is its samples
pub samples_of : (s n : ℕ) (dat : List ℕ) → Bytes dat → length dat ≡ n * s → values (λ k. be_at dat (k * s) s) s n ≡ dat
unfolding over
samples_of s n dat b e =
    let vs : List ℕ = values (λ k. be_at dat (k * s) s) s n in
    let l : 0 + length vs ≡ length dat = omega (arith, length-values (λ k. be_at dat (k * s) s) s n) in
    sym (append-nil vs) ∙ ap (λ (x : List ℕ). vs ++ x) (sym (drop-length dat) ∙ ap (λ (i : ℕ). drop i dat) (sym l))
    ∙ sym (whole-from-samples (λ k. be_at dat (k * s) s) s n dat dat refl b (omega arith) (λ k h. refl) (λ i h. refl))
