-- A list that is known by the samples that it starts with.
-- Assumes nothing.
use Prim.Native.Nat.{ℕ, ◌+◌, ◌*◌, ◌≤◌, ◌<◌}
use mathlib.Core.Path.{◌≡◌, sym, ap, ◌∙◌}
use mathlib.Core.List.{List, ◌++◌}
use native.Mathlib.Omega.{arith}
use lib.ListN.{length, get_or, take, drop, length-take, length-drop, take-append-drop}
use lib.Seq.{ext_get_or, get_or-drop}
use Rattle.bits.specs.Bits.{Bytes, be_at}
use Rattle.common.specs.Over.{over}
use Rattle.bits.specs.Values.{values}
use Rattle.samples.specs.Internal.Samples.{spaced}
use Rattle.bits.proofs.Values.{values_ext, values-none}
use Rattle.samples.proofs.Moves.{spaced-bytes, gathered_run}

-- a list is known by the samples that it starts with and the bytes after them
pub whole-from-samples : (v : ℕ → ℕ) (s n : ℕ) (xs ys : List ℕ) → length ys ≡ length xs → Bytes ys → n * s ≤ length xs → ((k : ℕ) → k < n → be_at ys (k * s) s ≡ v k)
    → ((i : ℕ) → n * s ≤ i → get_or ys i 0 ≡ get_or xs i 0) → ys ≡ over xs 0 (values v s n)
unfolding over
whole-from-samples v s n xs ys e b fits at rest =
    gathered_run ys 0 s n xs 0 b (omega arith) kept
    ∙ ap (over xs 0) (values_ext (spaced ys 0 (8 * s) (8 * s)) v s n (λ k l. sym (spaced-bytes ys 0 s s k b) ∙ ap (λ (i : ℕ). be_at ys i s) (omega arith) ∙ at k l))
  where
    len : 0 + length (take (n * s) ys) ≡ n * s
    len = rw length-take (omega arith)

    tail : drop (n * s) ys ≡ drop (n * s) xs
    tail = ext_get_or 0 (drop (n * s) ys) (drop (n * s) xs) (simp length-drop (omega arith)) (λ i l. simp get_or-drop (rest (n * s + i) (omega arith)))

    kept : ys ≡ over xs 0 (take (n * s) (drop 0 ys))
    kept = sym (take-append-drop (n * s) ys) ∙ ap (λ (a : List ℕ). take (n * s) ys ++ a) tail ∙ ap (λ (i : ℕ). take (n * s) ys ++ drop i xs) (sym len)

-- no samples
pub no-samples : (w : ℕ → ℕ) (s n : ℕ) (xs : List ℕ) → n ≡ 0 → xs ≡ over xs 0 (values w s n)
no-samples w s n xs e = rw e (values-none w s xs 0)
