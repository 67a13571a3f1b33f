-- A table by its entries.
-- Assumes nothing.
use Rattle.std.specs.Prelude.{ℕ, ◌≡◌, List, get_or, length, take, drop, replicate}
use Rattle.std.proofs.Common.{sym, ap, ◌∙◌, ◌≤◌, ◌<◌, ◌+◌, arith}
use native.Mathlib.Decide.{dec_lt}
use native.Mathlib.Nat.{zero-add}
use lib.ListN.{length-replicate}
use lib.Seq.{length-take-le, get_or-take, take-length}
use Rattle.std.proofs.lemmas.List.{get_or-replicate, get_or_past}
use Rattle.common.specs.Over.{over}
use Rattle.common.specs.Lists.{tabulate}
use Rattle.common.proofs.Over.{length_over, get_or-over_in, get_or-over-after}
use Rattle.common.proofs.Tabulate.{tabulate_is}

-- the first 65 of entries make the table
pub front : (entries : List ℕ) → 65 ≤ length entries → take 65 entries ≡ tabulate 65 (λ k. get_or entries k 0)
front entries h =
    tabulate_is 65 (λ k. get_or entries k 0) (take 65 entries) (length-take-le 65 entries h)
    (λ k l. get_or-take 65 entries k 0 l)

-- fewer entries put over zeros make it
pub put-over-zeros : (entries : List ℕ) → length entries < 65
    → over (replicate 65 0) 0 (take (length entries) (drop 0 entries)) ≡ tabulate 65 (λ k. get_or entries k 0)
put-over-zeros entries s =
    ap (over (replicate 65 0) 0) (take-length entries)
    ∙ tabulate_is 65 (λ k. get_or entries k 0) (over (replicate 65 0) 0 entries)
    (length_over (replicate 65 0) 0 entries room ∙ length-replicate {A = ℕ} 65 0) at
  where
    room : 0 + length {A = ℕ} entries ≤ length {A = ℕ} (replicate 65 0)
    room = simp length-replicate (omega arith)

    at : (k : ℕ) → k < 65 → get_or (over (replicate 65 0) 0 entries) k 0 ≡ get_or entries k 0
    at k h = go (dec_lt k (length entries))
      where
        go : Dec (k < length entries) → get_or (over (replicate 65 0) 0 entries) k 0 ≡ get_or entries k 0
        go (yes l) =
            ap (λ (i : ℕ). get_or (over (replicate 65 0) 0 entries) i 0) (sym (zero-add k))
            ∙ get_or-over_in (replicate 65 0) 0 entries k 0 room l
        go (no l) =
            get_or-over-after (replicate 65 0) 0 entries k 0 room (omega arith)
            ∙ get_or-replicate 65 k 0 0 h ∙ sym (get_or_past entries k 0 (omega arith))
