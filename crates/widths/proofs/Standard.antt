-- The widths that the constant table takes, and those that any table takes.
-- Assumes nothing.
use Rattle.std.specs.Prelude.{ℕ, ◌≡◌, Bool, true, false, not, [], ◌∷◌, eqb}
use Rattle.std.proofs.Common.{refl, sym, ◌∙◌, ◌<◌, arith}
use native.Mathlib.Decide.{dec_lt}
use borrow.Author.Tests.{eqb-true, eq-eqb, ne_eqb}
use lib.ListN.{get_or}
use Rattle.std.proofs.lemmas.List.{get_or_past}
use Rattle.common.specs.Lists.{tabulate}
use Rattle.common.specs.Rounding.{ceil_div}
use Rattle.common.specs.Tests.{every, pick}
use Rattle.common.proofs.Tabulate.{length-tabulate, get_d_tabulate}
use Rattle.common.proofs.Tests.{true_false, every-at, pick_no}
use Rattle.widths.specs.Widths.{width_taken, width_bytes, standard, entry, takes, StandardTakesAll, NoneTakesMore}
use Rattle.widths.proofs.WidthLaws.{past, taken, taken-pos}

pub entry-standard : (n : ℕ) → entry standard n ≡ width_bytes n
unfolding standard width_bytes
entry-standard n = go (dec_lt n 65)
  where
    go : Dec (n < 65) → get_or (tabulate 65 width_bytes) n 0 ≡ width_bytes n
    go (yes l) = get_d_tabulate 65 width_bytes n l
    go (no l) =
        let e = length-tabulate 65 width_bytes in
        get_or_past (tabulate 65 width_bytes) n 0 (omega arith) ∙ sym (pick_no _ 0 (past n (omega arith)))

-- an entry of the constant is taken where it is not 0
not-zero : (n : ℕ) → not (eqb (width_bytes n) 0) ≡ width_taken n
unfolding width_bytes pick
not-zero n = go (width_taken n) refl
  where
    go : (b : Bool) → width_taken n ≡ b → not (eqb (pick b (ceil_div n 8) 0) 0) ≡ b
    go true e = simp (ne_eqb (ceil_div n 8) 0 (λ z. let h : 0 < n = taken-pos n e in omega arith))
    go false e = refl

pub standard-takes-all : StandardTakesAll
unfolding takes every
standard-takes-all n = rw (entry-standard n, eq-eqb (width_bytes n) (width_bytes n) refl, not-zero n) (go (width_taken n))
  where
    go : (b : Bool) → every (b ∷ true ∷ []) ≡ b
    go true = refl
    go false = refl

not_yes : (b : Bool) → not b ≡ true → b ≡ true → ⊥
not_yes true e f = true_false (sym e)
not_yes false e f = true_false (sym f)

pub takes-taken : NoneTakesMore
unfolding takes
takes-taken ws n e =
    let t = every-at _ e in
    taken n (λ z. not_yes (eqb (entry ws n) 0) (t 0) (eq-eqb (entry ws n) 0 (eqb-true _ _ (t 1) ∙ z)))
