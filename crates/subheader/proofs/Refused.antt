-- A refusal's number in the order of the questions.
-- Assumes nothing.
use mathlib.Core.Path.{◌≡◌, sym, ap, ◌∙◌}
use mathlib.Core.Bool.{Bool, true, false}
use mathlib.Core.List.{List}
use Prim.Native.Nat.{ℕ, ◌<◌}
use native.Mathlib.Omega.{arith}
use lib.Dec.{lit<}
use Rattle.common.specs.Questions.{ask, outcome}
use Rattle.common.proofs.Questions.{ask-yes, ask-inv, refused-by}
use Rattle.refusals.specs.declared.Refusal.{Refusal}
use Rattle.refusals.proofs.Numbers.{number-pos}
use Rattle.refusals.specs.Refusals.{number_of}
use Rattle.widths.specs.declared.Widths.{Widths}
use Rattle.grid.specs.declared.EdgeRule.{EdgeRule}
use Rattle.grid.specs.Check.{grid_number}
use Rattle.subheader.specs.declared.ImageSubheader.{ImageSubheader}
use Rattle.subheader.specs.Subheader.{q23, q24, fields_in, read_number}

-- a call's outcome at a refusal
pub refused : {A : Type 0} {n : ℕ} (r : Refusal) (accepted : A) (gives : ℕ → A) → number_of r ≡ n
    → gives (number_of r) ≡ outcome n accepted gives
refused r accepted gives e = refused-by accepted gives e (λ z. omega (arith, number-pos r))

-- a question's refusal is that of those after it too, and where it accepts they decide
pub ask_refused : (r : Refusal) (n : ℕ) (b : Bool) (rest : ℕ) → number_of r ≡ ask n b 0 → number_of r ≡ ask n b rest
ask_refused r n true rest e = absurd (omega (arith, number-pos r))
ask_refused r n false rest e = e

pub ask_accepted : (n : ℕ) (b : Bool) (rest : ℕ) → 0 < n → 0 ≡ ask n b 0 → ask n b rest ≡ rest
ask_accepted n b rest h e = ask-yes n rest (ask-inv n b 0 h (sym e)).0

-- ---- the reader's

module _ (ws : Widths) (first second third : List ℕ) (bands : ℕ) (edges : EdgeRule) where
  pub read_parts_refused : (r : Refusal) → number_of r ≡ ask 23 (q23 first second third) 0
      → number_of r ≡ read_number ws first second third bands edges
  unfolding read_number
  read_parts_refused r e = ask_refused r 23 _ _ e

  pub read_names_refused : (r : Refusal) → 0 ≡ ask 23 (q23 first second third) 0
      → number_of r ≡ ask 24 (q24 first second third) 0 → number_of r ≡ read_number ws first second third bands edges
  unfolding read_number
  read_names_refused r parts e = ask_refused r 24 _ _ e ∙ sym (ask_accepted 23 _ _ (lit< tt) parts)

  pub read_grid_asked : {s : ImageSubheader} → 0 ≡ ask 23 (q23 first second third) 0
      → 0 ≡ ask 24 (q24 first second third) 0 → s ≡ fields_in first second third bands edges
      → grid_number ws s.grid ≡ read_number ws first second third bands edges
  unfolding read_number grid_number
  read_grid_asked parts names e =
      ap (λ (x : ImageSubheader). grid_number ws x.grid) e
      ∙ sym (ask_accepted 23 _ _ (lit< tt) parts ∙ ask_accepted 24 _ _ (lit< tt) names)
