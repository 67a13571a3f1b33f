-- The plain frame's finish finds no unreached block exactly when all blocks are reached.
-- Assumes nothing.
use Prim.Native.Nat.{ℕ, zero, suc, ◌+◌, ◌≤◌, ◌<◌}
use mathlib.Core.Path.{◌≡◌, refl, sym, ap, ◌∙◌}
use mathlib.Core.Bool.{Bool, true, false}
use native.Mathlib.Omega.{arith}
use native.Mathlib.Decide.{ℕ_discrete}
use Rattle.common.specs.Tests.{pick}
use Rattle.calls.specs.declared.Answer.{Answer}
use Rattle.frame.specs.PlainFrame.{number_alone, unreached_in_row, unreached}

module _ (reached : ℕ → ℕ → Bool) where
  -- block (row, column) and what is found after it
  abbrev found : ℕ → ℕ → Answer → Bool → Answer
  found row column rest t = pick t rest (record { number = 15; first = row; second = column })

  -- n blocks of a row from a column on are reached, and the rest is accepted
  abbrev RowReached : ℕ → ℕ → ℕ → Answer → Type 0
  RowReached row column n rest =
      ((x : ℕ) → column ≤ x → x < column + n → reached row x ≡ true) × (rest.number ≡ 0)

  row_only : (row column n : ℕ) (rest : Answer) → (unreached_in_row reached row column n rest).number ≡ 0
      → RowReached row column n rest
  unfolding unreached_in_row pick
  row_only row column zero rest e = ((λ x l h. absurd (omega arith)), e)
  row_only row column (suc n) rest e = go (reached row column) refl (row_only row (suc column) n rest)
    where
      after : Answer
      after = unreached_in_row reached row (suc column) n rest

      at : (x : ℕ) → column ≤ x → x < column + suc n → reached row column ≡ true
          → ((x : ℕ) → suc column ≤ x → x < suc column + n → reached row x ≡ true) → Dec (x ≡ column)
          → reached row x ≡ true
      at x l h p later (yes z) = ap (reached row) z ∙ p
      at x l h p later (no z) = later x (omega arith) (omega arith)

      go : (t : Bool) → reached row column ≡ t → (after.number ≡ 0 → RowReached row (suc column) n rest)
          → RowReached row column (suc n) rest
      go true p ih =
          let q = ih (sym (ap (λ (t : Bool). (found row column after t).number) p) ∙ e) in
          ((λ x l h. at x l h p q.0 (ℕ_discrete x column)), q.1)
      go false p ih =
          let z : ◌≡◌ {A = ℕ} 15 0 = sym (ap (λ (t : Bool). (found row column after t).number) p) ∙ e in
          absurd (omega arith)

  row_if : (row column n : ℕ) (rest : Answer) → ((x : ℕ) → x < column + n → reached row x ≡ true)
      → unreached_in_row reached row column n rest ≡ rest
  unfolding unreached_in_row pick
  row_if row column zero rest a = refl
  row_if row column (suc n) rest a =
      ap (found row column (unreached_in_row reached row (suc column) n rest)) (a column (omega arith))
      ∙ row_if row (suc column) n rest (λ x h. a x (omega arith))

  pub rows_only : (across row n : ℕ) → (unreached reached across row n).number ≡ 0
      → (y x : ℕ) → row ≤ y → y < row + n → x < across → reached y x ≡ true
  unfolding unreached
  rows_only across row zero e y x l h hx = absurd (omega arith)
  rows_only across row (suc n) e y x l h hx =
      let q = row_only row 0 across (unreached reached across (suc row) n) e in
      go (ℕ_discrete y row) q.0 (rows_only across (suc row) n q.1)
    where
      go : Dec (y ≡ row) → ((x : ℕ) → 0 ≤ x → x < 0 + across → reached row x ≡ true)
          → ((y x : ℕ) → suc row ≤ y → y < suc row + n → x < across → reached y x ≡ true) → reached y x ≡ true
      go (yes z) here later = ap (λ (v : ℕ). reached v x) z ∙ here x (omega arith) (omega arith)
      go (no z) here later = later y x (omega arith) (omega arith) hx

  pub rows_if : (across row n : ℕ) → ((y x : ℕ) → y < row + n → x < across → reached y x ≡ true)
      → unreached reached across row n ≡ number_alone 0
  unfolding unreached
  rows_if across row zero a = refl
  rows_if across row (suc n) a =
      row_if row 0 across (unreached reached across (suc row) n) (λ x h. a row x (omega arith) (omega arith))
      ∙ rows_if across (suc row) n (λ y x h hx. a y x (omega arith) hx)
