-- The plain frame's own count and search are those of the marks.
-- Assumes nothing.
use Prim.Native.Nat.{ℕ, zero, suc, ◌+◌, ◌*◌, ◌/◌, ◌%◌, ◌<◌}
use mathlib.Core.Path.{◌≡◌, refl, sym, ap, ap₂, ◌∙◌}
use mathlib.Core.Bool.{Bool, true, false}
use native.Mathlib.Omega.{arith}
use native.Mathlib.Nat.{suc-mul, add-zero}
use lib.Arith.{digits_div, digits_mod}
use Rattle.grid.specs.declared.Grid.{Grid}
use Rattle.common.specs.Tests.{pick}
use Rattle.std.specs.Prelude.{Option, Some, None}
use Rattle.marks.specs.Marks.{one_if, count, first_from, first_not}
use Rattle.marks.proofs.Marks.{count_add}
use Rattle.calls.specs.declared.Answer.{Answer}
use Rattle.calls.specs.Writes.{unmarked_answer}
use Rattle.frame.specs.PlainFrame.{total, reached_count, unreached_in_row, unreached}

one-is : (t : Bool) → one_if t ≡ pick t 1 0
unfolding pick
one-is true = refl
one-is false = refl

total_ext : (f h : ℕ → ℕ) (n : ℕ) → ((k : ℕ) → k < n → f k ≡ h k) → total f n ≡ total h n
unfolding total
total_ext f h zero e = refl
total_ext f h (suc n) e = ap₂ ◌+◌ (total_ext f h n (λ k l. e k (omega arith))) (e n (omega arith))

count-total : (n : ℕ) (t : ℕ → Bool) → count n t ≡ total (λ k. pick (t k) 1 0) n
unfolding count total
count-total zero t = refl
count-total (suc n) t = ap₂ ◌+◌ (count-total n t) (one-is (t n))

rows-total : (across n : ℕ) (t : ℕ → Bool) → count (n * across) t ≡ total (λ row. total (λ column. pick (t (row * across + column)) 1 0) across) n
unfolding total
rows-total across zero t = ap (λ (k : ℕ). count k t) (let e : 0 * across ≡ 0 = omega arith in e) ∙ count-total 0 t
rows-total across (suc n) t =
    ap (λ (k : ℕ). count k t) (suc-mul n across) ∙ count_add (n * across) across t
    ∙ ap₂ ◌+◌ (rows-total across n t) (count-total across (λ i. t (n * across + i)))

-- marks that are the reached blocks, in a grid of `across` by `down` blocks
abbrev pub Agree : ℕ → ℕ → (ℕ → Bool) → (ℕ → ℕ → Bool) → Type 0
Agree across down t reached = (row column : ℕ) → row < down → column < across → t (row * across + column) ≡ reached row column

pub count-is : (g : Grid) (t : ℕ → Bool) (reached : ℕ → ℕ → Bool) → Agree g.nbpr g.nbpc t reached → count (g.nbpr * g.nbpc) t ≡ reached_count g reached
unfolding reached_count
count-is g t reached a =
    ap (λ (k : ℕ). count k t) (let e : g.nbpr * g.nbpc ≡ g.nbpc * g.nbpr = omega arith in e) ∙ rows-total g.nbpr g.nbpc t
    ∙ total_ext _ _ g.nbpc (λ row hr. total_ext _ _ g.nbpr (λ column hc. ap (λ (b : Bool). pick b 1 0) (a row column hr hc)))

-- ---- the first that is not reached

first_opened : (t : ℕ → Bool) (across k i : ℕ) → first_from t across (suc k) i ≡ pick (t i) (first_from t across k (suc i)) (Some (i / across, i % across))
unfolding first_from
first_opened t across k i = refl

first_done : (t : ℕ → Bool) (across i : ℕ) → first_from t across zero i ≡ None
unfolding first_from
first_done t across i = refl

module _ (across : ℕ) (t : ℕ → Bool) (reached : ℕ → ℕ → Bool) where
  one-step : (b : Bool) (row column : ℕ) (rest : Option (ℕ × ℕ)) (own : Answer) → unmarked_answer rest ≡ own
      → unmarked_answer (pick b rest (Some (row, column))) ≡ pick b own (record { number = 15; first = row; second = column })
  unfolding pick
  one-step true row column rest own e = e
  one-step false row column rest own e = refl

  in_row : (row column n m : ℕ) → column + n ≡ across → ((x : ℕ) → x < across → t (row * across + x) ≡ reached row x)
      → unmarked_answer (first_from t across (n + m) (row * across + column)) ≡ unreached_in_row reached row column n (unmarked_answer (first_from t across m (suc row * across)))
  unfolding unreached_in_row
  in_row row column zero m e a =
      let q : row * across + column ≡ suc row * across = omega (arith, suc-mul row across) in
      ap₂ (λ (k i : ℕ). unmarked_answer (first_from t across k i)) (let z : 0 + m ≡ m = omega arith in z) q
  in_row row column (suc n) m e a =
      let z : suc n + m ≡ suc (n + m) = omega arith in
      let c : column < across = omega arith in
      let i : suc (row * across + column) ≡ row * across + suc column = omega arith in
      ap (λ (k : ℕ). unmarked_answer (first_from t across k (row * across + column))) z
      ∙ ap unmarked_answer (first_opened t across (n + m) (row * across + column))
      ∙ (λ j. unmarked_answer (pick (a column c j) (first_from t across (n + m) (i j)) (Some (digits_div row c j, digits_mod row c j))))
      ∙ one-step (reached row column) row column (first_from t across (n + m) (row * across + suc column)) _ (in_row row (suc column) n m (omega arith) a)

  in_rows : (row n : ℕ) → ((y x : ℕ) → y < row + n → x < across → t (y * across + x) ≡ reached y x)
      → unmarked_answer (first_from t across (n * across) (row * across)) ≡ unreached reached across row n
  unfolding unreached
  in_rows row zero a = ap (λ (k : ℕ). unmarked_answer (first_from t across k (row * across))) (let e : 0 * across ≡ 0 = omega arith in e) ∙ ap unmarked_answer (first_done t across (row * across))
  in_rows row (suc n) a =
      ap₂ (λ (k i : ℕ). unmarked_answer (first_from t across k i)) (let e : suc n * across ≡ across + n * across = omega (arith, suc-mul n across) in e) (sym (add-zero (row * across)))
      ∙ in_row row 0 across (n * across) (omega arith) (λ x l. a row x (omega arith) l)
      ∙ ap (unreached_in_row reached row 0 across) (in_rows (suc row) n (λ y x h l. a y x (omega arith) l))

pub first-is : (across down : ℕ) (t : ℕ → Bool) (reached : ℕ → ℕ → Bool) → Agree across down t reached
    → unmarked_answer (first_not t across down) ≡ unreached reached across 0 down
first-is across down t reached a =
    ap (λ (i : ℕ). unmarked_answer (first_from t across (down * across) i)) (let e : 0 ≡ 0 * across = omega arith in e)
    ∙ in_rows across t reached 0 down (λ y x h l. a y x (omega arith) l)
