-- Laws of marks: of one mark, of how many pass a test, and of the first that does not.
-- Assumes nothing.
use mathlib.Core.Path.{◌≡◌, refl, sym, ap, ap₂, ◌∙◌}
use mathlib.Core.Bool.{Bool, true, false}
use mathlib.Core.List.{List, ◌++◌}
use Prim.Native.Nat.{ℕ, zero, suc, ◌+◌, ◌*◌, ◌/◌, ◌%◌, ◌≤◌, ◌<◌}
use native.Mathlib.Nat.{mod-lt, add-zero, add-suc, add_assoc, div-add-mod', zero-div, lt_of_mul-lt-mul_right}
use native.Mathlib.Decide.{ℕ_discrete, dec_lt}
use native.Mathlib.Omega.{arith}
use borrow.Author.Tests.{eq-eqb}
use lib.Dec.{eqb}
use lib.ListN.{length, get_or, set, take, replicate, length-set, length-replicate, get_or-replicate, get_or-append}
use lib.Seq.{get_or-set_same, get_or-set_other, set_out, get_or-take}
use Rattle.bits.specs.Bits.{bit_of, with_bit}
use Rattle.bits.proofs.Bits.{with_bit-same, with_bit-other}
use Rattle.common.specs.Tests.{pick}
use Rattle.std.specs.Prelude.{Option, Some, None}
use Rattle.marks.specs.Marks.{marked, mark, one_if, count, first_from, first_not, unmarked_row, unmarked_column}

-- ---- one mark

pub length-mark : (ms : List ℕ) (i : ℕ) → length (mark ms i) ≡ length ms
unfolding mark
length-mark ms i = simp length-set

-- a mark is known by its word
same_word : (ms ns : List ℕ) (i : ℕ) → get_or ms (i / 64) 0 ≡ get_or ns (i / 64) 0 → marked ms i ≡ marked ns i
unfolding marked
same_word ms ns i e = ap (λ (w : ℕ). eqb (bit_of w (i % 64)) 1) e

pub mark-same : (ms : List ℕ) (i : ℕ) → i / 64 < length ms → marked (mark ms i) i ≡ true
unfolding marked mark
mark-same ms i h =
    rw (get_or-set_same ms (i / 64) _ 0 h) (eq-eqb _ 1 (with_bit-same (get_or ms (i / 64) 0) (i % 64) 1 (omega arith)))

pub mark-other : (ms : List ℕ) (i j : ℕ) → (j ≡ i → ⊥) → marked (mark ms i) j ≡ marked ms j
unfolding marked mark
mark-other ms i j ne = go (ℕ_discrete (j / 64) (i / 64)) (dec_lt (i / 64) (length ms))
  where
    w : ℕ
    w = with_bit (get_or ms (i / 64) 0) (i % 64) 1

    go : Dec (j / 64 ≡ i / 64) → Dec (i / 64 < length ms) → marked (set ms (i / 64) w) j ≡ marked ms j
    go (yes e) (yes h) =
        rw (e, get_or-set_same ms (i / 64) w 0 h)
        (ap (λ (b : ℕ). eqb b 1)
        (with_bit-other (get_or ms (i / 64) 0) (i % 64) (j % 64) 1 (omega arith) (λ f. ne (omega arith))))
    go (yes e) (no h) = ap (λ (ns : List ℕ). marked ns j) (set_out ms (i / 64) w (omega arith))
    go (no e) d = same_word (set ms (i / 64) w) ms j (get_or-set_other ms (i / 64) (j / 64) w 0 e)

pub marked-take : (n : ℕ) (ms : List ℕ) (i : ℕ) → i / 64 < n → marked (take n ms) i ≡ marked ms i
marked-take n ms i h = same_word (take n ms) ms i (get_or-take n ms (i / 64) 0 h)

pub marked-left : (ms rest : List ℕ) (i : ℕ) → i / 64 < length ms → marked (ms ++ rest) i ≡ marked ms i
marked-left ms rest i h = same_word (ms ++ rest) ms i (get_or-append ms rest 0 (i / 64) h)

pub marked-zeros : (n : ℕ) (rest : List ℕ) (i : ℕ) → i / 64 < n → marked (replicate n 0 ++ rest) i ≡ false
unfolding marked
marked-zeros n rest i h =
    rw (get_or-append (replicate n 0) rest 0 (i / 64) (rw length-replicate h), get_or-replicate {A = ℕ} n (i / 64) 0 0 h, zero-div)

-- ---- how many of the first n pass a test

one-le : (b : Bool) → one_if b ≤ 1
one-le true = omega arith
one-le false = omega arith

one_true : (b : Bool) → one_if b ≡ 1 → b ≡ true
one_true true e = refl
one_true false e = absurd (omega arith)

pub count-le : (n : ℕ) (f : ℕ → Bool) → count n f ≤ n
unfolding count
count-le zero f = omega arith
count-le (suc n) f = omega (arith, count-le n f, one-le (f n))

pub count_ext : (n : ℕ) (f h : ℕ → Bool) → ((i : ℕ) → i < n → f i ≡ h i) → count n f ≡ count n h
unfolding count
count_ext zero f h e = refl
count_ext (suc n) f h e = ap₂ (λ (a : ℕ) (b : Bool). a + one_if b) (count_ext n f h (λ i l. e i (omega arith))) (e n (omega arith))

pub count-all : (n : ℕ) (f : ℕ → Bool) → count n f ≡ n → (i : ℕ) → i < n → f i ≡ true
unfolding count
count-all zero f e i l = absurd (omega arith)
count-all (suc n) f e i l =
    go (ℕ_discrete i n)
    (count-all n f (omega (arith, count-le n f, one-le (f n))) i)
    (one_true (f n) (omega (arith, count-le n f, one-le (f n))))
  where
    go : Dec (i ≡ n) → (i < n → f i ≡ true) → f n ≡ true → f i ≡ true
    go (yes q) before here = rw q here
    go (no q) before here = before (omega arith)

-- the first n, then the k from there on
pub count_add : (n k : ℕ) (f : ℕ → Bool) → count (n + k) f ≡ count n f + count k (λ i. f (n + i))
unfolding count
count_add n zero f = rw (add-zero n, add-zero (count n f))
count_add n (suc k) f = rw add-suc (ap (λ (a : ℕ). a + one_if (f (n + k))) (count_add n k f) ∙ add_assoc _ _ _)

-- ---- the first that does not pass

-- one step of the search
pub passed : (f : ℕ → Bool) (across k i : ℕ) → f i ≡ true → first_from f across (suc k) i ≡ first_from f across k (suc i)
unfolding first_from pick
passed f across k i e = rw e

pub failed : (f : ℕ → Bool) (across k i : ℕ) → f i ≡ false → first_from f across (suc k) i ≡ Some (i / across, i % across)
unfolding first_from pick
failed f across k i e = rw e

from_ext : (f h : ℕ → Bool) (across k i : ℕ) → ((j : ℕ) → i ≤ j → j < i + k → f j ≡ h j) → first_from f across k i ≡ first_from h across k i
unfolding first_from
from_ext f h across zero i e = refl
from_ext f h across (suc k) i e =
    ap₂ (λ (b : Bool) (r : Option (ℕ × ℕ)). pick b r (Some (i / across, i % across)))
    (e i (omega arith) (omega arith))
    (from_ext f h across k (suc i) (λ j a b. e j (omega arith) (omega arith)))

pub first_ext : (f h : ℕ → Bool) (across down : ℕ) → ((i : ℕ) → i < down * across → f i ≡ h i) → first_not f across down ≡ first_not h across down
first_ext f h across down e = from_ext f h across (down * across) 0 (λ j a b. e j (omega arith))

-- the two answers are not the same
block_none : {block : ℕ × ℕ} → Some block ≡ None → ⊥
block_none e = let z : ◌≡◌ {A = ℕ} 0 1 = cc in omega arith

-- None is the answer where all pass, and only there
from-none : (f : ℕ → Bool) (across k i : ℕ) → first_from f across k i ≡ None → (j : ℕ) → i ≤ j → j < i + k → f j ≡ true
from-none f across zero i e j a b = absurd (omega arith)
from-none f across (suc k) i e j a b = go (from-none f across k (suc i)) (f i) refl (ℕ_discrete j i)
  where
    go : (first_from f across k (suc i) ≡ None → (m : ℕ) → suc i ≤ m → m < suc i + k → f m ≡ true)
        → (t : Bool) → f i ≡ t → Dec (j ≡ i) → f j ≡ true
    go rest true p (yes q) = rw q p
    go rest true p (no q) = rest (sym (passed f across k i p) ∙ e) j (omega arith) (omega arith)
    go rest false p d = absurd (block_none (sym (failed f across k i p) ∙ e))

pub first-none : (f : ℕ → Bool) (across down : ℕ) → first_not f across down ≡ None → (i : ℕ) → i < down * across → f i ≡ true
first-none f across down e i l = from-none f across (down * across) 0 e i (omega arith) (omega arith)

from_all : (f : ℕ → Bool) (across k i : ℕ) → ((j : ℕ) → i ≤ j → j < i + k → f j ≡ true) → first_from f across k i ≡ None
unfolding first_from
from_all f across zero i h = refl
from_all f across (suc k) i h =
    passed f across k i (h i (omega arith) (omega arith))
    ∙ from_all f across k (suc i) (λ j a b. h j (omega arith) (omega arith))

pub first-all : (f : ℕ → Bool) (across down : ℕ) → ((i : ℕ) → i < down * across → f i ≡ true) → first_not f across down ≡ None
first-all f across down h = from_all f across (down * across) 0 (λ j a b. h j (omega arith))

-- what such an answer says of k blocks from index i on
record FromBlock (f : ℕ → Bool) (across k i row column : ℕ) : Type 0 where
  fails : f (row * across + column) ≡ false
  from : i ≤ row * across + column
  until : row * across + column < i + k
  column_in : column < across
  before : (j : ℕ) → i ≤ j → j < row * across + column → f j ≡ true

from_block : (f : ℕ → Bool) (across k i row column : ℕ) → 0 < across → first_from f across k i ≡ Some (row, column) → FromBlock f across k i row column
unfolding first_from
from_block f across zero i row column l e = absurd (block_none (sym e))
from_block f across (suc k) i row column l e = go (from_block f across k (suc i) row column l) (f i) refl
  where
    go : (first_from f across k (suc i) ≡ Some (row, column) → FromBlock f across k (suc i) row column)
        → (t : Bool) → f i ≡ t → FromBlock f across (suc k) i row column
    go rest true p =
        let r : FromBlock f across k (suc i) row column = rest (sym (passed f across k i p) ∙ e) in
        record {
          fails = r.fails;
          from = omega (arith, r.from);
          until = omega (arith, r.until);
          column_in = r.column_in;
          before = λ j a b. here r j a b (ℕ_discrete j i);
        }
      where
        here : FromBlock f across k (suc i) row column → (j : ℕ) → i ≤ j → j < row * across + column → Dec (j ≡ i) → f j ≡ true
        here r j a b (yes q) = rw q p
        here r j a b (no q) = r.before j (omega arith) b
    go rest false p =
        let b : Some (i / across, i % across) ≡ Some (row, column) = sym (failed f across k i p) ∙ e in
        let r : i / across ≡ row = ap unmarked_row b in
        let c : i % across ≡ column = ap unmarked_column b in
        let q : row * across + column ≡ i = ap₂ (λ (x y : ℕ). x * across + y) (sym r) (sym c) ∙ div-add-mod' i across in
        record {
          fails = rw q p;
          from = omega arith;
          until = omega arith;
          column_in = rw c at (mod-lt i l);
          before = λ j a b. absurd (omega arith);
        }

-- what such an answer says of a grid
pub record FirstBlock (f : ℕ → Bool) (across down row column : ℕ) : Type 0 where
  pub fails : f (row * across + column) ≡ false
  pub row_in : row < down
  pub column_in : column < across
  pub before : (i : ℕ) → i < row * across + column → f i ≡ true

pub first_block : (f : ℕ → Bool) (across down row column : ℕ) → first_not f across down ≡ Some (row, column) → 0 < across → FirstBlock f across down row column
first_block f across down row column e l =
    let r : FromBlock f across (down * across) 0 row column = from_block f across (down * across) 0 row column l e in
    record {
      fails = r.fails;
      row_in = lt_of_mul-lt-mul_right across (omega (arith, r.until));
      column_in = r.column_in;
      before = λ i b. r.before i (omega arith) b;
    }
