-- The marks are the reached blocks: after a start, and after a block is reached; and the answers that look at them.
-- Assumes nothing.
use Prim.Native.Nat.{ℕ, zero, suc, ◌*◌, ◌/◌, ◌≤◌, ◌<◌}
use mathlib.Core.Path.{◌≡◌, refl, sym, ap, ap₂, ◌∙◌}
use mathlib.Core.Bool.{Bool, true, false}
use mathlib.Core.List.{List, ◌++◌}
use native.Mathlib.Omega.{arith}
use native.Mathlib.Decide.{ℕ_discrete}
use borrow.Author.Tests.{eq-eqb, ne_eqb}
use lib.ListN.{length, take, drop, replicate, length-take, length-replicate, take-append-drop}
use lib.Seq.{length_front, drop-append-le, drop-set-lt}
use Rattle.common.specs.Questions.{outcome}
use Rattle.common.specs.Over.{over}
use Rattle.common.specs.Tests.{every}
use Rattle.common.proofs.Arith.{two_digits}
use Rattle.grid.specs.declared.Grid.{Grid}
use Rattle.grid.specs.Sizes.{blocks, block_index}
use Rattle.grid.specs.Layout.{Block}
use Rattle.grid.proofs.Accepted.{index_lt}
use Rattle.marks.specs.Marks.{mark_words, marked, mark}
use Rattle.marks.proofs.Marks.{length-mark, mark-same, mark-other, marked-take, marked-left, marked-zeros}
use Rattle.calls.specs.Writes.{progress_answer, finish_answer}
use Rattle.frame.specs.PlainFrame.{Frame, reach, frame_progress, frame_finish}
use Rattle.frame.proofs.Bounded.{Below, zeros-below, mark-below, left_below, take_below}
use Rattle.frame.proofs.PlainBlocks.{count-is, first-is}
use Rattle.frame.proofs.ListBits.{drop_past}
use Rattle.frame.proofs.Lengths.{length-zeros}

-- the marks, which were marks₀ before the start, are the reached blocks, with zeros after the last and their surplus as
-- it was
pub record Marking (g : Grid) (marks₀ marks : List ℕ) (reached : ℕ → ℕ → Bool) : Type 0 where
  pub size : length marks ≡ length marks₀
  pub surplus : drop (mark_words (blocks g)) marks ≡ drop (mark_words (blocks g)) marks₀
  pub each : (row column : ℕ) → Block g row column → marked marks (block_index g row column) ≡ reached row column
  pub beyond : (i : ℕ) → blocks g ≤ i → i < mark_words (blocks g) * 64 → marked marks i ≡ false
  pub words : Below 64 (mark_words (blocks g)) marks

word_lt : (g : Grid) (i : ℕ) → i < blocks g → i / 64 < mark_words (blocks g)
word_lt g i h = omega arith

pub marks-started : (g : Grid) (marks : List ℕ) → mark_words (blocks g) ≤ length marks
    → Marking g marks (over marks 0 (replicate (mark_words (blocks g)) 0)) (λ row column. false)
unfolding over
marks-started g marks h =
    let w : ℕ = mark_words (blocks g) in
    let size : length (replicate {A = ℕ} w 0) ≡ w = length-replicate w 0 in
    record {
      size = length-zeros marks w h;
      surplus = drop_past w marks 0 (replicate w 0) (omega (arith, size)) (omega (arith, size));
      each = λ row column t. marked-zeros w _ (block_index g row column) (word_lt g _ (index_lt g row column t));
      beyond = λ i l u. marked-zeros w _ i (omega arith);
      words = zeros-below 64 w marks 0 w (omega arith) (λ i l d. absurd (omega (arith, d (omega arith))));
    }

-- ---- one block more is reached

reach-same : (reached : ℕ → ℕ → Bool) (row column y x : ℕ) → y ≡ row → x ≡ column
    → reach row column reached y x ≡ true
unfolding reach every
reach-same reached row column y x e f = rw (eq-eqb y row e, eq-eqb x column f)

reach-other : (reached : ℕ → ℕ → Bool) (row column y x : ℕ) → (y ≡ row → x ≡ column → ⊥)
    → reach row column reached y x ≡ reached y x
unfolding reach every
reach-other reached row column y x ne = go (ℕ_discrete y row) (ℕ_discrete x column)
  where
    go : Dec (y ≡ row) → Dec (x ≡ column) → reach row column reached y x ≡ reached y x
    go (yes e) (yes f) = absurd (ne e f)
    go (yes e) (no n) = rw (eq-eqb y row e, ne_eqb x column n)
    go (no n) d = rw (ne_eqb y row n)

module _ (g : Grid) (marks₀ marks : List ℕ) (reached : ℕ → ℕ → Bool) (held : Marking g marks₀ marks reached) (m : ℕ)
    (fits : mark_words (blocks g) ≤ length (take m marks)) where
  -- the first m words, which are lent, have all the marks
  pub lent-marks : (row column : ℕ) → Block g row column
      → marked (take m marks) (block_index g row column) ≡ reached row column
  lent-marks row column t =
      marked-take m marks (block_index g row column)
      (omega (arith, word_lt g _ (index_lt g row column t), length-take m marks))
      ∙ held.each row column t

  drop-mark : (i : ℕ) → i < blocks g
      → drop (mark_words (blocks g)) (mark (take m marks) i) ≡ drop (mark_words (blocks g)) (take m marks)
  unfolding mark
  drop-mark i h = drop-set-lt (mark_words (blocks g)) (take m marks) (i / 64) _ (word_lt g i h)

  module _ (row column : ℕ) (t : Block g row column) where
    abbrev i : ℕ
    i = block_index g row column

    h : i < blocks g
    h = index_lt g row column t

    size : length (mark (take m marks) i) ≡ length (take m marks)
    size = length-mark (take m marks) i

    each-mark : (y x : ℕ) → Block g y x → Dec (block_index g y x ≡ i)
        → marked (mark (take m marks) i) (block_index g y x) ≡ reach row column reached y x
    each-mark y x u (yes e) =
        let d = two_digits g.nbpr y x row column u.in_column t.in_column e in
        ap (marked (mark (take m marks) i)) e ∙ mark-same (take m marks) i (omega (arith, word_lt g i h))
        ∙ sym (reach-same reached row column y x d.0 d.1)
    each-mark y x u (no ne) =
        mark-other (take m marks) i (block_index g y x) ne ∙ lent-marks y x u
        ∙ sym (reach-other reached row column y x (λ e f. ne (ap₂ (block_index g) e f)))

    -- a mark in the first m words, which came back in front of the rest
    pub marks-reached : Marking g marks₀ (mark (take m marks) i ++ drop m marks) (reach row column reached)
    marks-reached =
        record {
          size = length_front marks (mark (take m marks) i) m size ∙ held.size;
          surplus = drop-append-le (mark_words (blocks g)) (mark (take m marks) i) (drop m marks) (omega (arith, size))
              ∙ ap (λ (l : List ℕ). l ++ drop m marks) (drop-mark i h)
              ∙ sym (drop-append-le (mark_words (blocks g)) (take m marks) (drop m marks) fits)
              ∙ ap (drop (mark_words (blocks g))) (take-append-drop m marks) ∙ held.surplus;
          each = λ y x u. marked-left (mark (take m marks) i) (drop m marks) (block_index g y x)
              (omega (arith, size, word_lt g _ (index_lt g y x u)))
              ∙ each-mark y x u (ℕ_discrete (block_index g y x) i);
          beyond = λ j l u. marked-left (mark (take m marks) i) (drop m marks) j (omega (arith, size))
              ∙ mark-other (take m marks) i j (λ q. omega (arith, h))
              ∙ marked-take m marks j (omega (arith, length-take m marks)) ∙ held.beyond j l u;
          words = left_below 64 (mark_words (blocks g)) (mark (take m marks) i) (drop m marks) (omega (arith, size))
              (mark-below (mark_words (blocks g)) (take m marks) i
              (take_below 64 (mark_words (blocks g)) m marks (omega (arith, length-take m marks)) held.words));
        }

-- ---- the answers are known by the blocks' marks

-- marks that are the reached blocks
abbrev pub MarksAre : Grid → (ℕ → Bool) → (ℕ → ℕ → Bool) → Type 0
MarksAre g t reached = (row column : ℕ) → Block g row column → t (block_index g row column) ≡ reached row column

pub progress-is : (n : ℕ) (f : Frame) (t : ℕ → Bool) → (n ≡ 0 → MarksAre f.grid t f.reached)
    → progress_answer n f.grid t ≡ frame_progress n f
unfolding outcome frame_progress
progress-is zero f t e =
    ap (λ (x : ℕ). record { number = 0; first = x; second = 0 })
    (count-is f.grid t f.reached
    (λ row column hr hc. e refl row column (record { in_row = hr; in_column = hc })))
progress-is (suc n) f t e = refl

pub finish-is : (n : ℕ) (f : Frame) (t : ℕ → Bool) → (n ≡ 0 → MarksAre f.grid t f.reached)
    → finish_answer n f.grid t ≡ frame_finish n f
unfolding outcome frame_finish
finish-is zero f t e =
    first-is f.grid.nbpr f.grid.nbpc t f.reached
    (λ row column hr hc. e refl row column (record { in_row = hr; in_column = hc }))
finish-is (suc n) f t e = refl
