-- Demand 3 in the request's own words holds.
-- Assumes nothing.
use Prim.Native.Nat.{ℕ, zero, suc, ◌+◌, ◌*◌, min, ◌≤◌, ◌<◌}
use mathlib.Core.Path.{◌≡◌, refl, sym, ap, ap₂, ◌∙◌, subst}
use mathlib.Core.Bool.{true, false}
use mathlib.Core.List.{List}
use native.Mathlib.Omega.{arith}
use borrow.Author.Tests.{le-leb}
use native.Mathlib.Nat.{mod-eq_of_lt, div-add-mod'}
use lib.ListN.{length, take, length-take}
use Rattle.common.specs.Questions.{outcome}
use Rattle.common.specs.Tests.{every, pick}
use Rattle.common.proofs.Questions.{outcome-yes, outcome-zero}
use Rattle.bits.proofs.Bits.{bits_at-is}
use Rattle.widths.specs.declared.Widths.{Widths}
use Rattle.grid.specs.declared.Grid.{Grid}
use Rattle.grid.specs.Check.{Accepted, q2}
use Rattle.grid.specs.Sizes.{sample_bytes, image_bytes, actual_rows, actual_columns}
use Rattle.grid.specs.Layout.{Block, Sample, place}
use Rattle.grid.proofs.Accepted.{Facts, facts, rows-pos, columns-pos, row-start, column-start}
use Rattle.layout.specs.Bands.{band_count, q8, q9}
use Rattle.common.specs.Over.{over}
use Rattle.bits.specs.Bits.{Bytes}
use Rattle.calls.specs.declared.Answer.{Answer}
use Rattle.calls.specs.Answers.{Filled}
use Rattle.calls.specs.Orders.{Window, q10, window_number, start_number}
use Rattle.calls.specs.Reads.{sample_at, window_of, window}
use Rattle.calls.proofs.WindowLaws.{sample_of}
use Rattle.frame.specs.Call.{Call, progress, finish}
use Rattle.frame.specs.Calls.{Start, Accepts, after, in_force}
use Rattle.frame.specs.PlainFrame.{Frame, whole_in_data, number_in_data, number_alone, reached_count, unreached, frame0}
use Rattle.frame.specs.PlainFrame.{frame_progress, frame_finish, frame_step}
use Rattle.frame.specs.Demand3.{plain}
use Rattle.frame.specs.OwnWords.{nothing, these, block_window, block_returned, all_of, last_data, named, last_accepted, is_named, value_in, last_number}
use Rattle.frame.specs.OwnWords.{next, before_last, Words, OwnWords}
use Rattle.frame.proofs.ImageNumbers.{Holding}
use Rattle.frame.proofs.ListOfCalls.{step_ok}
use Rattle.frame.proofs.WindowNumbers.{numbers_ext, number-whole}
use Rattle.frame.proofs.Demand3Holds.{ran, enough, of_numbers}
use Rattle.frame.proofs.LastAccepted.{Known, Taken, all_known}
use Rattle.frame.proofs.FitInData.{whole-kept, block-bytes}
use Rattle.frame.proofs.Unreached.{rows_only, rows_if}

nothing-taken : (ws : Widths) (dat : List ℕ) → nothing ≡ these ws dat → ⊥
nothing-taken ws dat e = cc

value_none : (g : Grid) (row column b r c : ℕ) → value_in g row column b r c nothing ≡ 0
unfolding value_in
value_none g row column b r c = refl

-- a sample of an image that holds numbers is its number
pub sample-is : (g : Grid) (image₀ image : List ℕ) (numbers : ℕ → ℕ → ℕ → ℕ) → Holding g image₀ image numbers
    → (row column b r c : ℕ) → Sample g row column b r c
    → sample_at g image row column b r c ≡ numbers b (row * g.nppbv + r) (column * g.nppbh + c)
unfolding sample_at
sample-is g image₀ image numbers held row column b r c s =
    bits_at-is image (place g row column b r c) g.nbpp _
    (λ i l. held.sample_bits row column b r c i (record { sample = s; in_i = l }))
    ∙ mod-eq_of_lt (held.small b _ _)

progress-first : (k : ℕ) (f : Frame) → (frame_progress k f).number ≡ 0
    → (frame_progress k f).first ≡ reached_count f.grid f.reached
unfolding frame_progress outcome
progress-first zero f e = refl
progress-first (suc k) f e = absurd (omega arith)

-- ---- the window of a block

-- it is inside the picture
block_inside : (g : Grid) → Facts g → (row column : ℕ) → Block g row column → q10 g (block_window g row column) ≡ true
unfolding q10 every actual_rows actual_columns
block_inside g f row column t =
    simp (
      le-leb 1 (actual_rows g row) (omega (arith, rows-pos g f row t.in_row)),
      le-leb 1 (actual_columns g column) (omega (arith, columns-pos g f column t.in_column)),
      le-leb (row * g.nppbv + actual_rows g row) g.nrows (omega (arith, row-start g f row t.in_row)),
      le-leb (column * g.nppbh + actual_columns g column) g.ncols (omega (arith, column-start g f column t.in_column)),
    )

-- a table that takes the width accepts it on the image's bytes, with room for all samples
block_open : (ws : Widths) (g : Grid) → Accepted g → q2 ws g ≡ true → (row column : ℕ) → Block g row column → (n m : ℕ)
    → image_bytes g ≤ n → g.bands * actual_rows g row * actual_columns g column * sample_bytes g ≤ m
    → window_number ws g n (block_window g row column) m ≡ 0
unfolding q8 q9 band_count pick
block_open ws g a takes row column t n m fits room =
    number-whole ws g a n (block_window g row column) m fits
    ∙ rw (takes, block_inside g (facts g a) row column t, le-leb _ m room)

-- a window's number is its answer's
window_zero : (ws : Widths) (g : Grid) (image : List ℕ) (w : Window) (out : List ℕ)
    → (window ws g image w out).shape.number ≡ 0 → window_number ws g (length image) w (length out) ≡ 0
unfolding window window_of
window_zero ws g image w out z = outcome-zero _ _ _ (λ (x : Filled). x.shape.number) (λ k. refl) z

-- ---- after a list of calls

module _ (s : Start) (cs : List Call) (e : Accepts s) where
  abbrev f : Frame
  f = (plain s cs).frame

  known : Known f (last_accepted s cs) (is_named s cs)
  unfolding frame0
  known =
      subst (λ (l : List Answer). Known f (λ row column. last_data cs l row column nothing)
      (λ row column. named cs l row column false))
      (sym (ran s cs e).answers)
      (all_known cs (frame0 s.grid (length s.image) (length s.marks)) (λ row column. nothing)
      (λ row column. false)
      (record {
        numbers = λ row column b r c t. sym (value_none s.grid row column b r c);
        taken = λ row column ws dat z. absurd (nothing-taken ws dat z);
        reached = λ row column. refl;
      }))

  answered : (c : Call) → next s cs c ≡ (frame_step c f).answer
  answered c = (step_ok s.grid s.image s.marks _ (after s cs).state f (ran s cs e).inv c).answer

  -- the plain frame's numbers on the grid in force
  numbers : (row column b r c : ℕ) → Sample (in_force s cs) row column b r c
      → f.numbers b (row * (in_force s cs).nppbv + r) (column * (in_force s cs).nppbh + c)
      ≡ value_in (in_force s cs) row column b r c (last_accepted s cs row column)
  numbers row column b r c =
      subst (λ (g : Grid). Sample g row column b r c
      → f.numbers b (row * g.nppbv + r) (column * g.nppbh + c)
      ≡ value_in g row column b r c (last_accepted s cs row column))
      (ran s cs e).inv.f-grid (known.numbers row column b r c)

  numbers_are : (b y x : ℕ) → b < (in_force s cs).bands → y < (in_force s cs).nrows → x < (in_force s cs).ncols
      → f.numbers b y x ≡ last_number s cs b y x
  unfolding last_number
  numbers_are b y x hb hy hx =
      let g : Grid = in_force s cs in
      ap₂ (f.numbers b) (sym (div-add-mod' y g.nppbv)) (sym (div-add-mod' x g.nppbh))
      ∙ numbers _ _ b _ _ (sample_of g (facts g (enough s cs e).accepted) b y x hb hy hx)

  windows : (ws : Widths) (n : ℕ) (w : Window) (out : List ℕ)
      → window ws (in_force s cs) (take n (after s cs).state.image) w out
      ≡ window_of ws (in_force s cs) (last_number s cs) (length (take n (after s cs).state.image)) w out
  windows ws n w out =
      of_numbers s cs e ws n w out
      ∙ numbers_ext ws (in_force s cs) (enough s cs e).accepted f.numbers (last_number s cs) numbers_are _ w out

  samples : (row column b r c : ℕ) → Sample (in_force s cs) row column b r c
      → sample_at (in_force s cs) (after s cs).state.image row column b r c
      ≡ value_in (in_force s cs) row column b r c (last_accepted s cs row column)
  samples row column b r c t =
      sample-is (in_force s cs) s.image (after s cs).state.image f.numbers (ran s cs e).inv.held
      row column b r c t
      ∙ numbers row column b r c t

  taken : (row column : ℕ) (ws : Widths) (dat : List ℕ) → last_accepted s cs row column ≡ these ws dat
      → Taken (in_force s cs) row column ws dat
  taken row column ws dat z =
      subst (λ (g : Grid). Taken g row column ws dat) (ran s cs e).inv.f-grid (known.taken row column ws dat z)

  whole : (row column : ℕ) (ws : Widths) (dat : List ℕ) → last_accepted s cs row column ≡ these ws dat
      → (b r c : ℕ) → Sample (in_force s cs) row column b r c
      → number_in_data (in_force s cs) row column dat b r c ≡ whole_in_data (in_force s cs) row column dat b r c
  whole row column ws dat z = whole-kept (in_force s cs) row column dat (taken row column ws dat z).fit

  -- the plain frame's numbers in a block are its data's whole numbers
  block-numbers : (row column : ℕ) (ws : Widths) (dat : List ℕ) → last_accepted s cs row column ≡ these ws dat
      → (b r c : ℕ) → Sample (in_force s cs) row column b r c
      → f.numbers b (row * (in_force s cs).nppbv + r) (column * (in_force s cs).nppbh + c)
      ≡ whole_in_data (in_force s cs) row column dat b r c
  unfolding value_in
  block-numbers row column ws dat z b r c t =
      numbers row column b r c t ∙ ap (value_in (in_force s cs) row column b r c) z ∙ whole row column ws dat z b r c t

  -- an accepted window of a block, with any table, gives the data that were last accepted for it
  block_answer : (row column : ℕ) (ws : Widths) (dat : List ℕ) → last_accepted s cs row column ≡ these ws dat → Bytes dat
      → (vs : Widths) (n : ℕ) (out : List ℕ)
      → window_number vs (in_force s cs) (length (take n (after s cs).state.image)) (block_window (in_force s cs) row column)
      (length out)
      ≡ 0
      → block_returned s cs row column vs n out ≡ all_of (in_force s cs) row column (over out 0 dat)
  block_answer row column ws dat z bytes vs n out q =
      let g : Grid = in_force s cs in
      let t = taken row column ws dat z in
      of_numbers s cs e vs n (block_window g row column) out
      ∙ block-bytes g (facts g t.enough) row column t.block dat t.exact bytes vs f.numbers
      (block-numbers row column ws dat z) _ out q

  returned : (row column : ℕ) (ws : Widths) (dat : List ℕ) → last_accepted s cs row column ≡ these ws dat → Bytes dat
      → (n : ℕ) (out : List ℕ) → image_bytes (in_force s cs) ≤ n → length dat ≤ length out
      → block_returned s cs row column ws n out ≡ all_of (in_force s cs) row column (over out 0 dat)
  returned row column ws dat z bytes n out fits room =
      let g : Grid = in_force s cs in
      let t = taken row column ws dat z in
      let now = (after s cs).state.image in
      block_answer row column ws dat z bytes ws n out
      (block_open ws g t.enough t.width row column t.block (length (take n now)) (length out)
      (omega (arith, (enough s cs e).bytes, length-take n now)) (omega (arith, t.exact)))

  returned_if_accepted : (row column : ℕ) (ws : Widths) (dat : List ℕ)
      → last_accepted s cs row column ≡ these ws dat → Bytes dat
      → (vs : Widths) (n : ℕ) (out : List ℕ) → (block_returned s cs row column vs n out).shape.number ≡ 0
      → (block_returned s cs row column vs n out).out ≡ over out 0 dat
  returned_if_accepted row column ws dat z bytes vs n out q =
      ap (λ (x : Filled). x.out) (block_answer row column ws dat z bytes vs n out (window_zero vs _ _ _ out q))

  progress-counts : (ws : Widths) (m : ℕ) → (next s cs (progress ws m)).number ≡ 0
      → (next s cs (progress ws m)).first ≡ reached_count (in_force s cs) (is_named s cs)
  unfolding frame_step
  progress-counts ws m z =
      let a = answered (progress ws m) in
      ap (λ (x : Answer). x.first) a ∙ progress-first _ f (sym (ap (λ (x : Answer). x.number) a) ∙ z)
      ∙ (λ j. reached_count ((ran s cs e).inv.f-grid j) (λ row column. known.reached row column j))

  finish-answer : (ws : Widths) (n m : ℕ) → before_last s cs ws n m ≡ 0
      → next s cs (finish ws n m) ≡ unreached f.reached (in_force s cs).nbpr 0 (in_force s cs).nbpc
  unfolding frame_step frame_finish
  finish-answer ws n m z =
      let i = (ran s cs e).inv in
      let now = (after s cs).state in
      let bytes : min n f.image_length ≡ length (take n now.image)
      = ap (min n) (i.image-known ∙ sym i.held.size) ∙ sym (length-take n now.image) in
      let words : min m f.marks_length ≡ length (take m now.marks)
      = ap (min m) (i.marks-known ∙ sym i.reached.size) ∙ sym (length-take m now.marks) in
      answered (finish ws n m)
      ∙ outcome-yes _ number_alone ((λ j. start_number ws (i.f-grid j) (bytes j) (words j)) ∙ z)
      ∙ ap (λ (g : Grid). unreached f.reached g.nbpr 0 g.nbpc) i.f-grid

  words : Words s cs
  words =
      record {
        windows = windows;
        samples = samples;
        whole = whole;
        returned = returned;
        returned_if_accepted = returned_if_accepted;
        progress-counts = progress-counts;
        finish_only = λ ws n m z q row column t. sym (known.reached row column)
            ∙ rows_only f.reached (in_force s cs).nbpr 0 (in_force s cs).nbpc
            (sym (ap (λ (x : Answer). x.number) (finish-answer ws n m z)) ∙ q)
            row column (omega arith) (omega (arith, t.in_row)) t.in_column;
        finish_if = λ ws n m z all. ap (λ (x : Answer). x.number)
            (finish-answer ws n m z
            ∙ rows_if f.reached (in_force s cs).nbpr 0 (in_force s cs).nbpc
            (λ y x h hx. known.reached y x ∙ all y x (record { in_row = omega arith; in_column = hx })));
      }

pub own-words : OwnWords
own-words = words
