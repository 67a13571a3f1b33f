-- The induction over the list of calls: each call answers as the plain frame does, and leaves what it holds.
-- Assumes nothing.
use Prim.Native.Nat.{ℕ, zero, suc, ◌+◌, ◌*◌, min, ◌≤◌}
use mathlib.Core.Path.{◌≡◌, refl, sym, ap, ap₂, ◌∙◌, subst, subst₂}
use mathlib.Core.Bool.{Bool, true, false, ◌||◌}
use mathlib.Core.List.{List, [], ◌∷◌, ◌++◌, append_assoc}
use native.Mathlib.Omega.{arith}
use borrow.Author.Tests.{ne_eqb}
use lib.Dec.{eqb}
use lib.ListN.{length, take, drop, replicate, length-take, length-replicate, take-append-drop}
use lib.Seq.{drop-append-le}
use Rattle.common.specs.Questions.{outcome}
use Rattle.common.specs.Over.{over}
use Rattle.common.specs.Tests.{pick}
use Rattle.common.proofs.Questions.{outcome-yes}
use Rattle.grid.specs.declared.Grid.{Grid}
use Rattle.grid.specs.Sizes.{sample_bytes, band_bytes, blocks, image_bytes, block_index, actual_rows, actual_columns}
use Rattle.grid.specs.Layout.{Block}
use Rattle.grid.specs.EdgeRules.{under_full}
use Rattle.grid.proofs.Accepted.{facts}
use Rattle.marks.specs.Marks.{mark_words, marked, mark}
use Rattle.calls.specs.Answers.{FrameOut}
use Rattle.calls.specs.Writes.{frame_out, number, unchanged, start, store_block}
use Rattle.calls.specs.Orders.{start_number, write_number, skip_number, progress_number, relay_number}
use Rattle.calls.specs.Writes as W
use Rattle.calls.specs.Relay.{relaid, Relaid}
use Rattle.calls.specs.Relay as L
use Rattle.frame.specs.Call.{Call, write, skip, progress, finish, relay}
use Rattle.frame.specs.Calls.{State, Step, put_back, put_back_relaid, step, Called, call_all, Start, Accepts, started}
use Rattle.frame.specs.Calls.{relaid_after, any_relaid}
use Rattle.frame.specs.PlainFrame.{Frame, FrameStep, FrameCalled, frame0, fit_in_data, frame_write, frame_skip}
use Rattle.frame.specs.PlainFrame.{frame_progress, frame_finish, frame_relay, frame_step, frame_call_all}
use Rattle.calls.proofs.Numbers.{Enough, start-facts, write-facts, write_data, write_same, skip-facts, progress-facts}
use Rattle.calls.proofs.Numbers.{relay-facts}
use Rattle.frame.proofs.FitInData.{fit_is}
use Rattle.frame.proofs.ImageNumbers.{Holding, image-started, image-written}
use Rattle.frame.proofs.MarksReached.{Marking, marks-started, lent-marks, marks-reached, progress-is, finish-is}
use Rattle.frame.proofs.RelaidNumbers.{image_relaid, marks_relaid}

-- what a write, a skip and a re-lay leave, by their number
abbrev write_by : ℕ → Grid → List ℕ → List ℕ → ℕ → ℕ → List ℕ → FrameOut
write_by k g image marks row column dat =
    outcome k
    (frame_out (number 0) (store_block g row column dat image) (mark marks (block_index g row column)))
    (unchanged image marks)

abbrev skip_by : ℕ → Grid → List ℕ → List ℕ → ℕ → ℕ → FrameOut
skip_by k g image marks row column =
    outcome k (frame_out (number 0) image (mark marks (block_index g row column))) (unchanged image marks)

abbrev relay_by : ℕ → Grid → List ℕ → List ℕ → Relaid
relay_by k g image scratch =
    outcome k
    (record {
      number = 0;
      grid = under_full g;
      image = relaid g image;
      scratch = over scratch 0 (replicate (g.bands * band_bytes g) 0);
    })
    (λ n. record { number = n; grid = g; image = image; scratch = scratch })

-- after a start with grid g₀ on image₀ and marks₀, with a re-lay accepted since or without: the grid in force is that
-- one, or that one under full, and the plain frame's, which knows the lengths, and image and marks are as it says
pub record Inv (g₀ : Grid) (image₀ marks₀ : List ℕ) (full : Bool) (s : State) (f : Frame) : Type 0 where
  pub grid : s.grid ≡ pick full (under_full g₀) g₀
  pub f-grid : f.grid ≡ s.grid
  pub image-known : f.image_length ≡ length image₀
  pub marks-known : f.marks_length ≡ length marks₀
  pub held : Holding s.grid image₀ s.image f.numbers
  pub reached : Marking s.grid marks₀ s.marks f.reached

pub record StepOk (g₀ : Grid) (image₀ marks₀ : List ℕ) (full : Bool) (o : Step) (fo : FrameStep) : Type 0 where
  pub answer : o.answer ≡ fo.answer
  pub inv : Inv g₀ image₀ marks₀ full o.state fo.frame

-- the grid in force under full
full_of : (g₀ g : Grid) (full : Bool) → g ≡ pick full (under_full g₀) g₀ → under_full g ≡ under_full g₀
unfolding pick
full_of g₀ g true e = ap under_full e
full_of g₀ g false e = ap under_full e

-- what was lent comes back unchanged
pub lent_back : (n m : ℕ) (s : State) → ◌≡◌ {A = State} s
    (record { grid = s.grid; image = take n s.image ++ drop n s.image; marks = take m s.marks ++ drop m s.marks })
lent_back n m s =
    λ i. record {
      grid = s.grid;
      image = sym (take-append-drop n s.image) i;
      marks = sym (take-append-drop m s.marks) i;
    }

-- ---- one call, where the grid in force is g and the lengths are those of the start

module _ (g₀ g : Grid) (full : Bool) (grid : g ≡ pick full (under_full g₀) g₀) (image₀ marks₀ image marks : List ℕ)
    (numbers : ℕ → ℕ → ℕ → ℕ) (seen : ℕ → ℕ → Bool)
    (held : Holding g image₀ image numbers) (reached : Marking g marks₀ marks seen) where
  abbrev s : State
  s = record { grid = g; image = image; marks = marks }

  abbrev f : Frame
  f = record {
    grid = g;
    image_length = length image₀;
    marks_length = length marks₀;
    numbers = numbers;
    reached = seen;
  }

  same : Inv g₀ image₀ marks₀ full s f
  same =
      record {
        grid = grid;
        f-grid = refl;
        image-known = refl;
        marks-known = refl;
        held = held;
        reached = reached;
      }

  abbrev Ok : Step → FrameStep → Type 0
  Ok o fo = StepOk g₀ image₀ marks₀ full o fo

  refused : (n m k : ℕ) → Ok (put_back n m s (frame_out (number k) (take n image) (take m marks)))
      (record { answer = number k; frame = f })
  refused n m k = record { answer = refl; inv = subst (λ (x : State). Inv g₀ image₀ marks₀ full x f) (lent_back n m s) same }

  write_step : (k n m row column : ℕ) (dat : List ℕ)
      → (k ≡ 0 → Enough g (length (take n image)) (length (take m marks)) × Block g row column)
      → (k ≡ 0 → length dat ≡ g.bands * actual_rows g row * actual_columns g column * sample_bytes g)
      → Ok (put_back n m s (write_by k g (take n image) (take m marks) row column dat)) (frame_write k f row column dat)
  unfolding outcome frame_write
  write_step zero n m row column dat q exact =
      let a = q refl in
      record {
        answer = refl;
        inv = record {
          grid = grid;
          f-grid = refl;
          image-known = refl;
          marks-known = refl;
          held = image-written g image₀ image numbers held (facts g a.0.accepted).sides.nbpp-pos n row column dat
              a.0.bytes a.1 (exact refl);
          reached = marks-reached g marks₀ marks seen reached m a.0.words row column a.1;
        };
      }
  write_step (suc k) n m row column dat q exact = refused n m (suc k)

  skip_step : (k n m row column : ℕ)
      → (k ≡ 0 → Enough g (length (take n image)) (length (take m marks)) × Block g row column)
      → Ok (put_back n m s (skip_by k g (take n image) (take m marks) row column)) (frame_skip k f row column)
  unfolding outcome frame_skip
  skip_step zero n m row column q =
      let a = q refl in
      record {
        answer = refl;
        inv = record {
          grid = grid;
          f-grid = refl;
          image-known = refl;
          marks-known = refl;
          held = subst (λ (x : List ℕ). Holding g image₀ x numbers) (sym (take-append-drop n image)) held;
          reached = marks-reached g marks₀ marks seen reached m a.0.words row column a.1;
        };
      }
  skip_step (suc k) n m row column q = refused n m (suc k)

  relay_step : (k n m : ℕ) (scratch : List ℕ)
      → (k ≡ 0 → Enough g (length (take n image)) (length (take m marks)))
      → let o = put_back_relaid n s (relay_by k g (take n image) scratch) in
      StepOk g₀ image₀ marks₀ (eqb o.answer.number 0 || full) o (frame_relay k f)
  unfolding outcome frame_relay pick
  relay_step zero n m scratch q =
      let a = q refl in
      record {
        answer = refl;
        inv = record {
          grid = full_of g₀ g full grid;
          f-grid = refl;
          image-known = refl;
          marks-known = refl;
          held = image_relaid g (facts g a.accepted) image₀ image numbers held n a.bytes;
          reached = marks_relaid g marks₀ marks seen reached;
        };
      }
  relay_step (suc k) n m scratch q =
      rw (ne_eqb (suc k) 0 (λ e. omega arith))
      (record {
        answer = refl;
        inv = subst (λ (x : List ℕ). Inv g₀ image₀ marks₀ full (record { grid = g; image = x; marks = marks }) f)
            (sym (take-append-drop n image)) same;
      })

  -- the lengths that a call is asked of
  bytes-lent : (n : ℕ) → length (take n image) ≡ min n (length image₀)
  bytes-lent n = length-take n image ∙ ap (min n) held.size

  words-lent : (m : ℕ) → length (take m marks) ≡ min m (length marks₀)
  words-lent m = length-take m marks ∙ ap (min m) reached.size

  step-at : (c : Call)
      → StepOk g₀ image₀ marks₀ (relaid_after c (step c s).answer.number full) (step c s) (frame_step c f)
  unfolding step frame_step relaid_after W.write W.skip W.progress W.finish L.relay
  step-at (write ws n m row column bands rows columns dat) =
      subst₂ (λ (x y : ℕ). Ok (step (write ws n m row column bands rows columns dat) s)
      (frame_write (write_number ws g x y row column bands rows columns (length dat) (fit_in_data g row column dat)) f row column dat))
      (bytes-lent n) (words-lent m)
      (subst (λ (k : ℕ). Ok (step (write ws n m row column bands rows columns dat) s) (frame_write k f row column dat))
      (write_same ws g _ _ row column bands rows columns (length dat) _ _ (λ z.
      let a = write-facts ws g _ _ row column bands rows columns (length dat) true z in
      fit_is g (facts g a.0.accepted) row column a.1 dat (write_data ws g _ _ row column bands rows columns (length dat) true z)))
      (write_step _ n m row column dat (write-facts ws g _ _ row column bands rows columns (length dat) _)
      (write_data ws g _ _ row column bands rows columns (length dat) _)))
  step-at (skip ws n m row column) =
      subst₂ (λ (x y : ℕ). Ok (step (skip ws n m row column) s) (frame_skip (skip_number ws g x y row column) f row column))
      (bytes-lent n) (words-lent m)
      (skip_step _ n m row column (skip-facts ws g _ _ row column))
  step-at (progress ws m) =
      record {
        answer = progress-is _ f (marked (take m marks))
            (λ e. lent-marks g marks₀ marks seen reached m (progress-facts ws g _ e))
            ∙ ap (λ (y : ℕ). frame_progress (progress_number ws g y) f) (words-lent m);
        inv = same;
      }
  step-at (finish ws n m) =
      record {
        answer = finish-is _ f (marked (take m marks))
            (λ e. lent-marks g marks₀ marks seen reached m (start-facts ws g _ _ e).words)
            ∙ ap₂ (λ (x y : ℕ). frame_finish (start_number ws g x y) f) (bytes-lent n) (words-lent m);
        inv = same;
      }
  step-at (relay ws n m scratch) =
      subst₂ (λ (x y : ℕ). StepOk g₀ image₀ marks₀
      (relaid_after (relay ws n m scratch) (step (relay ws n m scratch) s).answer.number full)
      (step (relay ws n m scratch) s) (frame_relay (relay_number ws g x y (length scratch)) f))
      (bytes-lent n) (words-lent m)
      (relay_step _ n m scratch (relay-facts ws g _ _ (length scratch)))

-- ---- any call

same-frame : (g : Grid) (n m : ℕ) (f : Frame) → f.grid ≡ g → f.image_length ≡ n → f.marks_length ≡ m
    → ◌≡◌ {A = Frame}
    (record { grid = g; image_length = n; marks_length = m; numbers = f.numbers; reached = f.reached }) f
same-frame g n m f e en em =
    λ i. record {
      grid = sym e i;
      image_length = sym en i;
      marks_length = sym em i;
      numbers = f.numbers;
      reached = f.reached;
    }

module _ (g₀ : Grid) (image₀ marks₀ : List ℕ) where
  pub step_ok : (full : Bool) (s : State) (f : Frame) → Inv g₀ image₀ marks₀ full s f → (c : Call)
      → StepOk g₀ image₀ marks₀ (relaid_after c (step c s).answer.number full) (step c s) (frame_step c f)
  step_ok full s f inv c =
      subst (λ (y : Frame). StepOk g₀ image₀ marks₀ (relaid_after c (step c s).answer.number full) (step c s)
      (frame_step c y))
      (same-frame s.grid (length image₀) (length marks₀) f inv.f-grid inv.image-known inv.marks-known)
      (step-at g₀ s.grid full inv.grid image₀ marks₀ s.image s.marks f.numbers f.reached
      inv.held inv.reached c)

  -- ---- the list

  pub record CalledOk (full : Bool) (r : Called) (fr : FrameCalled) : Type 0 where
    pub answers : r.answers ≡ fr.answers
    pub inv : Inv g₀ image₀ marks₀ full r.state fr.frame

  pub calls_ok : (cs : List Call) (full : Bool) (s : State) (f : Frame) → Inv g₀ image₀ marks₀ full s f
      → CalledOk (any_relaid cs (call_all cs s).answers full) (call_all cs s) (frame_call_all cs f)
  unfolding call_all frame_call_all any_relaid
  calls_ok [] full s f inv = record { answers = refl; inv = inv }
  calls_ok (c ∷ cs) full s f inv =
      let o = step_ok full s f inv c in
      let r = calls_ok cs _ (step c s).state (frame_step c f).frame o.inv in
      record { answers = ap₂ ◌∷◌ o.answer r.answers; inv = r.inv }

-- ---- the start

-- what is put at the front of the first n elements is put at the front of all
lent-over : (xs vs : List ℕ) (n : ℕ) → length vs ≤ length (take n xs)
    → over (take n xs) 0 vs ++ drop n xs ≡ over xs 0 vs
unfolding over
lent-over xs vs n h =
    let k : ℕ = 0 + length vs in
    append_assoc vs (drop k (take n xs)) (drop n xs)
    ∙ ap (λ (l : List ℕ). vs ++ l)
    (sym (drop-append-le k (take n xs) (drop n xs) (omega arith)) ∙ ap (drop k) (take-append-drop n xs))

pub start_ok : (s : Start) → Accepts s
    → Inv s.grid s.image s.marks false (started s) (frame0 s.grid (length s.image) (length s.marks))
unfolding started start frame0 pick
start_ok s e =
    let g : Grid = s.grid in
    let a = start-facts s.widths g _ _ e in
    let w : ℕ = mark_words (blocks g) in
    rw (outcome-yes _ (unchanged (take s.n s.image) (take s.m s.marks)) e)
    (record {
      grid = refl;
      f-grid = refl;
      image-known = refl;
      marks-known = refl;
      held = subst (λ (x : List ℕ). Holding g s.image x (λ b y x. 0))
          (sym (lent-over s.image (replicate (image_bytes g) 0) s.n
          (omega (arith, a.bytes, length-replicate {A = ℕ} (image_bytes g) 0))))
          (image-started g s.image (omega (arith, a.bytes, length-take s.n s.image)));
      reached = subst (λ (x : List ℕ). Marking g s.marks x (λ row column. false))
          (sym (lent-over s.marks (replicate w 0) s.m (omega (arith, a.words, length-replicate {A = ℕ} w 0))))
          (marks-started g s.marks (omega (arith, a.words, length-take s.m s.marks)));
    })
