-- The plain frame's numbers are those last accepted, and its reached blocks those named in accepted writes and skips.
-- Assumes nothing.
use Prim.Native.Nat.{ℕ, zero, suc, ◌+◌, ◌*◌}
use mathlib.Core.Path.{◌≡◌, refl, sym, ap, ap₂, ◌∙◌, subst₂}
use mathlib.Core.Bool.{Bool, true, false, ◌||◌}
use mathlib.Core.List.{List, [], ◌∷◌}
use native.Mathlib.Omega.{arith}
use native.Mathlib.Decide.{ℕ_discrete}
use borrow.Author.Tests.{eq-eqb, ne_eqb}
use lib.Dec.{eqb}
use lib.ListN.{length}
use Rattle.common.specs.Questions.{outcome}
use Rattle.common.specs.Tests.{every, pick}
use Rattle.widths.specs.declared.Widths.{Widths}
use Rattle.grid.specs.declared.EdgeRule.TheVariants.{Full}
use Rattle.grid.specs.declared.Grid.{Grid}
use Rattle.grid.specs.Check.{Accepted, q2}
use Rattle.grid.specs.Sizes.{sample_bytes, actual_rows, actual_columns}
use Rattle.grid.specs.Layout.{Block, Sample}
use Rattle.grid.specs.EdgeRules.{under_full}
use Rattle.grid.proofs.Accepted.{takes-width}
use Rattle.grid.proofs.Runs.{accepted_rule, block_rule, sample_rule}
use Rattle.calls.specs.Orders.{write_number}
use Rattle.calls.proofs.Numbers.{write-facts, write_data, write-fit}
use Rattle.frame.specs.Call.{Call, write, skip, progress, finish, relay}
use Rattle.frame.specs.PlainFrame.{Frame, whole_in_data, number_in_data, fit_in_data, written, reach}
use Rattle.frame.specs.PlainFrame.{frame_write, frame_skip, frame_relay, frame_step, frame_call_all}
use Rattle.frame.specs.OwnWords.{Last, nothing, these, accepts, data_after, named_after, last_data, named, value_in}
use Rattle.frame.proofs.ImageNumbers.{written_same, written-other}

-- what an accepted write tells of its data and of the table that it was handed
pub record Taken (g : Grid) (row column : ℕ) (ws : Widths) (dat : List ℕ) : Type 0 where
  pub enough : Accepted g
  pub width : q2 ws g ≡ true
  pub block : Block g row column
  pub exact : length dat ≡ g.bands * actual_rows g row * actual_columns g column * sample_bytes g
  pub fit : fit_in_data g row column dat ≡ true

-- the plain frame's numbers are those of the last data, which were accepted, and its reached blocks those named
pub record Known (f : Frame) (last : ℕ → ℕ → Last) (seen : ℕ → ℕ → Bool) : Type 0 where
  pub numbers : (row column b r c : ℕ) → Sample f.grid row column b r c
      → f.numbers b (row * f.grid.nppbv + r) (column * f.grid.nppbh + c)
      ≡ value_in f.grid row column b r c (last row column)
  pub taken : (row column : ℕ) (ws : Widths) (dat : List ℕ) → last row column ≡ these ws dat
      → Taken f.grid row column ws dat
  pub reached : (row column : ℕ) → f.reached row column ≡ seen row column

-- ---- one call

accepts-same : (y x row column : ℕ) → row ≡ y → column ≡ x → accepts 0 y x row column ≡ true
unfolding every
accepts-same y x row column e f = rw (eq-eqb row y e, eq-eqb column x f)

accepts-other : (y x row column : ℕ) → (row ≡ y → column ≡ x → ⊥) → accepts 0 y x row column ≡ false
unfolding every
accepts-other y x row column ne = go (ℕ_discrete row y) (ℕ_discrete column x)
  where
    go : Dec (row ≡ y) → Dec (column ≡ x) → accepts 0 y x row column ≡ false
    go (yes e) (yes f) = absurd (ne e f)
    go (yes e) (no n) = rw (eq-eqb row y e, ne_eqb column x n)
    go (no n) d = rw (ne_eqb row y n)

accepts-refused : (n y x row column : ℕ) → accepts (suc n) y x row column ≡ false
unfolding every
accepts-refused n y x row column = rw (ne_eqb (suc n) 0 (λ e. omega arith))

-- a reached block more is a named block more
reach-is : (y x row column : ℕ) (seen : ℕ → ℕ → Bool) (t : Bool) → seen row column ≡ t
    → reach y x seen row column ≡ (accepts 0 y x row column || t)
unfolding reach every
reach-is y x row column seen t e = ap (λ (u : Bool). every (eqb row y ∷ eqb column x ∷ []) || u) e

pick-last : {t : Bool} (given last : Last) → t ≡ true → pick t given last ≡ given
unfolding pick
pick-last given last e = rw e

pick-kept : {t : Bool} (given last : Last) → t ≡ false → pick t given last ≡ last
unfolding pick
pick-kept given last e = rw e

these-inv : {ws vs : Widths} {xs ys : List ℕ} → these ws xs ≡ these vs ys → (ws ≡ vs) × (xs ≡ ys)
these-inv e = (cc, cc)

-- an accepted write: its own block has the data, any other what it had
module _ (g : Grid) (y x : ℕ) (ws : Widths) (dat : List ℕ) (numbers : ℕ → ℕ → ℕ → ℕ) (row column b r c : ℕ)
    (s : Sample g row column b r c) (last : Last)
    (before : numbers b (row * g.nppbv + r) (column * g.nppbh + c) ≡ value_in g row column b r c last) where
  abbrev Agrees : Type 0
  Agrees =
      written g y x dat numbers b (row * g.nppbv + r) (column * g.nppbh + c)
      ≡ value_in g row column b r c (pick (accepts 0 y x row column) (these ws dat) last)

  other : (row ≡ y → column ≡ x → ⊥) → Agrees
  other ne =
      written-other g y x dat numbers row column b r c s ne ∙ before
      ∙ ap (value_in g row column b r c) (sym (pick-kept (these ws dat) last (accepts-other y x row column ne)))

  written_last : Agrees
  unfolding value_in
  written_last = go (ℕ_discrete row y) (ℕ_discrete column x)
    where
      go : Dec (row ≡ y) → Dec (column ≡ x) → Agrees
      go (yes p) (yes q) =
          ap₂ (λ (u v : ℕ). written g u v dat numbers b (row * g.nppbv + r) (column * g.nppbh + c)) (sym p) (sym q)
          ∙ written_same g row column dat numbers b r c s
          ∙ ap (value_in g row column b r c) (sym (pick-last (these ws dat) last (accepts-same y x row column p q)))
      go (yes p) (no n) = other (λ _ q. n q)
      go (no n) d = other (λ p _. n p)

taken-last : (g : Grid) (y x : ℕ) (ws : Widths) (dat : List ℕ) → Taken g y x ws dat → (row column : ℕ) (last : Last)
    → ((ws' : Widths) (dat' : List ℕ) → last ≡ these ws' dat' → Taken g row column ws' dat')
    → (ws' : Widths) (dat' : List ℕ) → pick (accepts 0 y x row column) (these ws dat) last ≡ these ws' dat'
    → Taken g row column ws' dat'
taken-last g y x ws dat t row column last before ws' dat' e = go (ℕ_discrete row y) (ℕ_discrete column x)
  where
    other : (row ≡ y → column ≡ x → ⊥) → Taken g row column ws' dat'
    other ne = before ws' dat' (sym (pick-kept (these ws dat) last (accepts-other y x row column ne)) ∙ e)

    go : Dec (row ≡ y) → Dec (column ≡ x) → Taken g row column ws' dat'
    go (yes p) (yes q) =
        let same = these-inv (sym (pick-last (these ws dat) last (accepts-same y x row column p q)) ∙ e) in
        subst₂ (λ (vs : Widths) (xs : List ℕ). Taken g row column vs xs) same.0 same.1
        (subst₂ (λ (u v : ℕ). Taken g u v ws dat) (sym p) (sym q) t)
    go (yes p) (no n) = other (λ _ q. n q)
    go (no n) d = other (λ p _. n p)

-- the same under full
value_full : (g : Grid) (row column b r c : ℕ) (last : Last)
    → value_in g row column b r c last ≡ value_in (under_full g) row column b r c last
unfolding value_in number_in_data whole_in_data actual_rows actual_columns
value_full g row column b r c nothing = refl
value_full g row column b r c (these ws dat) = refl

taken_full : (g : Grid) (row column : ℕ) (ws : Widths) (dat : List ℕ) → Taken g row column ws dat
    → Taken (under_full g) row column ws dat
unfolding fit_in_data whole_in_data actual_rows actual_columns
taken_full g row column ws dat t =
    record {
      enough = accepted_rule Full g t.enough;
      width = t.width;
      block = block_rule Full g row column t.block;
      exact = t.exact;
      fit = t.fit;
    }

-- the table of an accepted write takes the width
write_width : (ws : Widths) (g : Grid) (n m row column bands rows columns size : ℕ) (fit : Bool)
    → write_number ws g n m row column bands rows columns size fit ≡ 0 → q2 ws g ≡ true
unfolding write_number
write_width ws g n m row column bands rows columns size fit z = takes-width ws g _ z

module _ (f : Frame) (last : ℕ → ℕ → Last) (seen : ℕ → ℕ → Bool) (k : Known f last seen) where
  write_known : (n y x : ℕ) (ws : Widths) (dat : List ℕ) → (n ≡ 0 → Taken f.grid y x ws dat)
      → Known (frame_write n f y x dat).frame
      (λ row column. pick (accepts (frame_write n f y x dat).answer.number y x row column) (these ws dat)
      (last row column))
      (λ row column. accepts (frame_write n f y x dat).answer.number y x row column || seen row column)
  unfolding frame_write outcome
  write_known zero y x ws dat t =
      record {
        taken = λ row column. taken-last f.grid y x ws dat (t refl) row column (last row column) (k.taken row column);
        numbers = λ row column b r c s. written_last f.grid y x ws dat f.numbers row column b r c s (last row column)
            (k.numbers row column b r c s);
        reached = λ row column. reach-is y x row column f.reached (seen row column) (k.reached row column);
      }
  write_known (suc n) y x ws dat t =
      record {
        taken = λ row column ws' dat' e. k.taken row column ws' dat'
            (sym (pick-kept (these ws dat) (last row column) (accepts-refused n y x row column)) ∙ e);
        numbers = λ row column b r c s. k.numbers row column b r c s
            ∙ ap (value_in f.grid row column b r c)
            (sym (pick-kept (these ws dat) (last row column) (accepts-refused n y x row column)));
        reached = λ row column. k.reached row column
            ∙ ap (λ (t : Bool). t || seen row column) (sym (accepts-refused n y x row column));
      }

  skip-known : (n y x : ℕ)
      → Known (frame_skip n f y x).frame last
      (λ row column. accepts (frame_skip n f y x).answer.number y x row column || seen row column)
  unfolding frame_skip outcome
  skip-known zero y x =
      record {
        numbers = k.numbers;
        taken = k.taken;
        reached = λ row column. reach-is y x row column f.reached (seen row column) (k.reached row column);
      }
  skip-known (suc n) y x =
      record {
        numbers = k.numbers;
        taken = k.taken;
        reached = λ row column. k.reached row column
            ∙ ap (λ (t : Bool). t || seen row column) (sym (accepts-refused n y x row column));
      }

  relay_known : (n : ℕ) → Known (frame_relay n f).frame last seen
  unfolding frame_relay outcome
  relay_known zero =
      record {
        numbers = λ row column b r c s.
            k.numbers row column b r c (sample_rule f.grid.edges (under_full f.grid) row column b r c s)
            ∙ value_full f.grid row column b r c (last row column);
        taken = λ row column ws dat e. taken_full f.grid row column ws dat (k.taken row column ws dat e);
        reached = k.reached;
      }
  relay_known (suc n) = record { numbers = k.numbers; taken = k.taken; reached = k.reached }

  call_known : (c : Call)
      → Known (frame_step c f).frame
      (λ row column. data_after c (frame_step c f).answer.number row column (last row column))
      (λ row column. named_after c (frame_step c f).answer.number row column (seen row column))
  unfolding frame_step data_after named_after
  call_known (write ws n m y x bands rows columns dat) =
      write_known _ y x ws dat (λ z.
      let a = write-facts ws f.grid _ _ y x bands rows columns (length dat) _ z in
      record {
        enough = a.0.accepted;
        width = write_width ws f.grid _ _ y x bands rows columns (length dat) _ z;
        block = a.1;
        exact = write_data ws f.grid _ _ y x bands rows columns (length dat) _ z;
        fit = write-fit ws f.grid _ _ y x bands rows columns (length dat) _ z;
      })
  call_known (skip ws n m y x) = skip-known _ y x
  call_known (progress ws m) = k
  call_known (finish ws n m) = k
  call_known (relay ws n m scratch) = relay_known _

-- ---- a list of calls

pub all_known : (cs : List Call) (f : Frame) (last : ℕ → ℕ → Last) (seen : ℕ → ℕ → Bool) → Known f last seen
    → Known (frame_call_all cs f).frame
    (λ row column. last_data cs (frame_call_all cs f).answers row column (last row column))
    (λ row column. named cs (frame_call_all cs f).answers row column (seen row column))
unfolding frame_call_all last_data named
all_known [] f last seen k = k
all_known (c ∷ cs) f last seen k = all_known cs (frame_step c f).frame _ _ (call_known f last seen k c)
