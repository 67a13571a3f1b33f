-- A call whose table bars the width of an accepted grid is refused with 2 and changes nothing.
-- Assumes nothing.
use Prim.Native.Nat.{ℕ}
use mathlib.Core.Path.{◌≡◌, sym, ap, ◌∙◌}
use mathlib.Core.Bool.{false}
use mathlib.Core.List.{List}
use lib.ListN.{take, take-append-drop}
use Rattle.common.specs.Questions.{outcome}
use Rattle.grid.specs.Check.{Accepted, q2}
use Rattle.grid.proofs.Accepted.{grid_barred}
use Rattle.calls.specs.declared.Answer.{Answer}
use Rattle.calls.specs.Orders.{start_number, write_number, skip_number, progress_number, relay_number}
use Rattle.calls.specs.Writes as W
use Rattle.calls.specs.Relay as L
use Rattle.frame.specs.Call.{Call, write, skip, progress, finish, relay, widths_in}
use Rattle.frame.specs.Calls.{State, Step, put_back, put_back_relaid, step}
use Rattle.frame.proofs.ListOfCalls.{lent_back}

-- what a call gives by its number, where that is 2
by_two : {A : Type 0} {n : ℕ} (accepted : A) (refused : ℕ → A) → n ≡ 2 → outcome n accepted refused ≡ refused 2
unfolding outcome
by_two accepted refused e = rw e

abbrev refused_by_two : State → Step
refused_by_two s = record { answer = W.number 2; state = s }

kept : (n m : ℕ) (s : State)
    → put_back n m s (W.unchanged (take n s.image) (take m s.marks) 2) ≡ refused_by_two s
kept n m s = ap refused_by_two (sym (lent_back n m s))

pub barred_step : (c : Call) (s : State) → Accepted s.grid → q2 (widths_in c) s.grid ≡ false
    → step c s ≡ refused_by_two s
unfolding step widths_in W.write W.skip W.progress W.finish L.relay write_number skip_number progress_number start_number relay_number
barred_step (write ws n m row column bands rows columns dat) s a e =
    ap (put_back n m s) (by_two _ _ (grid_barred ws s.grid _ a e)) ∙ kept n m s
barred_step (skip ws n m row column) s a e =
    ap (put_back n m s) (by_two _ _ (grid_barred ws s.grid _ a e)) ∙ kept n m s
barred_step (progress ws m) s a e = ap (λ (x : Answer). record { answer = x; state = s }) (by_two _ _ (grid_barred ws s.grid _ a e))
barred_step (finish ws n m) s a e = ap (λ (x : Answer). record { answer = x; state = s }) (by_two _ _ (grid_barred ws s.grid _ a e))
barred_step (relay ws n m scratch) s a e =
    ap (put_back_relaid n s) (by_two _ _ (grid_barred ws s.grid _ a e))
    ∙ ap (λ (x : List ℕ). refused_by_two (record { grid = s.grid; image = x; marks = s.marks }))
    (take-append-drop n s.image)
