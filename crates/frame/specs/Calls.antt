-- A start and a list of calls after it, each on the image and marks that the one before it left.
-- Assumes nothing.
use Rattle.std.specs.Prelude.{ℕ, ◌≡◌, Bool, true, false, ◌||◌, List, [], ◌∷◌, ◌++◌, eqb, length, take, drop}
use Rattle.widths.specs.declared.Widths.{Widths}
use Rattle.grid.specs.declared.Grid.{Grid}
use Rattle.calls.specs.declared.Answer.{Answer}
use Rattle.calls.specs.Answers.{FrameOut}
use Rattle.calls.specs.Orders.{start_number}
use Rattle.calls.specs.Writes as W
use Rattle.calls.specs.Relay.{Relaid, relay as relay_by}
use Rattle.frame.specs.Call.{Call, write, skip, progress, finish, relay}

-- what the calls act on: the grid in force, the image and the marks
pub record State : Type 0 where
  pub grid : Grid
  pub image : List ℕ
  pub marks : List ℕ

pub record Step : Type 0 where
  pub answer : Answer
  pub state : State

-- what was lent comes back in front of what was not
abbrev pub put_back : ℕ → ℕ → State → FrameOut → Step
put_back n m s l =
    record {
      answer = l.answer;
      state = record { grid = s.grid; image = l.image ++ drop n s.image; marks = l.marks ++ drop m s.marks };
    }

-- the same of a re-lay, which keeps the marks and hands back the grid that is now in force
abbrev pub put_back_relaid : ℕ → State → Relaid → Step
put_back_relaid n s l =
    record {
      answer = W.number l.number;
      state = record { grid = l.grid; image = l.image ++ drop n s.image; marks = s.marks };
    }

unfoldable pub step : Call → State → Step
step (write ws n m row column bands rows columns dat) s =
    put_back n m s (W.write ws s.grid (take n s.image) (take m s.marks) row column bands rows columns dat)
step (skip ws n m row column) s = put_back n m s (W.skip ws s.grid (take n s.image) (take m s.marks) row column)
step (progress ws m) s = record { answer = W.progress ws s.grid (take m s.marks); state = s }
step (finish ws n m) s = record { answer = W.finish ws s.grid (take n s.image) (take m s.marks); state = s }
step (relay ws n m scratch) s = put_back_relaid n s (relay_by ws s.grid (take n s.image) (take m s.marks) scratch)

pub record Called : Type 0 where
  pub answers : List Answer
  pub state : State

unfoldable pub call_all : List Call → State → Called
call_all [] s = record { answers = []; state = s }
call_all (c ∷ cs) s =
    let o : Step = step c s in
    let r : Called = call_all cs o.state in
    record { answers = o.answer ∷ r.answers; state = r.state }

-- what start is called with: it too is handed a table, and lent the first n bytes of an image and the first m mark words
pub record Start : Type 0 where
  pub n : ℕ
  pub m : ℕ
  pub widths : Widths
  pub grid : Grid
  pub image : List ℕ
  pub marks : List ℕ

-- the start is accepted
abbrev pub Accepts : Start → Type 0
Accepts s = start_number s.widths s.grid (length (take s.n s.image)) (length (take s.m s.marks)) ≡ 0

-- the state that the start leaves
unfoldable pub started : Start → State
started s =
    (put_back s.n s.m (record { grid = s.grid; image = s.image; marks = s.marks })
    (W.start s.widths s.grid (take s.n s.image) (take s.m s.marks))).state

-- the calls after the start
abbrev pub after : Start → List Call → Called
after s cs = call_all cs (started s)

-- the grid in force after them
abbrev pub in_force : Start → List Call → Grid
in_force s cs = (after s cs).state.grid

-- is a re-lay among calls
unfoldable pub has_relay : List Call → Bool
has_relay [] = false
has_relay (write ws n m row column bands rows columns dat ∷ cs) = has_relay cs
has_relay (skip ws n m row column ∷ cs) = has_relay cs
has_relay (progress ws m ∷ cs) = has_relay cs
has_relay (finish ws n m ∷ cs) = has_relay cs
has_relay (relay ws n m scratch ∷ cs) = true

-- has a re-lay been accepted after a call that was answered with a number
unfoldable pub relaid_after : Call → ℕ → Bool → Bool
relaid_after (write ws n m row column bands rows columns dat) number before = before
relaid_after (skip ws n m row column) number before = before
relaid_after (progress ws m) number before = before
relaid_after (finish ws n m) number before = before
relaid_after (relay ws n m scratch) number before = eqb number 0 || before

-- the same after calls with their answers, in order
unfoldable pub any_relaid : List Call → List Answer → Bool → Bool
any_relaid [] told before = before
any_relaid (c ∷ cs) [] before = before
any_relaid (c ∷ cs) (a ∷ told) before = any_relaid cs told (relaid_after c a.number before)

-- has a re-lay been accepted after a start and calls
abbrev pub is_relaid : Start → List Call → Bool
is_relaid s cs = any_relaid cs (after s cs).answers false
