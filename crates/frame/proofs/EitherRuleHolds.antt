-- A list of calls under either edge rule: the plain frame does not look at the rule, and at byte multiples neither does a
-- write.
-- Assumes nothing.
use Prim.Native.Nat.{ℕ, min}
use mathlib.Core.Path.{◌≡◌, refl, sym, ap, ◌∙◌}
use mathlib.Core.Bool.{true, false}
use mathlib.Core.List.{List, [], ◌∷◌}
use lib.ListN.{take}
use Rattle.common.proofs.Questions.{outcome-map}
use Rattle.common.proofs.Tests.{below_ext}
use Rattle.common.proofs.Turns.{iter_ext}
use Rattle.bits.specs.Bits.{put_bits}
use Rattle.widths.specs.declared.Widths.{Widths}
use Rattle.grid.specs.declared.EdgeRule.{EdgeRule}
use Rattle.grid.specs.declared.Grid.{Grid}
use Rattle.grid.specs.Sizes.{band_bytes, actual_rows, actual_columns, byte_multiple}
use Rattle.grid.specs.Check.{q1, q3, q4, q6, q11}
use Rattle.grid.specs.EdgeRules.{with_rule}
use Rattle.grid.proofs.EdgeRules.{byte_multiples_lie_the_same, rule_moves_no-block}
use Rattle.calls.specs.Orders.{Window, q10, crosses, q7_window, window_number, q13, q14, q26, start_number, write_number, skip_number, progress_number}
use Rattle.calls.specs.Writes as W
use Rattle.frame.specs.Call.{Call, write, skip, progress, finish, relay}
use Rattle.frame.specs.Calls.{State, Step, Start, Called, step, call_all, started, has_relay}
use Rattle.frame.specs.PlainFrame.{Frame, FrameStep, FrameCalled, frame0, whole_in_data, number_in_data, fit_in_data, in_block, written, reached_count}
use Rattle.frame.specs.PlainFrame.{frame_write, frame_skip, frame_progress, frame_finish, frame_step, frame_call_all, window_band, frame_bytes, frame_window_by, frame_window}
use Rattle.frame.specs.Demand3.{plain}
use Rattle.frame.specs.EitherRule.{start_under, state_under, EitherRule}
use Rattle.frame.proofs.Demand3Holds.{demand3}

-- ---- lists without a re-lay

-- its first call is none, and none is among the others
others : (c : Call) (cs : List Call) → has_relay (c ∷ cs) ≡ false
    → (has_relay (c ∷ []) ≡ false) × (has_relay cs ≡ false)
unfolding has_relay
others (write ws n m row column bands rows columns dat) cs h = (refl, h)
others (skip ws n m row column) cs h = (refl, h)
others (progress ws m) cs h = (refl, h)
others (finish ws n m) cs h = (refl, h)
others (relay ws n m scratch) cs h = (h, cc)

not_relay : (ws : Widths) (n m : ℕ) (scratch : List ℕ) → has_relay (relay ws n m scratch ∷ []) ≡ false → ⊥
unfolding has_relay
not_relay ws n m scratch h = cc

-- ---- the plain frame

abbrev pub frame_under : EdgeRule → Frame → Frame
frame_under e f =
    record {
      grid = with_rule e f.grid;
      image_length = f.image_length;
      marks_length = f.marks_length;
      numbers = f.numbers;
      reached = f.reached;
    }

abbrev pub frame_step_under : EdgeRule → FrameStep → FrameStep
frame_step_under e o = record { answer = o.answer; frame = frame_under e o.frame }

abbrev frame_called_under : EdgeRule → FrameCalled → FrameCalled
frame_called_under e r = record { answers = r.answers; frame = frame_under e r.frame }

pub frame_step_under_rule : (e : EdgeRule) (c : Call) (f : Frame) → has_relay (c ∷ []) ≡ false
    → frame_step c (frame_under e f) ≡ frame_step_under e (frame_step c f)
unfolding frame_step frame_write frame_skip frame_progress frame_finish start_number write_number skip_number progress_number fit_in_data written in_block number_in_data whole_in_data reached_count actual_rows actual_columns band_bytes q1 q3 q4 q6 q11 q13 q14
frame_step_under_rule e (write ws n m row column bands rows columns dat) f h = outcome-map (frame_step_under e) _ _ _
frame_step_under_rule e (skip ws n m row column) f h = outcome-map (frame_step_under e) _ _ _
frame_step_under_rule e (progress ws m) f h = refl
frame_step_under_rule e (finish ws n m) f h = refl
frame_step_under_rule e (relay ws n m scratch) f h = absurd (not_relay ws n m scratch h)

frame-calls : (e : EdgeRule) (cs : List Call) (f : Frame) → has_relay cs ≡ false
    → frame_call_all cs (frame_under e f) ≡ frame_called_under e (frame_call_all cs f)
unfolding frame_call_all
frame-calls e [] f h = refl
frame-calls e (c ∷ cs) f h =
    let o = others c cs h in
    rw (frame_step_under_rule e c f o.0, frame-calls e cs (frame_step c f).frame o.1)

plain_under : (e : EdgeRule) (s : Start) (cs : List Call) → has_relay cs ≡ false
    → plain (start_under e s) cs ≡ frame_called_under e (plain s cs)
unfolding frame0
plain_under e s cs h = frame-calls e cs _ h

-- ---- a window of the plain frame

same-q7 : (e : EdgeRule) (g : Grid) (n : ℕ) (w : Window) → q7_window (with_rule e g) n w ≡ q7_window g n w
unfolding q7_window crosses
same-q7 e g n w =
    below_ext g.nbpc _ _ (λ row l. below_ext g.nbpr _ _ (λ column m.
    rw (rule_moves_no-block e g row column).end))

same-window : (e : EdgeRule) (ws : Widths) (f : Frame) (n : ℕ) (w : Window) (out : List ℕ)
    → frame_window ws (frame_under e f) n w out ≡ frame_window ws f n w out
unfolding frame_window frame_window_by window_number frame_bytes window_band q1 q3 q4 q10 band_bytes
same-window e ws f n w out = rw (same-q7 e f.grid (min n f.image_length) w)

-- ---- the calls at byte multiples

same-put : (e : EdgeRule) (g : Grid) (row column : ℕ) (dat image : List ℕ) → byte_multiple g ≡ true
    → W.put_block (with_rule e g) row column dat image ≡ W.put_block g row column dat image
unfolding W.put_samples W.data_at actual_rows actual_columns
same-put e g row column dat image h =
    iter_ext _ _ _ image (λ r l x. iter_ext _ _ _ x (λ b m y. iter_ext _ _ _ y (λ c k z.
    ap (λ (p : ℕ). put_bits z p g.nbpp (W.data_at g row column dat b r c)) (byte_multiples_lie_the_same e g row column b r c h))))

same_store : (e : EdgeRule) (g : Grid) (row column : ℕ) (dat image : List ℕ) → byte_multiple g ≡ true
    → W.store_block (with_rule e g) row column dat image ≡ W.store_block g row column dat image
unfolding W.store_by
same_store e g row column dat image h = rw h (same-put e g row column dat image h)

abbrev step_under : EdgeRule → Step → Step
step_under e o = record { answer = o.answer; state = state_under e o.state }

abbrev called_under : EdgeRule → Called → Called
called_under e r = record { answers = r.answers; state = state_under e r.state }

same_write : (e : EdgeRule) (ws : Widths) (g : Grid) (image marks : List ℕ) (row column bands rows columns : ℕ) (dat : List ℕ) → byte_multiple g ≡ true
    → W.write ws (with_rule e g) image marks row column bands rows columns dat ≡ W.write ws g image marks row column bands rows columns dat
unfolding W.write write_number q26 q1 q3 q4 q6 q11 q13 q14 band_bytes actual_rows actual_columns
same_write e ws g image marks row column bands rows columns dat h = rw (same_store e g row column dat image h)

same_step : (e : EdgeRule) (c : Call) (s : State) → has_relay (c ∷ []) ≡ false → byte_multiple s.grid ≡ true
    → step c (state_under e s) ≡ step_under e (step c s)
unfolding step W.skip W.progress W.finish start_number skip_number progress_number q1 q3 q4 q6 q11 band_bytes
same_step e (write ws n m row column bands rows columns dat) s o h =
    rw (same_write e ws s.grid (take n s.image) (take m s.marks) row column bands rows columns dat h)
same_step e (skip ws n m row column) s o h = refl
same_step e (progress ws m) s o h = refl
same_step e (finish ws n m) s o h = refl
same_step e (relay ws n m scratch) s o h = absurd (not_relay ws n m scratch o)

-- no other call than a re-lay changes the grid
same-grid : (c : Call) (s : State) → has_relay (c ∷ []) ≡ false → (step c s).state.grid ≡ s.grid
unfolding step
same-grid (write ws n m row column bands rows columns dat) s o = refl
same-grid (skip ws n m row column) s o = refl
same-grid (progress ws m) s o = refl
same-grid (finish ws n m) s o = refl
same-grid (relay ws n m scratch) s o = absurd (not_relay ws n m scratch o)

same-calls : (e : EdgeRule) (cs : List Call) (s : State) → has_relay cs ≡ false → byte_multiple s.grid ≡ true
    → call_all cs (state_under e s) ≡ called_under e (call_all cs s)
unfolding call_all
same-calls e [] s o h = refl
same-calls e (c ∷ cs) s o h =
    let p = others c cs o in
    rw (same_step e c s p.0 h, same-calls e cs (step c s).state p.1 (ap byte_multiple (same-grid c s p.0) ∙ h))

started_under : (e : EdgeRule) (s : Start) → started (start_under e s) ≡ state_under e (started s)
unfolding started W.start start_number q1 q3 q4 q11 band_bytes
started_under e s = refl

-- ---- both

pub either_rule : EitherRule
unfolding start_number q1 q3 q4 q11 band_bytes started
either_rule e s cs a o =
    let h = demand3 s cs a in
    let k = demand3 (start_under e s) cs a in
    let p = plain_under e s cs o in
    record {
      answers = k.answers ∙ ap (λ (r : FrameCalled). r.answers) p ∙ sym h.answers;
      windows = λ ws n w out.
          k.windows ws n w out ∙ ap (λ (r : FrameCalled). frame_window ws r.frame n w out) p
          ∙ same-window e ws (plain s cs).frame n w out ∙ sym (h.windows ws n w out);
      buffers = λ w.
          let r = same-calls e cs (started s) o w in
          ap (λ (x : State). (call_all cs x).state) (started_under e s) ∙ ap (λ (x : Called). x.state) r;
    }
