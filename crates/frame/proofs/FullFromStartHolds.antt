-- After a list with an accepted re-lay all is as with full from the start: the plain frame has the same numbers and
-- reached blocks, and image and marks are known by them.
-- Assumes nothing.
use Prim.Native.Nat.{ℕ, zero, suc}
use mathlib.Core.Path.{◌≡◌, refl, sym, ap, ap₂, ◌∙◌}
use mathlib.Core.Bool.{Bool, true, false}
use mathlib.Core.List.{List, [], ◌∷◌, ◌++◌}
use lib.ListN.{take, drop, take-append-drop}
use Rattle.common.specs.Questions.{outcome}
use Rattle.common.specs.Tests.{pick}
use Rattle.common.proofs.Tests.{pick_yes}
use Rattle.widths.specs.declared.Widths.{Widths}
use Rattle.grid.specs.declared.EdgeRule.TheVariants.{Full}
use Rattle.grid.specs.declared.Grid.{Grid}
use Rattle.grid.specs.Check.{q1, q3, q4, q11}
use Rattle.grid.specs.Sizes.{band_bytes, blocks, image_bytes}
use Rattle.grid.specs.EdgeRules.{under_full}
use Rattle.marks.specs.Marks.{mark_words}
use Rattle.calls.specs.Orders.{start_number}
use Rattle.frame.specs.Call.{Call, write, skip, progress, finish, relay}
use Rattle.frame.specs.Calls.{Start, after, in_force, has_relay}
use Rattle.frame.specs.PlainFrame.{Frame, FrameStep, frame0, frame_relay, frame_step, frame_call_all}
use Rattle.frame.specs.Demand3.{plain}
use Rattle.frame.specs.EitherRule.{start_under}
use Rattle.frame.specs.FullFromStart.{without_relays, FullFromStart}
use Rattle.frame.proofs.Demand3Holds.{demand3}
use Rattle.frame.proofs.DeterminedHolds.{determined}
use Rattle.frame.proofs.EitherRuleHolds.{frame_under, frame_step_under_rule}

-- ---- the plain frame

-- a re-lay changes nothing of it but the edge rule
relay_full : (k : ℕ) (f : Frame) → frame_under Full (frame_relay k f).frame ≡ frame_under Full f
unfolding frame_relay outcome
relay_full zero f = refl
relay_full (suc k) f = refl

relay_step : (ws : Widths) (n m : ℕ) (scratch : List ℕ) (f : Frame)
    → frame_under Full (frame_step (relay ws n m scratch) f).frame ≡ frame_under Full f
unfolding frame_step
relay_step ws n m scratch f = relay_full _ f

-- after a call that is no re-lay, and then others
after_call : (c : Call) (cs : List Call) (f : Frame) → has_relay (c ∷ []) ≡ false
    → (frame_call_all cs (frame_step c (frame_under Full f)).frame).frame
    ≡ (frame_call_all cs (frame_under Full (frame_step c f).frame)).frame
after_call c cs f h = ap (λ (o : FrameStep). (frame_call_all cs o.frame).frame) (frame_step_under_rule Full c f h)

-- but for the edge rule, the frame after a list is that after its other calls
frames : (cs : List Call) (f : Frame)
    → (frame_call_all (without_relays cs) (frame_under Full f)).frame ≡ frame_under Full (frame_call_all cs f).frame
unfolding frame_call_all without_relays has_relay
frames [] f = refl
frames (write ws n m row column bands rows columns dat ∷ cs) f =
    let c : Call = write ws n m row column bands rows columns dat in
    after_call c (without_relays cs) f refl ∙ frames cs (frame_step c f).frame
frames (skip ws n m row column ∷ cs) f =
    after_call (skip ws n m row column) (without_relays cs) f refl ∙ frames cs (frame_step (skip ws n m row column) f).frame
frames (progress ws m ∷ cs) f =
    after_call (progress ws m) (without_relays cs) f refl ∙ frames cs (frame_step (progress ws m) f).frame
frames (finish ws n m ∷ cs) f =
    after_call (finish ws n m) (without_relays cs) f refl ∙ frames cs (frame_step (finish ws n m) f).frame
frames (relay ws n m scratch ∷ cs) f =
    ap (λ (x : Frame). (frame_call_all (without_relays cs) x).frame) (sym (relay_step ws n m scratch f))
    ∙ frames cs (frame_step (relay ws n m scratch) f).frame

-- ---- the buffers

pick_same : (b : Bool) (g : Grid) → pick b g g ≡ g
unfolding pick
pick_same true g = refl
pick_same false g = refl

-- two lists with the same front and each with the rest of a third
halves : (k k' : ℕ) (xs ys zs : List ℕ) → k ≡ k' → take k xs ≡ take k ys → drop k xs ≡ drop k zs
    → drop k' ys ≡ drop k' zs → xs ≡ ys
halves k k' xs ys zs e t d d' =
    sym (take-append-drop k xs)
    ∙ ap₂ ◌++◌ t (d ∙ ap (λ (n : ℕ). drop n zs) e ∙ sym d' ∙ ap (λ (n : ℕ). drop n ys) (sym e))
    ∙ take-append-drop k ys

pub full_from_start : FullFromStart
unfolding start_number q1 q3 q4 q11 band_bytes frame0
full_from_start s cs a h =
    let t : Start = start_under Full s in
    let ds : List Call = without_relays cs in
    let d = demand3 s cs a in
    let d' = demand3 t ds a in
    let grid : in_force s cs ≡ in_force t ds
    = d.grid ∙ pick_yes (under_full s.grid) s.grid h ∙ sym (d'.grid ∙ pick_same _ (under_full s.grid)) in
    let p : (plain t ds).frame ≡ frame_under Full (plain s cs).frame = frames cs _ in
    let same = determined s t cs ds a a grid in
    let image : (after s cs).state.image ≡ (after t ds).state.image
    = halves _ _ _ _ s.image (ap image_bytes grid)
    (same.image (λ b y x _ _ _. ap (λ (f : Frame). f.numbers b y x) (sym p)))
    d.surplus.image-surplus d'.surplus.image-surplus in
    let marks : (after s cs).state.marks ≡ (after t ds).state.marks
    = halves _ _ _ _ s.marks (ap (λ (g : Grid). mark_words (blocks g)) grid)
    (same.marks (λ row column _. ap (λ (f : Frame). f.reached row column) (sym p)))
    d.surplus.marks-surplus d'.surplus.marks-surplus in
    λ i. record { grid = grid i; image = image i; marks = marks i }
