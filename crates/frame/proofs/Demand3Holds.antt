-- Demand 3 holds.
-- Assumes nothing.
use Prim.Native.Nat.{ℕ, min, ◌*◌}
use mathlib.Core.Path.{◌≡◌, refl, sym, ap, ◌∙◌, subst, subst₂}
use mathlib.Core.Bool.{Bool, true, false}
use mathlib.Core.List.{List}
use native.Mathlib.Omega.{arith}
use lib.ListN.{length, take, length-take}
use Rattle.common.specs.Tests.{pick}
use Rattle.grid.specs.declared.EdgeRule.TheVariants.{Full}
use Rattle.widths.specs.declared.Widths.{Widths}
use Rattle.widths.specs.Widths.{takes}
use Rattle.grid.specs.declared.Grid.{Grid}
use Rattle.grid.specs.Check.{Accepted}
use Rattle.grid.specs.Sizes.{sample_bytes}
use Rattle.grid.specs.EdgeRules.{under_full}
use Rattle.grid.proofs.Accepted.{facts}
use Rattle.grid.proofs.SamplePlaces.{inside}
use Rattle.grid.proofs.Runs.{bytes_rule, accepted_rule}
use Rattle.layout.specs.Bands.{band_count}
use Rattle.calls.specs.Orders.{Window}
use Rattle.calls.specs.Reads.{window, window_of}
use Rattle.calls.proofs.Numbers.{Enough, start-facts}
use Rattle.frame.specs.Call.{Call, widths_in}
use Rattle.frame.specs.Calls.{Start, Accepts, started, after, in_force, is_relaid}
use Rattle.frame.specs.PlainFrame.{Frame, frame0, frame_window}
use Rattle.frame.specs.Demand3.{plain, Alike, Demand3}
use Rattle.frame.proofs.PlainBytes.{window-by}
use Rattle.frame.proofs.ListOfCalls.{CalledOk, calls_ok, start_ok}
use Rattle.frame.proofs.Barred.{barred_step}
use Rattle.frame.proofs.WindowNumbers.{window-facts, window-is, alike}

pub ran : (s : Start) (cs : List Call) → Accepts s
    → CalledOk s.grid s.image s.marks (is_relaid s cs) (after s cs) (plain s cs)
ran s cs e =
    calls_ok s.grid s.image s.marks cs false (started s)
    (frame0 s.grid (length s.image) (length s.marks)) (start_ok s e)

-- what is enough for a grid is enough for it under full
enough_full : (g : Grid) (n m : ℕ) (full : Bool) → Enough g n m → Enough (pick full (under_full g) g) n m
unfolding pick
enough_full g n m true a =
    record {
      accepted = accepted_rule Full g a.accepted;
      bytes = omega (arith, bytes_rule Full g, a.bytes);
      words = a.words;
    }
enough_full g n m false a = a

-- the grid in force is accepted, and the buffers are long enough for it
pub enough : (s : Start) (cs : List Call) → Accepts s
    → Enough (in_force s cs) (length (after s cs).state.image) (length (after s cs).state.marks)
enough s cs e =
    let i = (ran s cs e).inv in
    let a = start-facts s.widths s.grid _ _ e in
    subst₂ (Enough (in_force s cs)) (sym i.held.size) (sym i.reached.size)
    (subst (λ (g : Grid). Enough g (length s.image) (length s.marks)) (sym i.grid)
    (enough_full s.grid _ _ (is_relaid s cs)
    (record {
      accepted = a.accepted;
      bytes = omega (arith, a.bytes, length-take s.n s.image);
      words = omega (arith, a.words, length-take s.m s.marks);
    })))

-- a re-lay keeps NBPP
same_width : (s : Start) (cs : List Call) → Accepts s → (in_force s cs).nbpp ≡ s.grid.nbpp
unfolding pick
same_width s cs e = ap (λ (g : Grid). g.nbpp) (ran s cs e).inv.grid ∙ go (is_relaid s cs)
  where
    go : (full : Bool) → (pick full (under_full s.grid) s.grid).nbpp ≡ s.grid.nbpp
    go true = refl
    go false = refl

-- the plain frame's window is that of its numbers
frame-window : (ws : Widths) (f : Frame) → Accepted f.grid → (n : ℕ) (w : Window) (out : List ℕ)
    → frame_window ws f n w out ≡ window_of ws f.grid f.numbers (min n f.image_length) w out
unfolding frame_window window_of
frame-window ws f a n w out =
    window-by _ f w out (λ e.
    let q = (window-facts ws f.grid (facts f.grid a) _ w (length out) e).picture in
    (q.rows-pos, q.columns-pos))

-- a window with any table on the image is that of the plain frame's numbers
module _ (s : Start) (cs : List Call) (e : Accepts s) (ws : Widths) (n : ℕ) (w : Window) (out : List ℕ) where
  abbrev now : List ℕ
  now = take n (after s cs).state.image

  pub of_numbers : window ws (in_force s cs) now w out
      ≡ window_of ws (in_force s cs) (plain s cs).frame.numbers (length now) w out
  of_numbers =
      window-is (in_force s cs) (facts (in_force s cs) (enough s cs e).accepted) s.image (after s cs).state.image
      (plain s cs).frame.numbers (ran s cs e).inv.held n ws w out

  pub as_frame : window ws (in_force s cs) now w out ≡ frame_window ws (plain s cs).frame n w out
  as_frame =
      let i = (ran s cs e).inv in
      let f = (plain s cs).frame in
      let size : length now ≡ min n f.image_length
      = length-take n (after s cs).state.image ∙ ap (min n) (i.held.size ∙ sym i.image-known) in
      of_numbers ∙ (λ j. window_of ws (sym i.f-grid j) f.numbers (size j) w out)
      ∙ sym (frame-window ws f (subst Accepted (sym i.f-grid) (enough s cs e).accepted) n w out)

pub demand3 : Demand3
demand3 s cs e =
    let i = (ran s cs e).inv in
    let g : Grid = in_force s cs in
    let a = enough s cs e in
    let now = (after s cs).state.image in
    record {
      answers = (ran s cs e).answers;
      grid = i.grid;
      frame-grid = i.f-grid;
      marked-reached = i.reached.each;
      barred = λ c z. barred_step c (after s cs).state a.accepted (ap (takes (widths_in c)) (same_width s cs e) ∙ z);
      windows = as_frame s cs e;
      numbers = record { inside = inside g; sample_bits = i.held.sample_bits; other_bits = i.held.other_bits };
      surplus = record {
        image-length = i.held.size;
        image-surplus = i.held.surplus;
        marks-length = i.reached.size;
        marks-surplus = i.reached.surplus;
      };
      alike = λ t cs' e' sp sn n n' hn hn' ws w out out' le.
          let a' = enough t cs' e' in
          let now' = (after t cs').state.image in
          subst₂ (Alike (band_count g.bands w.bands * w.rows * w.columns * sample_bytes g))
          (sym (of_numbers s cs e ws n w out)) (sym (of_numbers t cs' e' ws n' w out'))
          (alike ws g (in_force t cs') a.accepted a'.accepted sp (length (take n now)) (length (take n' now'))
          (omega (arith, a.bytes, length-take n now)) (omega (arith, a'.bytes, length-take n' now'))
          (plain s cs).frame.numbers (plain t cs').frame.numbers sn w out out' le);
    }
