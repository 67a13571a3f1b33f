-- Demand 3 as one statement about a whole list of calls after an accepted start.
-- Assumes nothing.
use Rattle.std.specs.Prelude.{ℕ, suc, ◌+◌, ◌-◌, ◌*◌, ◌≤◌, ◌<◌, ◌≡◌, false, List, length, take, drop}
use Rattle.common.specs.Tests.{pick}
use Rattle.bits.specs.Bits.{bit_of, bit_at}
use Rattle.widths.specs.declared.Widths.{Widths}
use Rattle.widths.specs.Widths.{takes}
use Rattle.grid.specs.declared.Grid.{Grid}
use Rattle.grid.specs.Sizes.{sample_bytes, blocks, image_bytes, block_index}
use Rattle.grid.specs.Layout.{place, Block, SampleBit}
use Rattle.grid.specs.EdgeRules.{under_full}
use Rattle.marks.specs.Marks.{mark_words, marked}
use Rattle.layout.specs.Bands.{band_count}
use Rattle.calls.specs.Answers.{Filled}
use Rattle.calls.specs.Orders.{Window}
use Rattle.calls.specs.Reads.{window}
use Rattle.calls.specs.Writes.{number}
use Rattle.frame.specs.Call.{Call, widths_in}
use Rattle.frame.specs.Calls.{State, Start, Accepts, step, after, in_force, is_relaid}
use Rattle.frame.specs.PlainFrame.{Frame, FrameCalled, frame0, frame_call_all, frame_window}

-- the plain frame that is fed the same: the starting grid, the buffers' lengths and the calls
abbrev pub plain : Start → List Call → FrameCalled
plain s cs = frame_call_all cs (frame0 s.grid (length s.image) (length s.marks))

-- two grids with the same rows, columns, bands and NBPP, under whatever modes, block sizes and edge rules
pub record SamePicture (g h : Grid) : Type 0 where
  pub nrows : g.nrows ≡ h.nrows
  pub ncols : g.ncols ≡ h.ncols
  pub bands : g.bands ≡ h.bands
  pub nbpp : g.nbpp ≡ h.nbpp

-- two plain frames with the same sample values
abbrev pub SameNumbers : Grid → Frame → Frame → Type 0
SameNumbers g f f' = (b y x : ℕ) → b < g.bands → y < g.nrows → x < g.ncols → f.numbers b y x ≡ f'.numbers b y x

-- the same answer, refusals included, and where it is acceptance the same n bytes
pub record Alike (n : ℕ) (a b : Filled) : Type 0 where
  pub shape : a.shape ≡ b.shape
  pub bytes : a.shape.number ≡ 0 → take n a.out ≡ take n b.out

-- an image as a plain frame has it, where the grid's layout puts samples
pub record HoldsNumbers (g : Grid) (image : List ℕ) (f : Frame) : Type 0 where
  -- each bit of an actual sample lies inside the image's bytes and is that bit of the plain frame's number
  pub inside : (row column b r c i : ℕ) → SampleBit g row column b r c i
      → place g row column b r c + i < image_bytes g * 8
  pub sample_bits : (row column b r c i : ℕ) → SampleBit g row column b r c i
      → bit_at image (place g row column b r c + i)
      ≡ bit_of (f.numbers b (row * g.nppbv + r) (column * g.nppbh + c)) (g.nbpp - suc i)
  -- each bit of the image that holds no sample is zero
  pub other_bits : (p : ℕ) → p < image_bytes g * 8
      → ((row column b r c i : ℕ) → SampleBit g row column b r c i → place g row column b r c + i ≡ p → ⊥)
      → bit_at image p ≡ 0

-- the surplus of longer buffers is kept
pub record KeepsSurplus (g : Grid) (s : Start) (now : State) : Type 0 where
  pub image-length : length now.image ≡ length s.image
  pub image-surplus : drop (image_bytes g) now.image ≡ drop (image_bytes g) s.image
  pub marks-length : length now.marks ≡ length s.marks
  pub marks-surplus : drop (mark_words (blocks g)) now.marks ≡ drop (mark_words (blocks g)) s.marks

-- what holds after a list of calls. Windows, places and sizes are those of the grid in force
pub record Holds (s : Start) (cs : List Call) : Type 0 where
  -- each call answers as the plain frame does
  pub answers : (after s cs).answers ≡ (plain s cs).answers
  -- the grid in force is the starting grid, or once a re-lay was accepted that one under full; it is the plain frame's
  pub grid : in_force s cs ≡ pick (is_relaid s cs) (under_full s.grid) s.grid
  pub frame-grid : (plain s cs).frame.grid ≡ in_force s cs
  -- a block's mark is one exactly when the block is reached
  pub marked-reached : (row column : ℕ) → Block (in_force s cs) row column
      → marked (after s cs).state.marks (block_index (in_force s cs) row column)
      ≡ (plain s cs).frame.reached row column
  -- a call whose table bars the width is refused with 2 and changes nothing
  pub barred : (c : Call) → takes (widths_in c) s.grid.nbpp ≡ false
      → step c (after s cs).state ≡ record { answer = number 2; state = (after s cs).state }
  -- a window with any table, on the image or on its first n bytes, is refused as the plain frame refuses it, and an
  -- accepted one gives the plain frame's numbers
  pub windows : (ws : Widths) (n : ℕ) (w : Window) (out : List ℕ)
      → window ws (in_force s cs) (take n (after s cs).state.image) w out ≡ frame_window ws (plain s cs).frame n w out
  pub numbers : HoldsNumbers (in_force s cs) (after s cs).state.image (plain s cs).frame
  pub surplus : KeepsSurplus (in_force s cs) s (after s cs).state
  -- two images from such lists with the same picture and sample values give the same answer and bytes to any window
  -- asked alike of both, with one table, each with any part of its buffer's surplus
  pub alike : (t : Start) (cs' : List Call) → Accepts t
      → SamePicture (in_force s cs) (in_force t cs')
      → SameNumbers (in_force s cs) (plain s cs).frame (plain t cs').frame
      → (n n' : ℕ) → image_bytes (in_force s cs) ≤ n → image_bytes (in_force t cs') ≤ n'
      → (ws : Widths) (w : Window) (out out' : List ℕ) → length out ≡ length out'
      → Alike (band_count (in_force s cs).bands w.bands * w.rows * w.columns * sample_bytes (in_force s cs))
      (window ws (in_force s cs) (take n (after s cs).state.image) w out)
      (window ws (in_force t cs') (take n' (after t cs').state.image) w out')

-- for every accepted start and list of calls
abbrev pub Demand3 : Type 0
Demand3 = (s : Start) (cs : List Call) → Accepts s → Holds s cs
