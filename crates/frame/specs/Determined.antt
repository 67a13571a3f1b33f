-- The image and the marks are functions of the plain frame: of the grid in force, the picture's numbers and the reached
-- blocks, whatever the calls were and whatever the buffers held before the start.
-- Assumes nothing.
use Rattle.std.specs.Prelude.{ℕ, ◌≡◌, List, take}
use Rattle.grid.specs.declared.Grid.{Grid}
use Rattle.grid.specs.Sizes.{blocks, image_bytes}
use Rattle.grid.specs.Layout.{Block}
use Rattle.marks.specs.Marks.{mark_words}
use Rattle.frame.specs.Call.{Call}
use Rattle.frame.specs.Calls.{Start, Accepts, after, in_force}
use Rattle.frame.specs.PlainFrame.{Frame}
use Rattle.frame.specs.Demand3.{plain, SameNumbers}

-- two plain frames with the same reached blocks
abbrev pub SameReached : Grid → Frame → Frame → Type 0
SameReached g f f' = (row column : ℕ) → Block g row column → f.reached row column ≡ f'.reached row column

pub record SameBuffers (s t : Start) (cs cs' : List Call) : Type 0 where
  -- the same numbers give the same bytes of the image
  pub image : SameNumbers (in_force s cs) (plain s cs).frame (plain t cs').frame
      → take (image_bytes (in_force s cs)) (after s cs).state.image
      ≡ take (image_bytes (in_force s cs)) (after t cs').state.image
  -- the same reached blocks give the same mark words
  pub marks : SameReached (in_force s cs) (plain s cs).frame (plain t cs').frame
      → take (mark_words (blocks (in_force s cs))) (after s cs).state.marks
      ≡ take (mark_words (blocks (in_force s cs))) (after t cs').state.marks

-- for any two accepted starts and lists of calls that leave one grid in force
abbrev pub Determined : Type 0
Determined =
    (s t : Start) (cs cs' : List Call) → Accepts s → Accepts t → in_force s cs ≡ in_force t cs' → SameBuffers s t cs cs'
