-- Re-lays, document 02's term: in a list of calls on figure m's picture, and on images as they are.
-- Assumes nothing.
use Rattle.std.specs.Prelude.{ℕ, ◌-◌, ◌^◌, true, List, [], ◌∷◌, ◌++◌, take, replicate}
use Rattle.layout.specs.declared.InterleaveMode.TheVariants.{B}
use Rattle.layout.specs.Bands.{bands_of}
use Rattle.widths.specs.Widths.{standard}
use Rattle.grid.specs.declared.EdgeRule.{EdgeRule}
use Rattle.grid.specs.declared.EdgeRule.TheVariants.{Tight}
use Rattle.grid.specs.declared.Grid.{Grid}
use Rattle.grid.specs.Check.{grid_of}
use Rattle.calls.specs.declared.Answer.{Answer}
use Rattle.calls.specs.Orders.{Window, rectangle}
use Rattle.calls.specs.Reads.{window}
use Rattle.calls.specs.Relay.{Relaid, relay as relay_by}
use Rattle.frame.specs.Call.{Call, write, progress, finish, relay}
use Rattle.frame.specs.Calls.{Called, Start, after, in_force}
use Rattle.frame.specs.PlainFrame.{frame_window}
use Rattle.frame.specs.Demand3.{plain}
use Rattle.figures.specs.Instance.{told}

-- picture 2 by 3, blocks 2 by 2, NBPP 4, under an edge rule
abbrev pub edge : EdgeRule → Grid
edge rule = grid_of 2 3 1 4 B rule 2 2

-- a start under tight on a mark word of ones and an image of ones, which is longer than the grid's 4 bytes
abbrev pub begun_m : Start
begun_m =
    record {
      n = 5;
      m = 1;
      widths = standard;
      grid = edge Tight;
      image = replicate 5 255;
      marks = (2 ^ 64 - 1) ∷ [];
    }

-- block (0,1) written
abbrev pub written_m : List Call
written_m = write standard 5 1 0 1 1 2 1 (5 ∷ 9 ∷ []) ∷ []

-- and then re-lays: one refused by 9 for a scratch of one byte, one accepted with a longer scratch, full of sevens, and
-- one refused by 27
abbrev pub relaid_m : List Call
relaid_m =
    written_m
    ++ (relay standard 5 1 (7 ∷ [])
    ∷ relay standard 5 1 (7 ∷ 7 ∷ 7 ∷ [])
    ∷ relay standard 5 1 (7 ∷ 7 ∷ [])
    ∷ [])

-- and then other samples written to the block, progress and finish
abbrev pub asked_m : List Call
asked_m = relaid_m ++ (write standard 4 1 0 1 1 2 1 (6 ∷ 10 ∷ []) ∷ progress standard 1 ∷ finish standard 4 1 ∷ [])

unfoldable pub numbers_of : List Answer → List ℕ
numbers_of [] = []
numbers_of (a ∷ as') = a.number ∷ numbers_of as'

-- the numbers that calls answer, and the image after them
unfoldable pub image_after : List Call → List ℕ
image_after cs =
    let r : Called = after begun_m cs in
    numbers_of r.answers ++ r.state.image

-- the whole picture
abbrev pub whole_m : Window
whole_m = rectangle 0 0 2 3 (bands_of true [])

-- what the calls tell, the window on 4 bytes of the image; and what the plain frame tells
unfoldable pub by_calls_m : List ℕ
by_calls_m =
    told (after begun_m asked_m).answers
    (window standard (in_force begun_m asked_m) (take 4 (after begun_m asked_m).state.image) whole_m (replicate 7 8))

unfoldable pub by_plain_frame_m : List ℕ
by_plain_frame_m =
    told (plain begun_m asked_m).answers (frame_window standard (plain begun_m asked_m).frame 4 whole_m (replicate 7 8))

-- worked out by hand from documents 01 and 02
abbrev pub by_hand_m : List ℕ
by_hand_m =
    0 ∷ 0 ∷ 0
    ∷ 9 ∷ 0 ∷ 0
    ∷ 0 ∷ 0 ∷ 0
    ∷ 27 ∷ 0 ∷ 0
    ∷ 0 ∷ 0 ∷ 0
    ∷ 0 ∷ 1 ∷ 0
    ∷ 15 ∷ 0 ∷ 0
    ∷ 0 ∷ 0 ∷ 6 ∷ 0 ∷ 0 ∷ 10
    ∷ 8 ∷ []

-- a re-lay of an image as it is, with a scratch of so many sevens: its number, the image and the scratch
unfoldable pub relay_of : Grid → List ℕ → ℕ → List ℕ
relay_of grid image size =
    let r : Relaid = relay_by standard grid image (0 ∷ []) (replicate size 7) in
    r.number ∷ (r.image ++ r.scratch)
