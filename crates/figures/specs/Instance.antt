-- A list of calls on one picture under either edge rule, what the calls tell of it and what the plain frame does.
-- Assumes nothing.
use Rattle.std.specs.Prelude.{ℕ, ◌-◌, ◌^◌, false, List, [], ◌∷◌, ◌++◌, take, set, replicate}
use Rattle.layout.specs.declared.InterleaveMode.TheVariants.{P}
use Rattle.layout.specs.Bands.{bands_of}
use Rattle.widths.specs.declared.Widths.{Widths}
use Rattle.widths.specs.Widths.{standard, table_of}
use Rattle.grid.specs.declared.EdgeRule.{EdgeRule}
use Rattle.grid.specs.Check.{grid_of}
use Rattle.calls.specs.declared.Answer.{Answer}
use Rattle.calls.specs.Answers.{Filled}
use Rattle.calls.specs.Orders.{Window, rectangle}
use Rattle.calls.specs.Reads.{window}
use Rattle.frame.specs.Call.{Call, write, skip, progress, finish}
use Rattle.frame.specs.Calls.{Start, after, in_force}
use Rattle.frame.specs.PlainFrame.{frame_window}
use Rattle.frame.specs.Demand3.{plain}

-- 3 rows by 5 columns, blocks 2 rows by 4 columns, 2 bands, NBPP 12 in P: 4 blocks of 24 bytes. Image and marks are
-- longer than that and full of ones; start is lent less of them than the calls after it
abbrev pub begun : EdgeRule → Start
begun rule =
    record {
      n = 97;
      m = 1;
      widths = standard;
      grid = grid_of 3 5 2 12 P rule 4 2;
      image = replicate 100 255;
      marks = (2 ^ 64 - 1) ∷ 7 ∷ [];
    }

-- the constant table with 0 for 12 bits
abbrev pub no_twelve : Widths
no_twelve = table_of (set standard.entries 12 0)

-- block (0,0) written; (1,1) refused by 11 and by 13; written; refused by 26 for its last sample, by 14 though its
-- sample does not fit either, and by 2 with a table that bars 12; (0,0) skipped; progress, and refused by 12; finish
abbrev pub asked : List Call
asked =
    write standard 1000 1000 0 0 2 2 4 (replicate 32 0x0B)
    ∷ write standard 95 1000 1 1 2 1 1 (0 ∷ 1 ∷ 0 ∷ 2 ∷ [])
    ∷ write standard 96 1 1 1 2 2 4 (0 ∷ 1 ∷ 0 ∷ 2 ∷ [])
    ∷ write standard 96 1 1 1 2 1 1 (0x01 ∷ 0x23 ∷ 0x04 ∷ 0x56 ∷ [])
    ∷ write standard 96 1 1 1 2 1 1 (0x07 ∷ 0x89 ∷ 0x10 ∷ 0x00 ∷ [])
    ∷ write standard 96 1 1 1 2 1 1 (0xF1 ∷ 0x23 ∷ [])
    ∷ write no_twelve 96 1 1 1 2 1 1 (0x00 ∷ 0x00 ∷ 0x00 ∷ 0x00 ∷ [])
    ∷ skip standard 96 1 0 0
    ∷ progress standard 1
    ∷ progress standard 0
    ∷ finish standard 96 2
    ∷ []

-- bands 1 and 0, in this order, of rows 1 and 2 and columns 3 and 4
abbrev pub part : Window
part = rectangle 1 3 2 2 (bands_of false (1 ∷ 0 ∷ []))

-- the numbers and values of answers
unfoldable pub flat : List Answer → List ℕ
flat [] = []
flat (a ∷ as') = a.number ∷ a.first ∷ a.second ∷ flat as'

-- answers, and what a window fills of 17 bytes
abbrev pub told : List Answer → Filled → List ℕ
told answers seen = flat answers ++ seen.out

-- what the calls tell, the window on 96 bytes of the image; and what the plain frame tells
unfoldable pub by_calls : EdgeRule → List ℕ
by_calls rule =
    let s : Start = begun rule in
    told (after s asked).answers
    (window standard (in_force s asked) (take 96 (after s asked).state.image) part (replicate 17 9))

unfoldable pub by_plain_frame : EdgeRule → List ℕ
by_plain_frame rule =
    let s : Start = begun rule in
    told (plain s asked).answers (frame_window standard (plain s asked).frame 96 part (replicate 17 9))

-- worked out by hand from documents 01 and 02; it is the same under both rules
abbrev pub by_hand : List ℕ
by_hand =
    0 ∷ 0 ∷ 0
    ∷ 11 ∷ 0 ∷ 0
    ∷ 13 ∷ 0 ∷ 0
    ∷ 0 ∷ 0 ∷ 0
    ∷ 26 ∷ 0 ∷ 0
    ∷ 14 ∷ 0 ∷ 0
    ∷ 2 ∷ 0 ∷ 0
    ∷ 0 ∷ 0 ∷ 0
    ∷ 0 ∷ 2 ∷ 0
    ∷ 12 ∷ 0 ∷ 0
    ∷ 15 ∷ 0 ∷ 1
    ∷ 0x0B ∷ 0x0B ∷ 0 ∷ 0 ∷ 0 ∷ 0 ∷ 0x04 ∷ 0x56
    ∷ 0x0B ∷ 0x0B ∷ 0 ∷ 0 ∷ 0 ∷ 0 ∷ 0x01 ∷ 0x23
    ∷ 9 ∷ []
