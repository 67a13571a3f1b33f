-- Demand 3 in the request's own words: what was last accepted for a sample, and which different blocks accepted writes
-- and skips named.
-- Assumes nothing.
use Rattle.std.specs.Prelude.{ℕ, ◌*◌, ◌/◌, ◌%◌, ◌≤◌, ◌≡◌, Bool, true, false, ◌||◌, List, [], ◌∷◌, eqb, length, take}
use Rattle.common.specs.Tests.{every, pick}
use Rattle.common.specs.Over.{over}
use Rattle.bits.specs.Bits.{Bytes}
use Rattle.layout.specs.Bands.{bands_of}
use Rattle.widths.specs.declared.Widths.{Widths}
use Rattle.grid.specs.declared.Grid.{Grid}
use Rattle.grid.specs.Sizes.{actual_rows, actual_columns, image_bytes}
use Rattle.grid.specs.Layout.{Block, Sample}
use Rattle.calls.specs.declared.Answer.{Answer}
use Rattle.calls.specs.Answers.{Filled}
use Rattle.calls.specs.Orders.{Window, rectangle, start_number}
use Rattle.calls.specs.Reads.{sample_at, window_of, window}
use Rattle.frame.specs.Call.{Call, write, skip, progress, finish, relay}
use Rattle.frame.specs.Calls.{Start, Accepts, step, after, in_force}
use Rattle.frame.specs.PlainFrame.{whole_in_data, number_in_data, reached_count}

-- the data last accepted for a block, if there are any, and the table that their write was handed
pub data Last : Type 0 where
  nothing : Last
  these : Widths → List ℕ → Last

-- is block (row, column) the one of an accepted call on block (y, x)
abbrev pub accepts : ℕ → ℕ → ℕ → ℕ → ℕ → Bool
accepts number y x row column = every (eqb number 0 ∷ eqb row y ∷ eqb column x ∷ [])

-- the last data of block (row, column) after a call that was answered with a number
unfoldable pub data_after : Call → ℕ → ℕ → ℕ → Last → Last
data_after (write ws n m y x bands rows columns dat) number row column last =
    pick (accepts number y x row column) (these ws dat) last
data_after (skip ws n m y x) number row column last = last
data_after (progress ws m) number row column last = last
data_after (finish ws n m) number row column last = last
data_after (relay ws n m scratch) number row column last = last

-- has an accepted write or skip named block (row, column) after a call that was answered with a number
unfoldable pub named_after : Call → ℕ → ℕ → ℕ → Bool → Bool
named_after (write ws n m y x bands rows columns dat) number row column named = accepts number y x row column || named
named_after (skip ws n m y x) number row column named = accepts number y x row column || named
named_after (progress ws m) number row column named = named
named_after (finish ws n m) number row column named = named
named_after (relay ws n m scratch) number row column named = named

-- the same after calls with their answers, in order
unfoldable pub last_data : List Call → List Answer → ℕ → ℕ → Last → Last
last_data [] told row column last = last
last_data (c ∷ cs) [] row column last = last
last_data (c ∷ cs) (a ∷ told) row column last = last_data cs told row column (data_after c a.number row column last)

unfoldable pub named : List Call → List Answer → ℕ → ℕ → Bool → Bool
named [] told row column t = t
named (c ∷ cs) [] row column t = t
named (c ∷ cs) (a ∷ told) row column t = named cs told row column (named_after c a.number row column t)

-- the data last accepted for a block after a start and calls, and whether accepted writes and skips named it
abbrev pub last_accepted : Start → List Call → ℕ → ℕ → Last
last_accepted s cs row column = last_data cs (after s cs).answers row column nothing

abbrev pub is_named : Start → List Call → ℕ → ℕ → Bool
is_named s cs row column = named cs (after s cs).answers row column false

-- the low NBPP bits of sample (b, r, c) in the data, or zero
unfoldable pub value_in : Grid → ℕ → ℕ → ℕ → ℕ → ℕ → Last → ℕ
value_in g row column b r c nothing = 0
value_in g row column b r c (these ws dat) = number_in_data g row column dat b r c

-- the low NBPP bits last accepted for a band, row and column of the picture, or zero
unfoldable pub last_number : Start → List Call → ℕ → ℕ → ℕ → ℕ
last_number s cs b y x =
    let g : Grid = in_force s cs in
    let row : ℕ = y / g.nppbv in
    let column : ℕ = x / g.nppbh in
    value_in g row column b (y % g.nppbv) (x % g.nppbh) (last_accepted s cs row column)

-- what the next call answers
abbrev pub next : Start → List Call → Call → Answer
next s cs c = (step c (after s cs).state).answer

-- the number of the questions that a finish asks before 15
abbrev pub before_last : Start → List Call → Widths → ℕ → ℕ → ℕ
before_last s cs ws n m =
    start_number ws (in_force s cs)
    (length (take n (after s cs).state.image)) (length (take m (after s cs).state.marks))

-- these are all blocks
abbrev pub AllNamed : Start → List Call → Type 0
AllNamed s cs = (row column : ℕ) → Block (in_force s cs) row column → is_named s cs row column ≡ true

-- the window of a block: its actual samples, in all bands
abbrev pub block_window : Grid → ℕ → ℕ → Window
block_window g row column =
    rectangle (row * g.nppbv) (column * g.nppbh) (actual_rows g row) (actual_columns g column) (bands_of true [])

-- its answer with a table, on the image's first n bytes
abbrev pub block_returned : Start → List Call → ℕ → ℕ → Widths → ℕ → List ℕ → Filled
block_returned s cs row column ws n out =
    window ws (in_force s cs) (take n (after s cs).state.image) (block_window (in_force s cs) row column) out

-- an accepted read of all of a block
abbrev pub all_of : Grid → ℕ → ℕ → List ℕ → Filled
all_of g row column out =
    record {
      shape = record { number = 0; bands = g.bands; rows = actual_rows g row; columns = actual_columns g column };
      out = out;
    }

pub record Words (s : Start) (cs : List Call) : Type 0 where
  -- each sample of each accepted window is the low NBPP bits last accepted for it, or zero if no write of its block was
  -- accepted: a window on the image, or on its first n bytes, answers as on a picture of these numbers
  pub windows : (ws : Widths) (n : ℕ) (w : Window) (out : List ℕ)
      → window ws (in_force s cs) (take n (after s cs).state.image) w out
      ≡ window_of ws (in_force s cs) (last_number s cs) (length (take n (after s cs).state.image)) w out
  -- and so is each sample of the image
  pub samples : (row column b r c : ℕ) → Sample (in_force s cs) row column b r c
      → sample_at (in_force s cs) (after s cs).state.image row column b r c
      ≡ value_in (in_force s cs) row column b r c (last_accepted s cs row column)
  -- what was last accepted is kept whole: the low NBPP bits of each of its samples are the whole number
  pub whole : (row column : ℕ) (ws : Widths) (dat : List ℕ) → last_accepted s cs row column ≡ these ws dat
      → (b r c : ℕ) → Sample (in_force s cs) row column b r c
      → number_in_data (in_force s cs) row column dat b r c ≡ whole_in_data (in_force s cs) row column dat b r c
  -- and returned whole: with the table that the write was handed, the window of its block on the image's bytes is
  -- accepted by an output that holds the data, and gives the same bytes
  pub returned : (row column : ℕ) (ws : Widths) (dat : List ℕ)
      → last_accepted s cs row column ≡ these ws dat → Bytes dat
      → (n : ℕ) (out : List ℕ) → image_bytes (in_force s cs) ≤ n → length dat ≤ length out
      → block_returned s cs row column ws n out ≡ all_of (in_force s cs) row column (over out 0 dat)
  -- with another table, or on fewer bytes, it is refused or gives them too
  pub returned_if_accepted : (row column : ℕ) (ws : Widths) (dat : List ℕ)
      → last_accepted s cs row column ≡ these ws dat → Bytes dat
      → (vs : Widths) (n : ℕ) (out : List ℕ) → (block_returned s cs row column vs n out).shape.number ≡ 0
      → (block_returned s cs row column vs n out).out ≡ over out 0 dat
  -- an accepted progress call counts the different blocks in accepted writes and skips before it
  pub progress-counts : (ws : Widths) (m : ℕ) → (next s cs (progress ws m)).number ≡ 0
      → (next s cs (progress ws m)).first ≡ reached_count (in_force s cs) (is_named s cs)
  -- a finish that reaches question 15 is accepted exactly when these are all blocks
  pub finish_only : (ws : Widths) (n m : ℕ) → before_last s cs ws n m ≡ 0
      → (next s cs (finish ws n m)).number ≡ 0 → AllNamed s cs
  pub finish_if : (ws : Widths) (n m : ℕ) → before_last s cs ws n m ≡ 0
      → AllNamed s cs → (next s cs (finish ws n m)).number ≡ 0

-- for every accepted start and list of calls
abbrev pub OwnWords : Type 0
OwnWords = (s : Start) (cs : List Call) → Accepts s → Words s cs
