-- The plain frame of document 01: the picture's numbers and the reached blocks. With the calls it shares their orders
-- of questions and the sizes of a grid, and nothing that says where a sample lies or what a read or a write does.
-- Assumes nothing.
use Rattle.std.specs.Prelude.{ℕ, zero, suc, ◌+◌, ◌-◌, ◌*◌, ◌/◌, ◌%◌, ◌^◌, min, Bool, false, ◌||◌, List, [], ◌∷◌, ◌++◌, ltb, leb, eqb, length, take, drop}
use Rattle.common.specs.Questions.{outcome}
use Rattle.common.specs.Tests.{every, pick, all_below}
use Rattle.widths.specs.declared.Widths.{Widths}
use Rattle.grid.specs.declared.Grid.{Grid}
use Rattle.grid.specs.Sizes.{sample_bytes, actual_rows, actual_columns}
use Rattle.grid.specs.EdgeRules.{under_full}
use Rattle.calls.specs.declared.Answer.{Answer}
use Rattle.calls.specs.Answers.{Filled}
use Rattle.calls.specs.Orders.{Window, start_number, write_number, skip_number, progress_number, relay_number}
use Rattle.calls.specs.Orders.{window_number}
use Rattle.frame.specs.Call.{Call, write, skip, progress, finish, relay}

-- a number for each band, row and column of the picture, and which blocks are reached, by block row and block column.
-- It is fed the grid and, of image and marks, only the lengths
pub record Frame : Type 0 where
  pub grid : Grid
  pub image_length : ℕ
  pub marks_length : ℕ
  pub numbers : ℕ → ℕ → ℕ → ℕ
  pub reached : ℕ → ℕ → Bool

-- after a start: every number is 0 and no block is reached
unfoldable pub frame0 : Grid → ℕ → ℕ → Frame
frame0 g n m =
    record { grid = g; image_length = n; marks_length = m; numbers = λ b y x. 0; reached = λ row column. false }

-- ---- a write and a skip

-- the number that a number n becomes when bytes follow it, high byte first
unfoldable pub as_number : ℕ → List ℕ → ℕ
as_number n [] = n
as_number n (x ∷ xs) = as_number (n * 256 + x) xs

-- sample (b, r, c) in the data of a write, as a whole number: the s big-endian bytes at
-- ((b × actual rows + r) × actual columns + c) × s
unfoldable pub whole_in_data : Grid → ℕ → ℕ → List ℕ → ℕ → ℕ → ℕ → ℕ
whole_in_data g row column dat b r c =
    let at : ℕ = ((b * actual_rows g row + r) * actual_columns g column + c) * sample_bytes g in
    as_number 0 (take (sample_bytes g) (drop at dat))

-- what a write keeps of it: the low NBPP bits
unfoldable pub number_in_data : Grid → ℕ → ℕ → List ℕ → ℕ → ℕ → ℕ → ℕ
number_in_data g row column dat b r c = whole_in_data g row column dat b r c % 2 ^ g.nbpp

-- question 26: is each sample in the data below 2 to the NBPP, so that no bit is above
unfoldable pub fit_in_data : Grid → ℕ → ℕ → List ℕ → Bool
fit_in_data g row column dat =
    all_below g.bands
    (λ b. all_below (actual_rows g row)
    (λ r. all_below (actual_columns g column)
    (λ c. ltb (whole_in_data g row column dat b r c) (2 ^ g.nbpp))))

-- is a band, row and column of the picture an actual sample of the block
unfoldable pub in_block : Grid → ℕ → ℕ → ℕ → ℕ → ℕ → Bool
in_block g row column b y x =
    every
    (ltb b g.bands
    ∷ leb (row * g.nppbv) y
    ∷ ltb y (row * g.nppbv + actual_rows g row)
    ∷ leb (column * g.nppbh) x
    ∷ ltb x (column * g.nppbh + actual_columns g column)
    ∷ [])

-- a write sets the number at row (block row × NPPBV + r) and column (block column × NPPBH + c) for each actual sample
-- of its block
unfoldable pub written : Grid → ℕ → ℕ → List ℕ → (ℕ → ℕ → ℕ → ℕ) → ℕ → ℕ → ℕ → ℕ
written g row column dat numbers b y x =
    pick (in_block g row column b y x)
    (number_in_data g row column dat b (y - row * g.nppbv) (x - column * g.nppbh))
    (numbers b y x)

-- one block more is reached
unfoldable pub reach : ℕ → ℕ → (ℕ → ℕ → Bool) → ℕ → ℕ → Bool
reach row column reached y x = every (eqb y row ∷ eqb x column ∷ []) || reached y x

pub record FrameStep : Type 0 where
  pub answer : Answer
  pub frame : Frame

-- an answer that is a number alone
abbrev pub number_alone : ℕ → Answer
number_alone n = record { number = n; first = 0; second = 0 }

-- a refused call changes nothing
abbrev pub refused_step : Frame → ℕ → FrameStep
refused_step f n = record { answer = number_alone n; frame = f }

-- the block is reached, and the numbers are these
abbrev pub reached_step : Frame → ℕ → ℕ → (ℕ → ℕ → ℕ → ℕ) → FrameStep
reached_step f row column numbers =
    record {
      answer = number_alone 0;
      frame = record {
        grid = f.grid;
        image_length = f.image_length;
        marks_length = f.marks_length;
        numbers = numbers;
        reached = reach row column f.reached;
      };
    }

unfoldable pub frame_write : ℕ → Frame → ℕ → ℕ → List ℕ → FrameStep
frame_write n f row column dat =
    outcome n (reached_step f row column (written f.grid row column dat f.numbers)) (refused_step f)

unfoldable pub frame_skip : ℕ → Frame → ℕ → ℕ → FrameStep
frame_skip n f row column = outcome n (reached_step f row column f.numbers) (refused_step f)

-- ---- progress and finish

-- f 0 + .. + f (n - 1)
unfoldable pub total : (ℕ → ℕ) → ℕ → ℕ
total f zero = 0
total f (suc n) = total f n + f n

-- how many blocks are reached
unfoldable pub reached_count : Grid → (ℕ → ℕ → Bool) → ℕ
reached_count g reached = total (λ row. total (λ column. pick (reached row column) 1 0) g.nbpr) g.nbpc

unfoldable pub frame_progress : ℕ → Frame → Answer
frame_progress n f =
    outcome n (record { number = 0; first = reached_count f.grid f.reached; second = 0 }) number_alone

-- 15 with the first unreached of n blocks of a block row, from a block column on, else the rest
unfoldable pub unreached_in_row : (ℕ → ℕ → Bool) → ℕ → ℕ → ℕ → Answer → Answer
unreached_in_row reached row column zero rest = rest
unreached_in_row reached row column (suc n) rest =
    pick (reached row column)
    (unreached_in_row reached row (suc column) n rest)
    (record { number = 15; first = row; second = column })

-- 15 with the first unreached block of n block rows from one on, by rows, then columns; 0 if all are reached
unfoldable pub unreached : (ℕ → ℕ → Bool) → ℕ → ℕ → ℕ → Answer
unreached reached across row zero = number_alone 0
unreached reached across row (suc n) = unreached_in_row reached row 0 across (unreached reached across (suc row) n)

unfoldable pub frame_finish : ℕ → Frame → Answer
frame_finish n f = outcome n (unreached f.reached f.grid.nbpr 0 f.grid.nbpc) number_alone

-- ---- re-lay

-- the grid is the one under full; numbers and reached blocks stay
abbrev pub relaid_step : Frame → FrameStep
relaid_step f =
    record {
      answer = number_alone 0;
      frame = record {
        grid = under_full f.grid;
        image_length = f.image_length;
        marks_length = f.marks_length;
        numbers = f.numbers;
        reached = f.reached;
      };
    }

unfoldable pub frame_relay : ℕ → Frame → FrameStep
frame_relay n f = outcome n (relaid_step f) (refused_step f)

-- ---- the calls

-- a call is asked of its table and of the lengths that it lends; progress and question 15 look at the reached blocks
unfoldable pub frame_step : Call → Frame → FrameStep
frame_step (write ws n m row column bands rows columns dat) f =
    frame_write
    (write_number ws f.grid (min n f.image_length) (min m f.marks_length) row column bands rows columns (length dat)
    (fit_in_data f.grid row column dat))
    f row column dat
frame_step (skip ws n m row column) f =
    frame_skip (skip_number ws f.grid (min n f.image_length) (min m f.marks_length) row column) f row column
frame_step (progress ws m) f =
    record { answer = frame_progress (progress_number ws f.grid (min m f.marks_length)) f; frame = f }
frame_step (finish ws n m) f =
    record {
      answer = frame_finish (start_number ws f.grid (min n f.image_length) (min m f.marks_length)) f;
      frame = f;
    }
frame_step (relay ws n m scratch) f =
    frame_relay (relay_number ws f.grid (min n f.image_length) (min m f.marks_length) (length scratch)) f

pub record FrameCalled : Type 0 where
  pub answers : List Answer
  pub frame : Frame

unfoldable pub frame_call_all : List Call → Frame → FrameCalled
frame_call_all [] f = record { answers = []; frame = f }
frame_call_all (c ∷ cs) f =
    let o : FrameStep = frame_step c f in
    let r : FrameCalled = frame_call_all cs o.frame in
    record { answers = o.answer ∷ r.answers; frame = r.frame }

-- ---- the window

-- a number in s bytes, high byte first
unfoldable pub as_bytes : ℕ → ℕ → List ℕ
as_bytes zero v = []
as_bytes (suc s) v = v / 256 ^ s % 256 ∷ as_bytes s v

-- f k, f (k + 1), up to n of them, one after the other
unfoldable pub each_from : (ℕ → List ℕ) → ℕ → ℕ → List ℕ
each_from f k zero = []
each_from f k (suc n) = f k ++ each_from f (suc k) n

-- f of each number of a list, one after the other
unfoldable pub each_of : (ℕ → List ℕ) → List ℕ → List ℕ
each_of f [] = []
each_of f (k ∷ ks) = f k ++ each_of f ks

-- a band of the window: row by row
unfoldable pub window_band : Frame → Window → ℕ → List ℕ
window_band f w b =
    each_from
    (λ y. each_from (λ x. as_bytes (sample_bytes f.grid) (f.numbers b y x)) w.column w.columns)
    w.row w.rows

-- the window's bytes: band by band, listed bands in the list's order
unfoldable pub frame_bytes : Frame → Window → List ℕ
frame_bytes f w =
    pick w.bands.all
    (each_from (window_band f w) 0 f.grid.bands)
    (each_of (window_band f w) w.bands.list)

unfoldable pub frame_window_by : ℕ → Frame → Window → List ℕ → Filled
frame_window_by n f w out =
    outcome n
    (record {
      shape = record {
        number = 0;
        bands = pick w.bands.all f.grid.bands (length w.bands.list);
        rows = w.rows;
        columns = w.columns;
      };
      out = frame_bytes f w ++ drop (length (frame_bytes f w)) out;
    })
    (λ k. record { shape = record { number = k; bands = 0; rows = 0; columns = 0 }; out = out })

-- the plain frame's window with a table, on the first n bytes of the image
unfoldable pub frame_window : Widths → Frame → ℕ → Window → List ℕ → Filled
frame_window ws f n w out = frame_window_by (window_number ws f.grid (min n f.image_length) w (length out)) f w out
