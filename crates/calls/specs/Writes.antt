-- Writing: start, write, skip, progress and finish.
-- Assumes nothing.
use Rattle.std.specs.Prelude.{ℕ, ◌+◌, ◌*◌, ◌%◌, ◌^◌, Bool, true, false, List, Option, length, replicate}
use Rattle.common.specs.Questions.{outcome}
use Rattle.common.specs.Over.{over}
use Rattle.common.specs.Turns.{iter}
use Rattle.bits.specs.Bits.{put_bits, be_at}
use Rattle.widths.specs.declared.Widths.{Widths}
use Rattle.grid.specs.declared.Grid.{Grid}
use Rattle.grid.specs.Sizes.{sample_bytes, band_bytes, blocks, image_bytes, block_index}
use Rattle.grid.specs.Sizes.{actual_rows, actual_columns, byte_multiple}
use Rattle.grid.specs.Layout.{run_byte, place}
use Rattle.marks.specs.Marks.{mark_words, marked, mark, count, first_not, unmarked_number, unmarked_row, unmarked_column}
use Rattle.calls.specs.declared.Answer.{Answer}
use Rattle.calls.specs.Answers.{FrameOut}
use Rattle.calls.specs.Orders.{q26, start_number, write_number, skip_number, progress_number}

-- ---- answers

abbrev pub number : ℕ → Answer
number n = record { number = n; first = 0; second = 0 }

-- how many blocks pass the test, by the call's number
abbrev pub progress_answer : ℕ → Grid → (ℕ → Bool) → Answer
progress_answer n g test = outcome n (record { number = 0; first = count (blocks g) test; second = 0 }) number

abbrev pub unmarked_answer : Option (ℕ × ℕ) → Answer
unmarked_answer u = record { number = unmarked_number u; first = unmarked_row u; second = unmarked_column u }

-- the first block that does not pass the test, by the number of the questions before 15
abbrev pub finish_answer : ℕ → Grid → (ℕ → Bool) → Answer
finish_answer n g test = outcome n (unmarked_answer (first_not test g.nbpr g.nbpc)) number

-- ---- what a call leaves

abbrev pub frame_out : Answer → List ℕ → List ℕ → FrameOut
frame_out answer image marks = record { answer = answer; image = image; marks = marks }

-- a refused call changes nothing
abbrev pub unchanged : List ℕ → List ℕ → ℕ → FrameOut
unchanged image marks n = frame_out (number n) image marks

-- start clears the image and the words that hold the grid's marks
unfoldable pub start : Widths → Grid → List ℕ → List ℕ → FrameOut
start ws g image marks =
    outcome (start_number ws g (length image) (length marks))
    (frame_out (number 0) (over image 0 (replicate (image_bytes g) 0))
    (over marks 0 (replicate (mark_words (blocks g)) 0)))
    (unchanged image marks)

-- sample (b, r, c) of the data of a write: the low NBPP bits of its s big-endian bytes
unfoldable pub data_at : Grid → ℕ → ℕ → List ℕ → ℕ → ℕ → ℕ → ℕ
data_at g row column dat b r c =
    be_at dat (((b * actual_rows g row + r) * actual_columns g column + c) * sample_bytes g) (sample_bytes g) % 2 ^ g.nbpp

-- the first n samples of row r of band b of the block put at their places: sample (b, r, c) is number v b r c
abbrev pub put_row : Grid → ℕ → ℕ → (ℕ → ℕ → ℕ → ℕ) → ℕ → ℕ → ℕ → List ℕ → List ℕ
put_row g row column v b r n image =
    iter n (λ c im. put_bits im (place g row column b r c) g.nbpp (v b r c)) image

-- each actual sample of the block put at its place
unfoldable pub put_samples : Grid → ℕ → ℕ → (ℕ → ℕ → ℕ → ℕ) → List ℕ → List ℕ
put_samples g row column v image =
    iter (actual_rows g row)
    (λ r im. iter g.bands (λ b im. put_row g row column v b r (actual_columns g column) im) im)
    image

-- the samples of the data put
abbrev pub put_block : Grid → ℕ → ℕ → List ℕ → List ℕ → List ℕ
put_block g row column dat image = put_samples g row column (data_at g row column dat) image

-- the t bytes of each run of the block cleared
unfoldable pub clear_runs : Grid → ℕ → ℕ → List ℕ → List ℕ
clear_runs g row column image =
    iter g.bands
    (λ i im. over im (run_byte g.imode g (block_index g row column) i) (replicate (band_bytes g) 0))
    image

-- at byte multiples a write touches only its samples' bytes; at other widths the runs' further bits are zero after it
unfoldable pub store_by : Bool → Grid → ℕ → ℕ → List ℕ → List ℕ → List ℕ
store_by true g row column dat image = put_block g row column dat image
store_by false g row column dat image = put_block g row column dat (clear_runs g row column image)

abbrev pub store_block : Grid → ℕ → ℕ → List ℕ → List ℕ → List ℕ
store_block g row column dat image = store_by (byte_multiple g) g row column dat image

-- write: the block's samples stored and its mark set
unfoldable pub write : Widths → Grid → List ℕ → List ℕ → ℕ → ℕ → ℕ → ℕ → ℕ → List ℕ → FrameOut
write ws g image marks row column bands rows columns dat =
    outcome (write_number ws g (length image) (length marks) row column bands rows columns (length dat) (q26 g dat))
    (frame_out (number 0) (store_block g row column dat image) (mark marks (block_index g row column)))
    (unchanged image marks)

-- skip: the block's mark set, its bytes kept
unfoldable pub skip : Widths → Grid → List ℕ → List ℕ → ℕ → ℕ → FrameOut
skip ws g image marks row column =
    outcome (skip_number ws g (length image) (length marks) row column)
    (frame_out (number 0) image (mark marks (block_index g row column)))
    (unchanged image marks)

-- progress, which changes nothing: how many blocks are marked
unfoldable pub progress : Widths → Grid → List ℕ → Answer
progress ws g marks = progress_answer (progress_number ws g (length marks)) g (marked marks)

-- finish, which changes nothing: is every block marked, else the first that is not
unfoldable pub finish : Widths → Grid → List ℕ → List ℕ → Answer
finish ws g image marks = finish_answer (start_number ws g (length image) (length marks)) g (marked marks)
