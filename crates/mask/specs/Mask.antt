-- Parse, lookup, mask write and the mask from marks, with their questions. Questions 1 to 4 and 6 stand in grid, 12 in
-- marks.
-- Assumes nothing.
use Rattle.std.specs.Prelude.{ℕ, ◌≡◌, ◌*◌, ◌^◌, Bool, true, false, not, List, [], ◌∷◌, leb, ltb, eqb, length}
use Rattle.std.specs.Prelude.{Option, Some, None, Result, Ok, Err}
use Rattle.refusals.specs.declared.Refusal.{Refusal}
use Rattle.refusals.specs.Refusals.{number_of}
use Rattle.common.specs.Questions.{ask, outcome}
use Rattle.common.specs.Tests.{every, some, pick}
use Rattle.common.specs.Lists.{tabulate}
use Rattle.common.specs.Over.{over}
use Rattle.widths.specs.declared.Widths.{Widths}
use Rattle.grid.specs.declared.Grid.{Grid}
use Rattle.grid.specs.declared.AcceptedGrid.{AcceptedGrid}
use Rattle.grid.specs.Check.{ask_grid, q6}
use Rattle.grid.specs.Sizes.{blocks}
use Rattle.marks.specs.Marks.{q12, marked}
use Rattle.mask.specs.declared.ImageDataMask.{ImageDataMask}
use Rattle.mask.specs.declared.ParsedMask.{ParsedMask}
use Rattle.mask.specs.declared.Parsed.{Parsed}
use Rattle.mask.specs.declared.Present.{Present}
use Rattle.mask.specs.declared.BlockOffset.{BlockOffset}
use Rattle.mask.specs.declared.Written.{Written}
use Rattle.mask.specs.Table.{records, lookup_record, filled_block, code_bytes, mask_size, header, header_with}
use Rattle.mask.specs.Table.{block_record, table_bytes}

-- ---- questions

-- 16: are there ten bytes
abbrev pub q16 : List ℕ → Bool
q16 table = leb 10 (length table)

-- is n the length of a record: 0 where there are none, else 4
unfoldable pub is_record_length : ℕ → Bool
is_record_length n = some (eqb n 0 ∷ eqb n 4 ∷ [])

-- 17: is each record length 0 or 4
abbrev pub q17 : ImageDataMask → Bool
q17 mask =
    every
    (is_record_length mask.block_mask_record_length
    ∷ is_record_length mask.pad_pixel_mask_record_length
    ∷ [])

-- 18: is the pad code at most 32 bits
abbrev pub q18 : ImageDataMask → Bool
q18 mask = leb mask.pad_pixel_code_length 32

-- 19: is the rest of the table there
abbrev pub q19 : Grid → List ℕ → Bool
q19 g table = leb (mask_size g (header table)) (length table)

-- 20: does the code's number fit its bytes, and is it 0 for length 0
abbrev pub q20 : ImageDataMask → Bool
q20 mask = ltb mask.pad_pixel_code (2 ^ (8 * code_bytes mask.pad_pixel_code_length))

-- 21: is the written table at most 4,294,967,295 bytes
abbrev pub q21 : Grid → ImageDataMask → Bool
q21 g mask = leb (mask_size g mask) 4_294_967_295

-- the entries of an offset list, for records of this length: one a record, or none for length 0
abbrev pub entries : Grid → ℕ → ℕ
entries g record_length = pick (eqb record_length 0) 0 (records g)

-- 22: have lists of n and m offsets the entries of their records
abbrev pub q22 : Grid → ImageDataMask → ℕ → ℕ → Bool
q22 g mask n m =
    every
    (eqb n (entries g mask.block_mask_record_length)
    ∷ eqb m (entries g mask.pad_pixel_mask_record_length)
    ∷ [])

-- questions 16, 17, 18, 19 of a table, then the rest
abbrev pub ask_table : Grid → List ℕ → ℕ → ℕ
ask_table g table rest =
    ask 16 (q16 table) (ask 17 (q17 (header table)) (ask 18 (q18 (header table)) (ask 19 (q19 g table) rest)))

-- ---- parse

-- 16, 17, 18, 19
abbrev pub parse_questions : Grid → List ℕ → ℕ
parse_questions g table = ask_table g table 0

unfoldable pub parse_number : Widths → Grid → List ℕ → ℕ
parse_number ws g table = ask_grid ws g (parse_questions g table)

abbrev pub no_mask : ImageDataMask
no_mask =
    record {
      image_data_offset = 0;
      block_mask_record_length = 0;
      pad_pixel_mask_record_length = 0;
      pad_pixel_code_length = 0;
      pad_pixel_code = 0;
    }

-- what a refused parse answers
abbrev pub no_parse : ℕ → Parsed
no_parse n = record { number = n; mask = no_mask; used = 0 }

-- what C is answered for what parse, or the mask from marks, gives
abbrev pub parsed_of : Result ParsedMask Refusal → Parsed
parsed_of (Ok parsed) = record { number = 0; mask = parsed.mask; used = parsed.used }
parsed_of (Err refusal) = no_parse (number_of refusal)

-- what the questions of a table give: its grid, accepted, and its header without the pad code
abbrev pub IsChecked : Grid → List ℕ → AcceptedGrid × ImageDataMask → Type 0
IsChecked g table (grid, head) = (grid.grid ≡ g) × (head ≡ header_with table 0)

-- parse: the header, the code and the count of bytes used
unfoldable pub parse : Widths → Grid → List ℕ → Parsed
parse ws g table =
    outcome (parse_number ws g table)
    (record { number = 0; mask = header table; used = mask_size g (header table) })
    no_parse

-- ---- lookup

-- 8 of a lookup: is the band one of the picture's
abbrev pub q8_lookup : Grid → ℕ → Bool
q8_lookup g band = ltb band g.bands

-- 16, 17, 18, 19, 6, 8
abbrev pub lookup_questions : Grid → List ℕ → ℕ → ℕ → ℕ → ℕ
lookup_questions g table row column band = ask_table g table (ask 6 (q6 g row column) (ask 8 (q8_lookup g band) 0))

unfoldable pub lookup_number : Widths → Grid → List ℕ → ℕ → ℕ → ℕ → ℕ
lookup_number ws g table row column band = ask_grid ws g (lookup_questions g table row column band)

-- the offset that a table has for a band of a block
abbrev pub record_of : Grid → List ℕ → ℕ → ℕ → ℕ → ℕ
record_of g table row column band = block_record table (lookup_record g row column band)

-- the same, or none where the table has no block records
abbrev pub record_if_any : Grid → List ℕ → ℕ → ℕ → ℕ → Option ℕ
record_if_any g table row column band =
    pick (eqb (header table).block_mask_record_length 0) None (Some (record_of g table row column band))

-- an offset of all ones marks an empty block; without block records every block is present
unfoldable pub is_present : Grid → List ℕ → ℕ → ℕ → ℕ → Bool
is_present g table row column band =
    pick (eqb (header table).block_mask_record_length 0) true
    (not (eqb (record_of g table row column band) 0xFFFF_FFFF))

-- what a refused lookup of a block answers
abbrev pub not_present : ℕ → Present
not_present n = record { number = n; present = false }

-- what C is answered for what `has_block` gives
abbrev pub present_of : Result Bool Refusal → Present
present_of (Ok present) = record { number = 0; present = present }
present_of (Err refusal) = not_present (number_of refusal)

-- lookup: is a band of a block present
unfoldable pub has_block : Widths → Grid → List ℕ → ℕ → ℕ → ℕ → Present
has_block ws g table row column band =
    outcome (lookup_number ws g table row column band)
    (record { number = 0; present = is_present g table row column band })
    not_present

-- an offset is given for a present block of a table with block records
unfoldable pub is_given : Grid → List ℕ → ℕ → ℕ → ℕ → Bool
is_given g table row column band =
    pick (eqb (header table).block_mask_record_length 0) false
    (not (eqb (record_of g table row column band) 0xFFFF_FFFF))

-- the answer where no offset is given: beside a refusal's number, or beside 0
abbrev pub no_offset : ℕ → BlockOffset
no_offset n = record { number = n; given = false; offset = 0 }

-- the answer of an accepted lookup
abbrev pub offset_if : Bool → ℕ → BlockOffset
offset_if given offset = pick given (record { number = 0; given = true; offset = offset }) (no_offset 0)

-- what C is answered for what `get_block_offset` gives
abbrev pub offset_of : Result (Option ℕ) Refusal → BlockOffset
offset_of (Ok (Some offset)) = record { number = 0; given = true; offset = offset }
offset_of (Ok None) = no_offset 0
offset_of (Err refusal) = no_offset (number_of refusal)

-- lookup: the offset of a band of a block
unfoldable pub get_block_offset : Widths → Grid → List ℕ → ℕ → ℕ → ℕ → BlockOffset
get_block_offset ws g table row column band =
    outcome (lookup_number ws g table row column band)
    (offset_if (is_given g table row column band) (record_of g table row column band))
    no_offset

-- ---- mask write

-- 9 of a mask write: do l bytes hold the table
abbrev pub q9_write : Grid → ImageDataMask → ℕ → Bool
q9_write g mask l = leb (mask_size g mask) l

-- 17, 18, 20, 21, 22, 9, for offset lists of n and m entries and an output of l bytes
abbrev pub mask_write_questions : Grid → ImageDataMask → ℕ → ℕ → ℕ → ℕ
mask_write_questions g mask n m l =
    ask 17 (q17 mask)
    (ask 18 (q18 mask)
    (ask 20 (q20 mask)
    (ask 21 (q21 g mask)
    (ask 22 (q22 g mask n m)
    (ask 9 (q9_write g mask l) 0)))))

unfoldable pub mask_write_number : Widths → Grid → ImageDataMask → ℕ → ℕ → ℕ → ℕ
mask_write_number ws g mask n m l = ask_grid ws g (mask_write_questions g mask n m l)

-- a mask write's answer and the output it leaves
pub record WrittenOut : Type 0 where
  pub answer : Written
  pub out : List ℕ

abbrev pub written_with : Written → List ℕ → WrittenOut
written_with answer out = record { answer = answer; out = out }

-- what a refused mask write answers
abbrev pub not_written : ℕ → Written
not_written n = record { number = n; bytes = 0 }

-- what C is answered for what a mask write gives
abbrev pub written_of : Result ℕ Refusal → Written
written_of (Ok bytes) = record { number = 0; bytes = bytes }
written_of (Err refusal) = not_written (number_of refusal)

-- mask write: the table put at the front of the output
unfoldable pub to_bytes : Widths → Grid → ImageDataMask → List ℕ → List ℕ → List ℕ → WrittenOut
to_bytes ws g mask block_offsets pad_offsets out =
    outcome (mask_write_number ws g mask (length block_offsets) (length pad_offsets) (length out))
    (written_with
    (record { number = 0; bytes = mask_size g mask })
    (over out 0 (table_bytes g mask block_offsets pad_offsets)))
    (λ n. written_with (not_written n) out)

-- ---- the mask from marks

-- 9 of the mask from marks: do m words hold the records
abbrev pub q9_marks : Grid → ℕ → Bool
q9_marks g m = leb (records g) m

-- 12, 9, for n mark words and m lent 32-bit words
abbrev pub from_marks_questions : Grid → ℕ → ℕ → ℕ
from_marks_questions g n m = ask 12 (q12 (blocks g) n) (ask 9 (q9_marks g m) 0)

unfoldable pub from_marks_number : Widths → Grid → ℕ → ℕ → ℕ
from_marks_number ws g n m = ask_grid ws g (from_marks_questions g n m)

-- the word of record k: 0 for a marked block, 0xFFFFFFFF for another
abbrev pub mark_record : Grid → List ℕ → ℕ → ℕ
mark_record g marks k = pick (marked marks (filled_block g k)) 0 0xFFFF_FFFF

-- the words of all records
abbrev pub mark_records : Grid → List ℕ → List ℕ
mark_records g marks = tabulate (records g) (mark_record g marks)

-- record lengths 4 and 0, no code. IMDATOFF is left free by document 01, and is 0 here
abbrev pub marks_mask : ImageDataMask
marks_mask =
    record {
      image_data_offset = 0;
      block_mask_record_length = 4;
      pad_pixel_mask_record_length = 0;
      pad_pixel_code_length = 0;
      pad_pixel_code = 0;
    }

-- the answer of the mask from marks, and the words it leaves
pub record MarksOut : Type 0 where
  pub answer : Parsed
  pub out : List ℕ

abbrev pub marks_with : Parsed → List ℕ → MarksOut
marks_with answer out = record { answer = answer; out = out }

-- the mask from marks, filled into the front of the lent words; `used` is the number of words filled
unfoldable pub from_provided_blocks : Widths → Grid → List ℕ → List ℕ → MarksOut
from_provided_blocks ws g marks out =
    outcome (from_marks_number ws g (length marks) (length out))
    (marks_with (record { number = 0; mask = marks_mask; used = records g }) (over out 0 (mark_records g marks)))
    (λ n. marks_with (no_parse n) out)
