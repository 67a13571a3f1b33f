-- The C boundary: the grid crosses as its numbers, with IMODE as its letter's byte and the edge rule as T or F; a byte
-- that is no mode, or no rule, is refused with 99, before question 1.
-- Assumes nothing.
use Rattle.std.specs.Prelude.{ℕ, ◌+◌, ◌*◌, false, List, Option, Some, None, Result, Ok, Err, eqb}
use Rattle.widths.specs.declared.Widths.{Widths}
use Rattle.widths.specs.Loading.{Loaded}
use Rattle.grid.specs.declared.EdgeRule.{EdgeRule}
use Rattle.grid.specs.declared.EdgeRule.TheVariants.{Tight, Full}
use Rattle.grid.specs.declared.Grid.{Grid}
use Rattle.grid.specs.declared.places.Span.{Span}
use Rattle.refusals.specs.declared.Refusal.{Refusal}
use Rattle.refusals.specs.Refusals.{number_of}
use Rattle.layout.specs.declared.InterleaveMode.{InterleaveMode}
use Rattle.layout.specs.declared.InterleaveMode.TheVariants.{B, P, R, S}
use Rattle.common.specs.Questions.{outcome}
use Rattle.common.specs.Tests.{pick}
use Rattle.common.specs.Rounding.{ceil_div}
use Rattle.grid.specs.Sizes.{sample_bytes, band_bytes, blocks, image_bytes}
use Rattle.grid.specs.Layout.{whole_start, whole_length}
use Rattle.grid.specs.Check.{grid_number}
use Rattle.marks.specs.Marks.{mark_words}
use Rattle.calls.specs.declared.Shape.{Shape}
use Rattle.calls.specs.Orders.{whole_number}
use Rattle.calls.specs.Reads.{no_shape}
use Rattle.mask.specs.declared.ImageDataMask.{ImageDataMask}
use Rattle.mask.specs.declared.Parsed.{Parsed}
use Rattle.mask.specs.declared.Present.{Present}
use Rattle.mask.specs.declared.BlockOffset.{BlockOffset}
use Rattle.mask.specs.declared.Written.{Written}
use Rattle.mask.specs.Mask.{no_mask, WrittenOut, MarksOut}
use Rattle.gezdunar.specs.declared.GridNumbers.{GridNumbers}
use Rattle.calls.specs.Relay.{Relaid}
use Rattle.gezdunar.specs.declared.RelayAnswer.{RelayAnswer}
use Rattle.gezdunar.specs.declared.Place.{Place}
use Rattle.gezdunar.specs.declared.GridSizes.{GridSizes}
use Rattle.gezdunar.specs.declared.WidthsAnswer.{WidthsAnswer}

-- ---- the version and the grid

-- the boundary's version, 0.7.0: major, minor and patch
abbrev pub version : ℕ
version = 0 * 1_000_000 + 7 * 1_000 + 0

-- the numbers of a picture in blocks of NPPBV rows and NPPBH columns: NBPR and NBPC by rounding up, 0 for a side 0
abbrev pub numbers_of : ℕ → ℕ → ℕ → ℕ → ℕ → ℕ → ℕ → ℕ → GridNumbers
numbers_of nrows ncols bands nbpp imode edges nppbv nppbh =
    record {
      nrows = nrows;
      ncols = ncols;
      bands = bands;
      nbpp = nbpp;
      imode = imode;
      edges = edges;
      nppbh = nppbh;
      nppbv = nppbv;
      nbpr = ceil_div ncols nppbh;
      nbpc = ceil_div nrows nppbv;
    }

-- the mode of a letter's byte
unfoldable pub mode_of : ℕ → Option InterleaveMode
mode_of byte =
    pick (eqb byte 66) (Some B)
    (pick (eqb byte 80) (Some P) (pick (eqb byte 82) (Some R) (pick (eqb byte 83) (Some S) None)))

-- the letter of an edge rule, T or F, and the rule of a letter's byte
abbrev pub edges_letter : EdgeRule → ℕ
edges_letter Tight = 84
edges_letter Full = 70

unfoldable pub rule_of : ℕ → Option EdgeRule
rule_of byte =
    pick (eqb byte (edges_letter Tight)) (Some Tight) (pick (eqb byte (edges_letter Full)) (Some Full) None)

-- what a call gives where the bytes name a mode, a rule or a grid, and what it gives where they name none
abbrev pub on_known : {A B : Type 0} → Option A → (A → B) → B → B
on_known (Some x) call refused = call x
on_known None call refused = refused

-- the grid of the numbers in a mode, under a rule
abbrev pub grid_in : GridNumbers → InterleaveMode → EdgeRule → Grid
grid_in n m e =
    record {
      nrows = n.nrows;
      ncols = n.ncols;
      bands = n.bands;
      nbpp = n.nbpp;
      imode = m;
      edges = e;
      nppbh = n.nppbh;
      nppbv = n.nppbv;
      nbpr = n.nbpr;
      nbpc = n.nbpc;
    }

-- the grid that the numbers name, unless IMODE's byte is no mode or the rule's byte is no rule
unfoldable pub named_grid : GridNumbers → Option Grid
named_grid n = on_known (mode_of n.imode) (λ m. on_known (rule_of n.edges) (λ e. Some (grid_in n m e)) None) None

-- ---- answers

-- a call's answer and the output that it leaves
abbrev pub written_out : Written → List ℕ → WrittenOut
written_out answer out = record { answer = answer; out = out }

abbrev pub marks_out : Parsed → List ℕ → MarksOut
marks_out answer out = record { answer = answer; out = out }

-- the answers where the grid is unknown, since a byte is no mode or no rule
abbrev pub unknown_shape : Shape
unknown_shape = no_shape 99

abbrev pub unknown_parsed : Parsed
unknown_parsed = record { number = 99; mask = no_mask; used = 0 }

abbrev pub unknown_present : Present
unknown_present = record { number = 99; present = false }

abbrev pub unknown_offset : BlockOffset
unknown_offset = record { number = 99; given = false; offset = 0 }

abbrev pub unknown_written : Written
unknown_written = record { number = 99; bytes = 0 }

-- ---- re-lay

-- the numbers with the letter of a rule
abbrev pub numbers_under : EdgeRule → GridNumbers → GridNumbers
numbers_under e n =
    record {
      nrows = n.nrows;
      ncols = n.ncols;
      bands = n.bands;
      nbpp = n.nbpp;
      imode = n.imode;
      edges = edges_letter e;
      nppbh = n.nppbh;
      nppbv = n.nppbv;
      nbpr = n.nbpr;
      nbpc = n.nbpc;
    }

-- a re-lay's answer, and the image and the scratch that it leaves
pub record RelayOut : Type 0 where
  pub answer : RelayAnswer
  pub image : List ℕ
  pub scratch : List ℕ

abbrev pub relay_out : RelayAnswer → List ℕ → List ℕ → RelayOut
relay_out answer image scratch = record { answer = answer; image = image; scratch = scratch }

-- the number with the grid as it crosses: under full, and beside a refusal as it was given
abbrev pub relay_answer : GridNumbers → ℕ → RelayAnswer
relay_answer n number =
    outcome number (record { number = 0; grid = numbers_under Full n }) (λ k. record { number = k; grid = n })

abbrev pub relaid_out : GridNumbers → Relaid → RelayOut
relaid_out n l = relay_out (relay_answer n l.number) l.image l.scratch

-- ---- the mask's header, the whole block and the sizes

-- a header with these record lengths and this code
abbrev pub header_of : ℕ → ℕ → ℕ → ℕ → ImageDataMask
header_of block pad bits code =
    record {
      image_data_offset = 0;
      block_mask_record_length = block;
      pad_pixel_mask_record_length = pad;
      pad_pixel_code_length = bits;
      pad_pixel_code = code;
    }

-- a part of the image beside a number; an empty one is at 0
abbrev pub empty_at : ℕ → Place
empty_at n = record { number = n; start = 0; length = 0 }

abbrev pub part_at : ℕ → ℕ → Place
part_at start length = record { number = 0; start = start; length = length }

-- a span that a call gives, as it crosses
abbrev pub place_of : Result Span Refusal → Place
place_of (Ok span) = part_at span.start span.length
place_of (Err refusal) = empty_at (number_of refusal)

-- where the whole nominal block lies in an image of n bytes; an empty part beside a refusal and in S
unfoldable pub whole_place : Widths → Grid → ℕ → ℕ → ℕ → Place
whole_place ws g n row column =
    outcome (whole_number ws g n row column) (part_at (whole_start g row column) (whole_length g)) empty_at

-- sizes beside a number: s, t, the block's, the image's, the blocks, the words for their marks
abbrev pub sizes_beside : ℕ → ℕ → ℕ → ℕ → ℕ → ℕ → ℕ → GridSizes
sizes_beside n s t block image count words =
    record {
      number = n;
      sample_bytes = s;
      band_bytes = t;
      block_bytes = block;
      image_bytes = image;
      blocks = count;
      mark_words = words;
    }

abbrev pub no_sizes : ℕ → GridSizes
no_sizes n = sizes_beside n 0 0 0 0 0 0

-- the sizes of an accepted grid
unfoldable pub accepted_sizes : Grid → GridSizes
accepted_sizes g =
    sizes_beside 0 (sample_bytes g) (band_bytes g) (g.bands * band_bytes g) (image_bytes g) (blocks g)
    (mark_words (blocks g))

unfoldable pub sizes_of : Widths → Grid → GridSizes
sizes_of ws g = outcome (grid_number ws g) (accepted_sizes g) no_sizes

-- ---- widths

-- a loaded table as it crosses: 65 entries beside the number, zeros beside a refusal
abbrev pub widths_out : Loaded → WidthsAnswer
widths_out l = record { number = l.number; entries = l.widths.entries }
