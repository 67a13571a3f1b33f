-- Document 01's figures to hold it against, k's last sample as document 02 has it, m under both of its edge rules and
-- laid anew, and tables of widths loaded: what the definitions give, beside what the papers say.
-- Assumes nothing.
use Rattle.std.specs.Prelude.{ℕ, suc, ◌-◌, ◌*◌, ◌/◌, ◌%◌, ◌^◌, true, false}
use Rattle.std.specs.Prelude.{List, [], ◌∷◌, ◌++◌, take, drop, set, replicate}
use Rattle.bits.specs.Bits.{put_bits}
use Rattle.widths.specs.Widths.{standard}
use Rattle.grid.specs.declared.EdgeRule.{EdgeRule}
use Rattle.grid.specs.declared.EdgeRule.TheVariants.{Tight, Full}
use Rattle.grid.specs.declared.Grid.{Grid}
use Rattle.layout.specs.declared.InterleaveMode.{InterleaveMode}
use Rattle.layout.specs.declared.InterleaveMode.TheVariants.{B, P, R, S}
use Rattle.grid.specs.Check.{grid_of}
use Rattle.grid.specs.Sizes.{sample_bytes, image_bytes, actual_columns}
use Rattle.grid.specs.Layout.{place}
use Rattle.layout.specs.Bands.{Bands, bands_of}
use Rattle.common.specs.Lists.{tabulate}
use Rattle.calls.specs.declared.Answer.{Answer}
use Rattle.calls.specs.Answers.{Filled, FrameOut}
use Rattle.calls.specs.Reads.{block_read, window}
use Rattle.calls.specs.Orders.{Window}
use Rattle.calls.specs.Writes.{start, write, progress, finish}
use Rattle.mask.specs.Mask.{WrittenOut, marks_mask, to_bytes}
use Rattle.figures.specs.Instance.{by_calls, by_plain_frame, by_hand}
use Rattle.figures.specs.Loadings.{constant, entry_changed, loaded_with}
use Rattle.figures.specs.Relays.{edge, written_m, relaid_m, image_after, relay_of}
use Rattle.figures.specs.Relays.{by_calls_m, by_plain_frame_m, by_hand_m}

-- the figures' letters; `no-letter` has the largest sample of 12 bits, and the list of calls that is told by the calls
-- and by the plain frame
pub data Letter : Type 0 where
  fig-a fig-b fig-c fig-d fig-e fig-f fig-g fig-h fig-i fig-j fig-k fig-l fig-m fig-n no-letter : Letter

pub record Figure : Type 0 where
  pub letter : Letter
  pub found : List ℕ
  pub paper : List ℕ

-- picture 3 rows by 5 columns, blocks 2 rows by 4 columns, 2 bands, NBPP 8
abbrev pub small : InterleaveMode → Grid
small mode = grid_of 3 5 2 8 mode Tight 4 2

-- the bytes at which the two samples of block (1, 1) lie
unfoldable pub corner : InterleaveMode → List ℕ
corner mode = place (small mode) 1 1 0 0 0 / 8 ∷ place (small mode) 1 1 1 0 0 / 8 ∷ []

-- what a read of block (row, column) answers on an image of n bytes, byte q of which is q, with room for four bytes:
-- the number, the shape, the output
unfoldable pub read_of : InterleaveMode → ℕ → ℕ → ℕ → Bands → List ℕ
read_of mode n row column bands =
    let r : Filled = block_read standard (small mode) (tabulate n (λ q. q)) row column 0 bands (0 ∷ 0 ∷ 0 ∷ 0 ∷ []) in
    r.shape.number ∷ r.shape.bands ∷ r.shape.rows ∷ r.shape.columns ∷ r.out

abbrev pub every_band : Bands
every_band = bands_of true []

abbrev pub listed : List ℕ → Bands
listed list = bands_of false list

-- one row of n columns, one band, one block
abbrev pub line : ℕ → ℕ → Grid
line nbpp n = grid_of 1 n 1 nbpp B Tight n 1

-- samples vs, from number n on, row by row, put at the places of a block of one band
unfoldable pub laid : Grid → ℕ → ℕ → ℕ → List ℕ → List ℕ → List ℕ
laid grid row column n [] image = image
laid grid row column n (v ∷ vs) image =
    laid grid row column (suc n) vs
    (put_bits image (place grid row column 0 (n / actual_columns grid column) (n % actual_columns grid column))
    grid.nbpp v)

-- the image of a grid with the samples of one block
unfoldable pub image_with : Grid → ℕ → ℕ → List ℕ → List ℕ
image_with grid row column vs = laid grid row column 0 vs (replicate (image_bytes grid) 0)

-- a run of calls: a start on an image and a mark word of ones, a write of block (row, column), progress, finish, and a
-- window on the written row: the numbers of start and write, the count of progress, the number of finish, the image,
-- the window's bytes
unfoldable pub run_of : Grid → ℕ → ℕ → ℕ → ℕ → List ℕ → List ℕ
run_of grid row column rows columns dat =
    let s : FrameOut = start standard grid (replicate (image_bytes grid) 255) ((2 ^ 64 - 1) ∷ []) in
    let w : FrameOut = write standard grid s.image s.marks row column 1 rows columns dat in
    let p : Answer = progress standard grid w.marks in
    let f : Answer = finish standard grid w.image w.marks in
    let part : Window
    = record { row = 0; column = column * grid.nppbh; rows = 1; columns = columns; bands = every_band } in
    let seen : Filled = window standard grid w.image part (replicate (columns * sample_bytes grid) 0) in
    s.answer.number ∷ w.answer.number ∷ p.first ∷ f.number ∷ (w.image ++ seen.out)

-- a write of block (row, column) on an image of ones that no start has cleared: its number and the image
unfoldable pub write_over : Grid → ℕ → ℕ → ℕ → ℕ → List ℕ → List ℕ
write_over grid row column rows columns dat =
    let w : FrameOut = write standard grid (replicate (image_bytes grid) 255) (0 ∷ []) row column 1 rows columns dat in
    w.answer.number ∷ w.image

-- a write of the block of a line on an image of ones and a mark word 5: its answer, the image and the marks
unfoldable pub write_on : Grid → ℕ → List ℕ → List ℕ
write_on grid columns dat =
    let w : FrameOut = write standard grid (replicate (image_bytes grid) 255) (5 ∷ []) 0 0 1 1 columns dat in
    w.answer.number ∷ w.answer.first ∷ w.answer.second ∷ (w.image ++ w.marks)

-- the table of a picture of two blocks in B, written to 18 bytes: the number and the bytes
unfoldable pub mask_of : List ℕ → List ℕ
mask_of offsets =
    let r : WrittenOut = to_bytes standard (grid_of 1 2 1 8 B Tight 1 1) marks_mask offsets [] (replicate 18 0) in
    r.answer.number ∷ r.out

-- figure m under an edge rule, with the two bytes that the papers give: the places alone, a run of calls, and a write
-- over ones
unfoldable pub figure_m : EdgeRule → ℕ → ℕ → List Figure
figure_m rule x y =
    record {
      letter = fig-m;
      found = take 2 (drop 2 (image_with (edge rule) 0 1 (5 ∷ 9 ∷ [])));
      paper = x ∷ y ∷ [];
    }
    ∷ record {
      letter = fig-m;
      found = run_of (edge rule) 0 1 2 1 (5 ∷ 9 ∷ []);
      paper = 0 ∷ 0 ∷ 1 ∷ 15 ∷ 0 ∷ 0 ∷ x ∷ y ∷ 5 ∷ [];
    }
    ∷ record {
      letter = fig-m;
      found = write_over (edge rule) 0 1 2 1 (5 ∷ 9 ∷ []);
      paper = 0 ∷ 0xFF ∷ 0xFF ∷ x ∷ y ∷ [];
    }
    ∷ []

-- the list of calls under an edge rule, as the calls tell it and as the plain frame does
unfoldable pub list_of_calls : EdgeRule → List Figure
list_of_calls rule =
    record { letter = no-letter; found = by_calls rule; paper = by_hand }
    ∷ record { letter = no-letter; found = by_plain_frame rule; paper = by_hand }
    ∷ []

-- figure m laid anew in a list of calls; and images whose other bits are ones in part: in P the samples of the lower
-- block move from run to run, in R its rows become as long as the nominal ones, at a byte multiple no byte changes, and
-- under full nothing does
unfoldable pub relays : List Figure
relays =
    record { letter = fig-m; found = image_after written_m; paper = 0 ∷ 0 ∷ 0 ∷ 0x59 ∷ 0x00 ∷ 255 ∷ [] }
    ∷ record {
      letter = fig-m;
      found = image_after relaid_m;
      paper = 0 ∷ 9 ∷ 0 ∷ 27 ∷ 0 ∷ 0 ∷ 0x50 ∷ 0x90 ∷ 255 ∷ [];
    }
    ∷ record { letter = no-letter; found = by_calls_m; paper = by_hand_m }
    ∷ record { letter = no-letter; found = by_plain_frame_m; paper = by_hand_m }
    ∷ record {
      letter = no-letter;
      found = relay_of (grid_of 3 2 2 4 P Tight 2 2)
          (0x12 ∷ 0x34 ∷ 0x56 ∷ 0x78 ∷ 0xAB ∷ 0xEE ∷ 0xCD ∷ 0xEE ∷ 0xEE ∷ []) 5;
      paper = 0 ∷ 0x12 ∷ 0x34 ∷ 0x56 ∷ 0x78 ∷ 0xAB ∷ 0xCD ∷ 0x00 ∷ 0x00 ∷ 0xEE ∷ 0 ∷ 0 ∷ 0 ∷ 0 ∷ 7 ∷ [];
    }
    ∷ record {
      letter = no-letter;
      found = relay_of (grid_of 2 3 2 4 R Tight 2 2)
          (0x12 ∷ 0x34 ∷ 0x56 ∷ 0x78 ∷ 0xAB ∷ 0xEE ∷ 0xCD ∷ 0xEE ∷ []) 4;
      paper = 0 ∷ 0x12 ∷ 0x34 ∷ 0x56 ∷ 0x78 ∷ 0xA0 ∷ 0xB0 ∷ 0xC0 ∷ 0xD0 ∷ 0 ∷ 0 ∷ 0 ∷ 0 ∷ [];
    }
    ∷ record {
      letter = no-letter;
      found = relay_of (grid_of 3 2 2 8 P Tight 2 2) (replicate 17 0xEE) 9;
      paper = 0 ∷ (replicate 17 0xEE ++ (replicate 8 0 ++ (7 ∷ [])));
    }
    ∷ record {
      letter = no-letter;
      found = relay_of (grid_of 3 2 2 4 P Full 2 2) (replicate 9 0xEE) 5;
      paper = 27 ∷ (replicate 9 0xEE ++ replicate 5 7);
    }
    ∷ []

-- loading, document 02's term: the constant table; one that bars 12; zeros, which bar all; and refused ones: a byte
-- short, a byte over, length 65, version 2, an entry for 17 bits, which are refused, and one of a byte for 12
unfoldable pub loadings : List Figure
loadings =
    record { letter = no-letter; found = loaded_with 12 constant; paper = 0 ∷ 2 ∷ [] }
    ∷ record { letter = no-letter; found = loaded_with 12 (entry_changed 12 0); paper = 0 ∷ 0 ∷ [] }
    ∷ record { letter = no-letter; found = loaded_with 12 (0 ∷ 66 ∷ 1 ∷ replicate 65 0); paper = 0 ∷ 0 ∷ [] }
    ∷ record { letter = no-letter; found = loaded_with 12 (take 67 constant); paper = 33 ∷ 0 ∷ [] }
    ∷ record { letter = no-letter; found = loaded_with 12 (constant ++ (0 ∷ [])); paper = 33 ∷ 0 ∷ [] }
    ∷ record { letter = no-letter; found = loaded_with 12 (set constant 1 65); paper = 33 ∷ 0 ∷ [] }
    ∷ record { letter = no-letter; found = loaded_with 12 (set constant 2 2); paper = 33 ∷ 0 ∷ [] }
    ∷ record { letter = no-letter; found = loaded_with 12 (entry_changed 17 3); paper = 33 ∷ 0 ∷ [] }
    ∷ record { letter = no-letter; found = loaded_with 12 (entry_changed 12 1); paper = 33 ∷ 0 ∷ [] }
    ∷ []

unfoldable pub figures : List Figure
figures =
    record { letter = fig-a; found = corner B; paper = 48 ∷ 56 ∷ [] }
    ∷ record { letter = fig-b; found = corner P; paper = 48 ∷ 49 ∷ [] }
    ∷ record { letter = fig-c; found = corner R; paper = 48 ∷ 52 ∷ [] }
    ∷ record { letter = fig-d; found = corner S; paper = 24 ∷ 56 ∷ [] }
    ∷ record { letter = fig-e; found = read_of P 50 1 1 every_band; paper = 0 ∷ 2 ∷ 1 ∷ 1 ∷ 48 ∷ 49 ∷ 0 ∷ 0 ∷ [] }
    ∷ record { letter = fig-f; found = read_of P 49 1 1 every_band; paper = 7 ∷ 0 ∷ 0 ∷ 0 ∷ 0 ∷ 0 ∷ 0 ∷ 0 ∷ [] }
    ∷ record { letter = fig-g; found = read_of P 64 2 0 every_band; paper = 6 ∷ 0 ∷ 0 ∷ 0 ∷ 0 ∷ 0 ∷ 0 ∷ 0 ∷ [] }
    ∷ record {
      letter = fig-h;
      found = read_of P 64 1 1 (listed (1 ∷ 1 ∷ []));
      paper = 0 ∷ 2 ∷ 1 ∷ 1 ∷ 49 ∷ 49 ∷ 0 ∷ 0 ∷ [];
    }
    ∷ record { letter = fig-i; found = read_of P 64 1 1 (listed (2 ∷ [])); paper = 8 ∷ 0 ∷ 0 ∷ 0 ∷ 0 ∷ 0 ∷ 0 ∷ 0 ∷ [] }
    ∷ record { letter = fig-j; found = read_of P 64 1 1 (listed []); paper = 0 ∷ 0 ∷ 1 ∷ 1 ∷ 0 ∷ 0 ∷ 0 ∷ 0 ∷ [] }
    ∷ record {
      letter = fig-k;
      found = image_with (line 12 3) 0 0 (0x123 ∷ 0x456 ∷ 0x789 ∷ []);
      paper = 0x12 ∷ 0x34 ∷ 0x56 ∷ 0x78 ∷ 0x90 ∷ [];
    }
    ∷ record {
      letter = fig-k;
      found = run_of (line 12 3) 0 0 1 3 (0x01 ∷ 0x23 ∷ 0x04 ∷ 0x56 ∷ 0x07 ∷ 0x89 ∷ []);
      paper =
          0 ∷ 0 ∷ 1 ∷ 0 ∷ 0x12 ∷ 0x34 ∷ 0x56 ∷ 0x78 ∷ 0x90
          ∷ 0x01 ∷ 0x23 ∷ 0x04 ∷ 0x56 ∷ 0x07 ∷ 0x89 ∷ [];
    }
    ∷ record {
      letter = fig-k;
      found = write_on (line 12 1) 1 (0xF1 ∷ 0x23 ∷ []);
      paper = 26 ∷ 0 ∷ 0 ∷ 0xFF ∷ 0xFF ∷ 5 ∷ [];
    }
    ∷ record {
      letter = fig-k;
      found = run_of (line 12 1) 0 0 1 1 (0xF1 ∷ 0x23 ∷ []);
      paper = 0 ∷ 26 ∷ 0 ∷ 15 ∷ 0 ∷ 0 ∷ 0 ∷ 0 ∷ [];
    }
    ∷ record {
      letter = no-letter;
      found = run_of (line 12 1) 0 0 1 1 (0x0F ∷ 0xFF ∷ []);
      paper = 0 ∷ 0 ∷ 1 ∷ 0 ∷ 0xFF ∷ 0xF0 ∷ 0x0F ∷ 0xFF ∷ [];
    }
    ∷ record {
      letter = fig-l;
      found = image_with (line 1 10) 0 0 (1 ∷ 0 ∷ 1 ∷ 1 ∷ 0 ∷ 0 ∷ 0 ∷ 1 ∷ 1 ∷ 1 ∷ []);
      paper = 0xB1 ∷ 0xC0 ∷ [];
    }
    ∷ record {
      letter = fig-l;
      found = run_of (line 1 10) 0 0 1 10 (1 ∷ 0 ∷ 1 ∷ 1 ∷ 0 ∷ 0 ∷ 0 ∷ 1 ∷ 1 ∷ 1 ∷ []);
      paper = 0 ∷ 0 ∷ 1 ∷ 0 ∷ 0xB1 ∷ 0xC0 ∷ 1 ∷ 0 ∷ 1 ∷ 1 ∷ 0 ∷ 0 ∷ 0 ∷ 1 ∷ 1 ∷ 1 ∷ [];
    }
    ∷ (figure_m Tight 0x59 0x00 ++ figure_m Full 0x50 0x90
    ++ (record {
      letter = fig-n;
      found = mask_of (0 ∷ 0xFFFF_FFFF ∷ []);
      paper =
          0 ∷ 0x00 ∷ 0x00 ∷ 0x00 ∷ 0x12 ∷ 0x00 ∷ 0x04 ∷ 0x00 ∷ 0x00 ∷ 0x00 ∷ 0x00
          ∷ 0x00 ∷ 0x00 ∷ 0x00 ∷ 0x00 ∷ 0xFF ∷ 0xFF ∷ 0xFF ∷ 0xFF ∷ [];
    }
    ∷ (list_of_calls Tight ++ (list_of_calls Full ++ (relays ++ loadings)))))
