-- A part of a block in an answer: which samples of the answer it holds, and their numbers.
-- Assumes nothing.
use Rattle.std.specs.Prelude.{ℕ, ◌+◌, ◌-◌, ◌*◌, ◌/◌, ◌%◌, ◌≤◌, ◌<◌, ◌≡◌, Bool, true, List, [], ◌∷◌, leb, ltb, get_or}
use Rattle.common.specs.Tests.{every}
use Rattle.layout.specs.declared.BlockLayout.{BlockLayout}
use Rattle.layout.specs.Internal.Layout.{sample_bytes, place, block_end, Sound}
use Rattle.layout.specs.Bands.{Bands, band_count, band_at, q8}
use Rattle.bits.specs.Bits.{bits_at, be_bytes}
use Rattle.common.specs.Over.{over}
use Rattle.bits.specs.Values.{values}
use Rattle.samples.specs.Internal.Patched.{patched}
use Rattle.moves.specs.declared.part.Part.{Part}
use Rattle.moves.specs.Internal.Puts.{Samples, Target, Puts}

-- the band, row and column of sample n of an answer of so many rows and columns a band
abbrev pub band_of : ℕ → ℕ → ℕ → ℕ
band_of rows columns n = n / columns / rows

abbrev pub row_of : ℕ → ℕ → ℕ → ℕ
row_of rows columns n = n / columns % rows

abbrev pub column_of : ℕ → ℕ → ℕ
column_of columns n = n % columns

-- is sample n of the answer in the part
unfoldable pub in_part : Part → ℕ → ℕ → ℕ → ℕ → Bool
in_part p count rows columns n =
    every
    (ltb (band_of rows columns n) count
    ∷ leb p.to_row (row_of rows columns n)
    ∷ ltb (row_of rows columns n) (p.to_row + p.rows)
    ∷ leb p.to_column (column_of columns n)
    ∷ ltb (column_of columns n) (p.to_column + p.columns)
    ∷ [])

-- the number in sample (b, r, c) of a block
unfoldable pub sample_at : BlockLayout → List ℕ → ℕ → ℕ → ℕ → ℕ
sample_at l src b r c = bits_at src (place l b r c) l.nbpp

-- the number of sample n of the answer, where it is in the part
unfoldable pub part_sample : BlockLayout → List ℕ → Part → Bands → ℕ → ℕ → ℕ → ℕ
part_sample l src p bs rows columns n =
    sample_at l src (band_at bs (band_of rows columns n)) (p.r + (row_of rows columns n - p.to_row))
    (p.c + (column_of columns n - p.to_column))

-- what a read of the part leaves in the answer
abbrev pub part_read : BlockLayout → List ℕ → Part → Bands → ℕ → ℕ → List ℕ → List ℕ
part_read l src p bs rows columns out =
    patched (sample_bytes l) (part_sample l src p bs rows columns) (in_part p (band_count l.bands bs) rows columns) out

-- the bytes of an answer of so many rows and columns for each band asked for
abbrev pub answer_bytes : BlockLayout → Bands → (rows columns : ℕ) → ℕ
answer_bytes l bs rows columns = band_count l.bands bs * rows * columns * sample_bytes l

-- a part that can be read: samples of a block that the source reaches, bands of the block, and room
pub record Readable (l : BlockLayout) (n : ℕ) (p : Part) (bs : Bands) (rows columns m : ℕ) : Type 0 where
  pub accepted : Sound l
  pub reached : block_end l ≤ n
  pub some-rows : 0 < p.rows
  pub some-columns : 0 < p.columns
  pub in_rows : p.r + p.rows ≤ l.rows
  pub in_columns : p.c + p.columns ≤ l.columns
  pub to_rows : p.to_row + p.rows ≤ rows
  pub to_columns : p.to_column + p.columns ≤ columns
  pub bands_in : q8 l.bands bs ≡ true
  pub room : answer_bytes l bs rows columns ≤ m

-- the part that is a whole block
abbrev pub whole_part : (rows columns : ℕ) → Part
whole_part rows columns = record { r = 0; c = 0; rows = rows; columns = columns; to_row = 0; to_column = 0 }

-- the planes of the bands asked for: band by band, row by row, each sample in its big-endian bytes
unfoldable pub planes_of : BlockLayout → List ℕ → Bands → List ℕ
planes_of l src bs =
    values (λ n. sample_at l src (band_at bs (band_of l.rows l.columns n)) (row_of l.rows l.columns n)
    (column_of l.columns n))
    (sample_bytes l) (band_count l.bands bs * l.rows * l.columns)

-- planes that can be read: the source reaches the block's end, the bands are bands of the block, and there is room
pub record PlanesReadable (l : BlockLayout) (n : ℕ) (bs : Bands) (m : ℕ) : Type 0 where
  pub accepted : Sound l
  pub reached : block_end l ≤ n
  pub bands_in : q8 l.bands bs ≡ true
  pub room : band_count l.bands bs * l.rows * l.columns * sample_bytes l ≤ m

-- ---- on the way

-- sample (k, i, j) of the part, k the place of its band among those asked for: which sample of the answer it is
abbrev pub answer_number : Part → (rows columns k i j : ℕ) → ℕ
answer_number p rows columns k i j = (k * rows + (p.to_row + i)) * columns + (p.to_column + j)

-- the samples of the part as they go to the answer, byte by byte
abbrev pub answer_target : BlockLayout → List ℕ → Part → Bands → ℕ → ℕ → Target
answer_target l src p bs rows columns =
    record {
      bands = band_count l.bands bs;
      rows = p.rows;
      columns = p.columns;
      wide = sample_bytes l;
      unit = λ xs i. get_or xs i 0;
      at = λ k i j. answer_number p rows columns k i j * sample_bytes l;
      value = λ k i j y. get_or (be_bytes (sample_bytes l) (sample_at l src (band_at bs k) (p.r + i) (p.c + j))) y 0;
      keeps = λ xs. Unit {0};
    }

-- some samples of the part read
abbrev pub SomeRead : BlockLayout → List ℕ → Part → Bands → ℕ → ℕ → Samples → List ℕ → List ℕ → Type 0
SomeRead l src p bs rows columns some out after = Puts (answer_target l src p bs rows columns) some out after

-- samples of a row read to index `to` on
abbrev pub samples_read : BlockLayout → List ℕ → (b r c count to : ℕ) → List ℕ → List ℕ
samples_read l src b r c count to out = over out to (values (λ j. sample_at l src b r (c + j)) (sample_bytes l) count)
