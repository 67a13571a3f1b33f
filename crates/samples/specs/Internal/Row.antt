-- Rows of samples as values: their parts, and whether an image and lent data hold them.
-- Assumes nothing.
use Rattle.std.specs.Prelude.{List, ℕ, ◌≡◌, ◌+◌, ◌-◌, ◌*◌, ◌/◌, ◌%◌, ◌≤◌, ◌<◌}
use Rattle.samples.specs.declared.row.Row.{Row}
use Rattle.samples.specs.declared.row.ByteRow.{ByteRow}
use Rattle.samples.specs.Internal.Samples.{samples_read, samples_written, SamplesFit}

-- the first n samples of a row; they end no later than it
pub record First (row : Row) (n : ℕ) (part : Row) : Type 0 where
  pub at : part.at ≡ row.at
  pub step : part.step ≡ row.step
  pub width : part.width ≡ row.width
  pub size : part.size ≡ row.size
  pub count : part.count ≡ n
  pub data_at : part.data_at ≡ row.data_at
  pub end : part.count * part.step ≤ row.count * row.step
  pub data_end : part.count * part.size ≤ row.count * row.size

-- the samples of a row after its first n; they end where it ends
pub record Rest (row : Row) (n : ℕ) (part : Row) : Type 0 where
  pub at : part.at ≡ row.at + n * row.step
  pub step : part.step ≡ row.step
  pub width : part.width ≡ row.width
  pub size : part.size ≡ row.size
  pub count : part.count ≡ row.count - n
  pub data_at : part.data_at ≡ row.data_at + n * row.size
  pub end : part.at + part.count * part.step ≡ row.at + row.count * row.step
  pub data_end : part.data_at + part.count * part.size ≡ row.data_at + row.count * row.size

-- a row counted in bytes
pub record BytesOf (row : Row) (bytes : ByteRow) : Type 0 where
  pub at : bytes.at ≡ row.at / 8
  pub step : bytes.step ≡ row.step / 8
  pub size : bytes.size ≡ row.size
  pub count : bytes.count ≡ row.count
  pub data_at : bytes.data_at ≡ row.data_at

-- n bytes of an image hold a row
abbrev pub InImage : Row → ℕ → Type 0
InImage row n = row.at + row.count * row.step + row.width ≤ 8 * n + row.step

-- n bytes of an image hold eight bytes from the first byte of each sample of a row on
abbrev pub EightEach : Row → ℕ → Type 0
EightEach row n = 0 < row.count → (row.at + row.count * row.step) / 8 + 8 ≤ n

-- n bytes of lent data hold a row
abbrev pub InData : Row → ℕ → Type 0
InData row n = row.data_at + row.count * row.size ≤ n

-- the samples of a row in lent data have no bit above their width
abbrev pub Fit : List ℕ → Row → Type 0
Fit dat row = SamplesFit dat row.data_at row.size row.width row.count

-- the same of samples that do not fill their bytes
abbrev pub Packed : List ℕ → Row → Type 0
Packed dat row = (row.width < 8 * row.size) × Fit dat row

-- samples that fill their bytes start at whole bytes
abbrev pub AtBytes : Row → Type 0
AtBytes row = row.width ≡ 8 * row.size → (row.at % 8 ≡ 0) × (row.step % 8 ≡ 0)

-- ys with the samples of a row read from the image xs, and with those written from the data xs
abbrev pub read_at : List ℕ → Row → List ℕ → List ℕ
read_at xs row ys = samples_read xs row.at row.step row.width row.size row.count row.data_at ys

abbrev pub written_at : List ℕ → Row → List ℕ → List ℕ
written_at xs row ys = samples_written xs row.data_at row.size row.width row.at row.step row.count ys

-- the same of samples of whole bytes
abbrev pub InImageBytes : ByteRow → ℕ → Type 0
InImageBytes row n = row.at + row.count * row.step + row.size ≤ n + row.step

abbrev pub InDataBytes : ByteRow → ℕ → Type 0
InDataBytes row n = row.data_at + row.count * row.size ≤ n

abbrev pub bytes_read_at : List ℕ → ByteRow → List ℕ → List ℕ
bytes_read_at xs row ys =
    samples_read xs (8 * row.at) (8 * row.step) (8 * row.size) row.size row.count row.data_at ys

abbrev pub bytes_written_at : List ℕ → ByteRow → List ℕ → List ℕ
bytes_written_at xs row ys =
    samples_written xs row.data_at row.size (8 * row.size) (8 * row.at) (8 * row.step) row.count ys
