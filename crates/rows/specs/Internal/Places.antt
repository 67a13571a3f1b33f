-- Rows of samples as values: their parts, and whether an image and lent data hold them.
-- Assumes nothing.
use Rattle.std.specs.Prelude.{List, ℕ, ◌≡◌, ◌+◌, ◌*◌, ◌/◌, ◌≤◌, ◌<◌}
use Rattle.samples.specs.declared.row.Row.{Row}
use Rattle.samples.specs.declared.row.ByteRow.{ByteRow}
use Rattle.samples.specs.Internal.Samples.{SamplesFit}
use Rattle.samples.specs.Internal.Row.{BytesOf}
use Rattle.rows.specs.declared.rows.Rows.{Rows}
use Rattle.rows.specs.declared.rows.ByteRows.{ByteRows}
use Rattle.rows.specs.Internal.Rows.{Movable, rows_read, rows_written, whole_rows, PixelsIn, pixel_read, pixels_read}

-- row i of rows
pub record RowOf (rows : Rows) (i : ℕ) (row : Row) : Type 0 where
  pub at : row.at ≡ rows.first.at + i * rows.apart
  pub step : row.step ≡ rows.first.step
  pub width : row.width ≡ rows.first.width
  pub size : row.size ≡ rows.first.size
  pub count : row.count ≡ rows.first.count
  pub data_at : row.data_at ≡ rows.first.data_at + i * rows.data_apart

-- all samples of rows that follow each other on both sides, as one row
pub record OneRow (rows : Rows) (row : Row) : Type 0 where
  pub size_pos : 0 < rows.first.size
  pub apart : rows.apart ≡ rows.first.count * rows.first.step
  pub data_apart : rows.data_apart ≡ rows.first.count * rows.first.size
  pub at : row.at ≡ rows.first.at
  pub step : row.step ≡ rows.first.step
  pub width : row.width ≡ rows.first.width
  pub size : row.size ≡ rows.first.size
  pub count : row.count ≡ rows.count * rows.first.count
  pub data_at : row.data_at ≡ rows.first.data_at

-- rows counted in bytes
pub record BytesOfRows (rows : Rows) (bytes : ByteRows) : Type 0 where
  pub first : BytesOf rows.first bytes.first
  pub count : bytes.count ≡ rows.count
  pub apart : bytes.apart ≡ rows.apart / 8
  pub data_apart : bytes.data_apart ≡ rows.data_apart

-- n bytes of an image hold rows whose samples can be moved
abbrev pub RowsInImage : Rows → ℕ → Type 0
RowsInImage rows n =
    (i : ℕ) → i < rows.count
    → Movable n (rows.first.at + i * rows.apart) rows.first.step rows.first.width rows.first.size rows.first.count

-- n bytes of lent data hold rows
abbrev pub RowsInData : Rows → ℕ → Type 0
RowsInData rows n =
    rows.first.data_at + rows.count * rows.data_apart + rows.first.count * rows.first.size ≤ n + rows.data_apart

-- the samples of rows in lent data have no bit above their width, where they do not fill their bytes
abbrev pub RowsFit : List ℕ → Rows → Type 0
RowsFit dat rows =
    rows.first.width < 8 * rows.first.size → (i : ℕ) → i < rows.count
    → SamplesFit dat (rows.first.data_at + i * rows.data_apart) rows.first.size rows.first.width rows.first.count

-- ys with the samples of rows read from the image xs, and with those written from the data xs
abbrev pub rows_read_at : List ℕ → Rows → List ℕ → List ℕ
rows_read_at xs rows ys =
    rows_read xs rows.first.at rows.apart rows.first.step rows.first.width rows.first.size rows.first.count
    rows.first.data_at rows.data_apart rows.count ys

abbrev pub rows_written_at : List ℕ → Rows → List ℕ → List ℕ
rows_written_at xs rows ys =
    rows_written xs rows.first.data_at rows.data_apart rows.first.size rows.first.width rows.first.at rows.apart
    rows.first.step rows.first.count rows.count ys

-- ---- samples of whole bytes

-- row i of rows
pub record ByteRowOf (rows : ByteRows) (i : ℕ) (row : ByteRow) : Type 0 where
  pub at : row.at ≡ rows.first.at + i * rows.apart
  pub step : row.step ≡ rows.first.step
  pub size : row.size ≡ rows.first.size
  pub count : row.count ≡ rows.first.count
  pub data_at : row.data_at ≡ rows.first.data_at + i * rows.data_apart

-- rows of samples side by side, with the image for the data and the data for the image
pub record Turned (rows turned : ByteRows) : Type 0 where
  pub at : turned.first.at ≡ rows.first.data_at
  pub step : turned.first.step ≡ rows.first.size
  pub size : turned.first.size ≡ rows.first.size
  pub first_count : turned.first.count ≡ rows.first.count
  pub data_at : turned.first.data_at ≡ rows.first.at
  pub count : turned.count ≡ rows.count
  pub apart : turned.apart ≡ rows.data_apart
  pub data_apart : turned.data_apart ≡ rows.apart

-- n bytes of an image hold rows, and n bytes of lent data do
abbrev pub ByteRowsInImage : ByteRows → ℕ → Type 0
ByteRowsInImage rows n =
    rows.first.at + rows.count * rows.apart + rows.first.count * rows.first.step + rows.first.size
    ≤ n + rows.first.step + rows.apart

abbrev pub ByteRowsInData : ByteRows → ℕ → Type 0
ByteRowsInData rows n =
    rows.first.data_at + rows.count * rows.data_apart + rows.first.count * rows.first.size ≤ n + rows.data_apart

-- ys with the samples of rows read from the image xs
abbrev pub whole_rows_at : List ℕ → ByteRows → List ℕ → List ℕ
whole_rows_at xs rows ys =
    whole_rows xs rows.first.at rows.apart rows.first.step rows.first.size rows.first.count rows.first.data_at
    rows.data_apart rows.count ys

-- ---- listed bands of pixels: the row has the samples of band 0, and the data of a band follow `plane` bytes after
-- those of the band before

-- n bytes of an image hold the pixels, and there is room for the listed bands in m bytes
abbrev pub ListedIn : (n m : ℕ) → List ℕ → ByteRow → (plane : ℕ) → Type 0
ListedIn n m list row plane = PixelsIn n m list row.at row.step row.size row.data_at plane row.count

-- ys with the listed bands read from the image xs: of pixel c, and of all pixels
abbrev pub listed_pixel_at : List ℕ → List ℕ → ByteRow → (plane c : ℕ) → List ℕ → List ℕ
listed_pixel_at xs list row plane c ys = pixel_read xs list row.at row.step row.size row.data_at plane c ys

abbrev pub listed_at : List ℕ → List ℕ → ByteRow → (plane : ℕ) → List ℕ → List ℕ
listed_at xs list row plane ys = pixels_read xs list row.at row.step row.size row.data_at plane row.count ys
