-- Laws of rows as values: each row, all as one, and rows of whole bytes.
-- Assumes nothing.
use Prim.Native.Nat.{ℕ, ◌+◌, ◌*◌, ◌≤◌, ◌<◌}
use mathlib.Core.Path.{◌≡◌, ap, ◌∙◌}
use mathlib.Core.List.{List}
use native.Mathlib.Omega.{arith}
use lib.ListN.{length}
use Rattle.common.specs.Over.{over}
use Rattle.bits.specs.Bits.{Bytes}
use Rattle.bits.specs.Values.{values}
use Rattle.bits.proofs.Bits.{within}
use Rattle.samples.specs.declared.row.Row.{Row}
use Rattle.samples.specs.declared.row.ByteRow.{ByteRow}
use Rattle.samples.specs.Internal.Samples.{spaced, samples_read}
use Rattle.samples.specs.Internal.Row.{AtBytes, InImage, InData, Fit, read_at, written_at, bytes_read_at}
use Rattle.rows.specs.declared.rows.Rows.{Rows}
use Rattle.rows.specs.declared.rows.ByteRows.{ByteRows}
use Rattle.rows.specs.Internal.Rows.{Movable, row_read, row_written}
use Rattle.rows.specs.Internal.Places.{RowOf, OneRow, BytesOfRows, Turned, ByteRowOf, RowsInImage, RowsInData, RowsFit}
use Rattle.rows.specs.Internal.Places.{rows_read_at, rows_written_at, ByteRowsInImage, ByteRowsInData, whole_rows_at}
use Rattle.rows.proofs.OneRow.{one-row, fit_as_one, read_as_one, written_as_one}
use Rattle.rows.proofs.WholeBytes.{rows_end, rows-end-beside, rows-read, rows_written_lem}

-- ---- a row

module _ (rows : Rows) (i : ℕ) (h : i < rows.count) (row : Row) (r : RowOf rows i row) where
  pub row_at_bytes : (n : ℕ) → RowsInImage rows n → AtBytes row
  row_at_bytes n m = rw (r.at, r.step, r.width, r.size) (m i h).whole

  pub row_in_image : (n : ℕ) → RowsInImage rows n → InImage row n
  row_in_image n m = rw (r.at, r.step, r.width, r.count) (m i h).inside

  pub row_in_data : (n : ℕ) → RowsInData rows n → InData row n
  row_in_data n l =
      rw (r.data_at, r.count, r.size) (omega (arith, within i rows.count rows.data_apart h))

  pub row_fits : (dat : List ℕ) → RowsFit dat rows → row.width < 8 * row.size → Fit dat row
  row_fits dat f = rw (r.data_at, r.size, r.width, r.count) (λ l. f l i h)

  pub row_is_read : (xs ys : List ℕ) {zs : List ℕ} → zs ≡ read_at xs row ys
      → zs ≡ row_read xs rows.first.at rows.apart rows.first.step rows.first.width rows.first.size rows.first.count
      rows.first.data_at rows.data_apart i ys
  row_is_read xs ys e = rw (r.at, r.step, r.width, r.size, r.count, r.data_at) at e

  pub row_is_written : (dat ys : List ℕ) {zs : List ℕ} → zs ≡ written_at dat row ys
      → zs ≡ row_written dat rows.first.data_at rows.data_apart rows.first.size rows.first.width rows.first.at rows.apart
      rows.first.step rows.first.count i ys
  row_is_written dat ys e = rw (r.at, r.step, r.width, r.size, r.count, r.data_at) at e

-- ---- all as one

module _ (rows : Rows) (row : Row) (o : OneRow rows row) where
  -- the one row can be moved
  one : (n l : ℕ) → RowsInImage rows n → RowsInData rows l
      → Movable n rows.first.at rows.first.step rows.first.width rows.first.size (rows.count * rows.first.count)
      × (rows.first.data_at + rows.count * rows.first.count * rows.first.size ≤ l) × (rows.count * rows.first.count ≤ l)
  one n l m d = one-row _ _ _ _ _ _ _ o.apart o.data_apart n l (o.size_pos, rows.some, d) m

  pub one_at_bytes : (n l : ℕ) → RowsInImage rows n → RowsInData rows l → AtBytes row
  one_at_bytes n l m d = rw (o.at, o.step, o.width, o.size) (one n l m d).0.whole

  pub one_in_image : (n l : ℕ) → RowsInImage rows n → RowsInData rows l → InImage row n
  one_in_image n l m d = rw (o.at, o.step, o.width, o.count) (one n l m d).0.inside

  pub one_in_data : (n l : ℕ) → RowsInImage rows n → RowsInData rows l → InData row l
  one_in_data n l m d = rw (o.data_at, o.count, o.size) (one n l m d).1

  pub one_fits : (dat : List ℕ) → RowsFit dat rows → row.width < 8 * row.size → Fit dat row
  one_fits dat f =
      rw (o.data_at, o.size, o.width, o.count)
      (λ l. fit_as_one dat rows.first.data_at rows.first.size rows.first.width rows.first.count rows.count o.data_apart (f l))

  pub one_is_read : (xs d : List ℕ) {zs : List ℕ} → InData row (length d) → zs ≡ read_at xs row d
      → zs ≡ rows_read_at xs rows d
  one_is_read xs d room e =
      read_as_one _ _ _ _ _ _ _ o.apart o.data_apart xs d (rw (o.data_at, o.count, o.size) at room)
      (rw (o.at, o.step, o.width, o.size, o.count, o.data_at) at e)

  pub one_is_written : (dat d : List ℕ) {zs : List ℕ} → zs ≡ written_at dat row d → zs ≡ rows_written_at dat rows d
  one_is_written dat d e =
      written_as_one _ _ _ _ _ _ _ o.apart o.data_apart dat d (rw (o.at, o.step, o.width, o.size, o.count, o.data_at) at e)

-- ---- rows of whole bytes

-- the samples of row i, counted in bits
pub byte_row_from_samples : (rows : ByteRows) (i : ℕ) (xs ys : List ℕ) {zs : List ℕ}
    → zs ≡ samples_read xs (8 * (rows.first.at + i * rows.apart)) (8 * rows.first.step) (8 * rows.first.size)
    rows.first.size rows.first.count (rows.first.data_at + i * rows.data_apart) ys
    → zs ≡ row_read xs (8 * rows.first.at) (8 * rows.apart) (8 * rows.first.step) (8 * rows.first.size) rows.first.size
    rows.first.count rows.first.data_at rows.data_apart i ys
byte_row_from_samples rows i xs ys e =
    let f = rows.first in
    e
    ∙ ap (λ (p : ℕ). over ys (f.data_at + i * rows.data_apart) (values (spaced xs p (8 * f.step) (8 * f.size)) f.size f.count))
    (omega arith)

-- row i, counted in bits
pub byte_row_is_read : (rows : ByteRows) (i : ℕ) (row : ByteRow) → ByteRowOf rows i row → (xs ys : List ℕ) {zs : List ℕ}
    → zs ≡ bytes_read_at xs row ys
    → zs ≡ row_read xs (8 * rows.first.at) (8 * rows.apart) (8 * rows.first.step) (8 * rows.first.size) rows.first.size
    rows.first.count rows.first.data_at rows.data_apart i ys
byte_row_is_read rows i row r xs ys e =
    byte_row_from_samples rows i xs ys (rw (r.at, r.step, r.size, r.count, r.data_at) at e)

module _ (rows : Rows) (bytes : ByteRows) (b : BytesOfRows rows bytes) (e : rows.first.width ≡ 8 * rows.first.size)
    (n : ℕ) (m : RowsInImage rows n) where
  pub byte_rows_in_image : ByteRowsInImage bytes n
  byte_rows_in_image =
      rw (b.first.at, b.first.step, b.first.size, b.first.count, b.count, b.apart)
      (rows_end n _ _ _ _ _ _ _ e m rows.some)

  pub byte_rows_in_data : (l : ℕ) → RowsInData rows l → ByteRowsInData bytes l
  byte_rows_in_data l d = rw (b.first.data_at, b.count, b.data_apart, b.first.count, b.first.size) d

  pub byte_rows_are_read : (xs d : List ℕ) {zs : List ℕ} → zs ≡ whole_rows_at xs bytes d → zs ≡ rows_read_at xs rows d
  byte_rows_are_read xs d ez =
      rows-read n _ _ _ _ _ _ _ e m xs _ _ d
      (rw (b.first.at, b.first.step, b.first.size, b.first.count, b.first.data_at, b.count, b.apart, b.data_apart) at ez)

  -- side by side, out of the data into the image
  module _ (es : rows.first.step ≡ rows.first.width) (turned : ByteRows) (t : Turned bytes turned) where
    pub turned_in_image : (l : ℕ) → RowsInData rows l → ByteRowsInImage turned l
    turned_in_image l d =
        rw (t.at, t.step, t.size, t.first_count, t.count, t.apart, b.first.data_at, b.first.size, b.first.count, b.count, b.data_apart)
        (omega arith)

    pub turned_in_data : ByteRowsInData turned n
    turned_in_data =
        rw (t.data_at, t.size, t.first_count, t.count, t.data_apart, b.first.at, b.first.size, b.first.count, b.count, b.apart)
        (rows-end-beside n _ _ _ _ _ _ _ e m es rows.some)

    pub turned_are_written : (dat d : List ℕ) {zs : List ℕ} → Bytes dat → Bytes d → n ≤ length d
        → zs ≡ whole_rows_at dat turned d → zs ≡ rows_written_at dat rows d
    turned_are_written dat d bt bd l ez =
        rows_written_lem n _ _ _ _ _ _ _ e m es dat _ _ d bt bd l
        (rw (t.at, t.step, t.size, t.first_count, t.data_at, t.count, t.apart, t.data_apart, b.first.at, b.first.size, b.first.count, b.first.data_at, b.count, b.apart, b.data_apart) at ez)
