-- Laws of a window's answer that is filled block by block.
-- Assumes nothing.
use Prim.Native.Nat.{ℕ, ◌+◌, ◌-◌, ◌*◌, ◌/◌, ◌≤◌, ◌<◌}
use mathlib.Core.Path.{◌≡◌, sym, ap, ap₂, ◌∙◌}
use mathlib.Core.Bool.{true}
use mathlib.Core.List.{List}
use mathlib.Core.Logic.{◌⊎◌, inl, inr, ⊎_elim}
use native.Mathlib.Omega.{arith}
use native.Mathlib.Decide.{dec_lt}
use lib.ListN.{length}
use Rattle.common.specs.Over.{over}
use Rattle.grid.specs.declared.Grid.{Grid}
use Rattle.grid.specs.Sizes.{sample_bytes, actual_rows, actual_columns}
use Rattle.layout.specs.declared.BlockLayout.{BlockLayout}
use Rattle.layout.specs.Bands.{band_count, band_at}
use Rattle.common.proofs.Tests.{true_false, both_yes}
use Rattle.grid.proofs.Accepted.{facts}
use Rattle.samples.specs.Internal.Patched.{patched}
use Rattle.samples.proofs.Patched.{patched_ext, patched-none, patched-patched, patched-all}
use Rattle.calls.specs.Orders.{Window}
use Rattle.calls.specs.Reads.{picture_at, bytes_of, sample_at}
use Rattle.calls.proofs.WindowLaws.{block_of, block-is-window}
use Rattle.bits.specs.Bits.{bits_at}
use Rattle.grid.specs.Layout.{Block}
use Rattle.grid.specs.Internal.BlockLayouts.{layout_of}
use Rattle.grid.proofs.BlockLayouts.{place_is, end_is, sound}
use Rattle.moves.specs.declared.part.Part.{Part}
use Rattle.moves.specs.Internal.Parts.{band_of, row_of, column_of, in_part, part_sample, Readable, whole_part, sample_at as sample_in}
use Rattle.moves.proofs.Rect.{in_rect, Inside, inside, within_rect, outside, rect_part, no_rows}
use Rattle.moves.proofs.Whole.{whole-yes, whole-no}
use Rattle.windows.specs.Internal.Windows.{cut_of}
use Rattle.windows.proofs.Cuts.{Crossed, CutIn, cuts, before, cut_to, cut-end, before-first, before_last_lem}
use Rattle.windows.proofs.WindowQuestions.{Answerable}

-- ---- two rectangles that make one

rects_join : (s : ℕ) (v : ℕ → ℕ) (d : List ℕ) (count rows columns row lines column size row' lines' column' size' row'' lines'' column'' size'' : ℕ)
    → ((n : ℕ) → Inside count row lines column size rows columns n → Inside count row'' lines'' column'' size'' rows columns n)
    → ((n : ℕ) → Inside count row' lines' column' size' rows columns n → Inside count row'' lines'' column'' size'' rows columns n)
    → ((n : ℕ) → Inside count row'' lines'' column'' size'' rows columns n → Inside count row lines column size rows columns n ⊎ Inside count row' lines' column' size' rows columns n)
    → patched s v (in_rect count row' lines' column' size' rows columns) (patched s v (in_rect count row lines column size rows columns) d)
    ≡ patched s v (in_rect count row'' lines'' column'' size'' rows columns) d
rects_join s v d count rows columns row lines column size row' lines' column' size' row'' lines'' column'' size'' first second either =
    patched-patched s v _ _ _ d
    (λ n l e. within_rect count row'' lines'' column'' size'' rows columns n (second n (inside count row' lines' column' size' rows columns n e)))
    (λ n l f. both_yes _ _
    (λ e. ⊎_elim
    (λ i. within_rect count row lines column size rows columns n i)
    (λ i. true_false (sym (within_rect count row' lines' column' size' rows columns n i) ∙ f))
    (either n (inside count row'' lines'' column'' size'' rows columns n e)))
    (λ e. within_rect count row'' lines'' column'' size'' rows columns n (first n (inside count row lines column size rows columns n e))))

-- rows above and rows below
rows_join : (s : ℕ) (v : ℕ → ℕ) (d : List ℕ) (count y lines size rows columns : ℕ)
    → patched s v (in_rect count y lines 0 size rows columns) (patched s v (in_rect count 0 y 0 size rows columns) d)
    ≡ patched s v (in_rect count 0 (y + lines) 0 size rows columns) d
rows_join s v d count y lines size rows columns =
    rects_join s v d count rows columns 0 y 0 size y lines 0 size 0 (y + lines) 0 size
    (λ n t. record { band_lt = t.band_lt; row_from = omega arith; row_to = omega arith; column-from = t.column-from; column_to = t.column_to })
    (λ n t. record { band_lt = t.band_lt; row_from = omega arith; row_to = omega arith; column-from = t.column-from; column_to = t.column_to })
    (λ n t. go n t (dec_lt (row_of rows columns n) y))
  where
    go : (n : ℕ) → Inside count 0 (y + lines) 0 size rows columns n → Dec (row_of rows columns n < y)
        → Inside count 0 y 0 size rows columns n ⊎ Inside count y lines 0 size rows columns n
    go n t (yes h) = inl (record { band_lt = t.band_lt; row_from = omega arith; row_to = omega arith; column-from = t.column-from; column_to = t.column_to })
    go n t (no h) = inr (record { band_lt = t.band_lt; row_from = omega arith; row_to = omega arith; column-from = t.column-from; column_to = t.column_to })

-- columns on the left and columns on the right
columns_join : (s : ℕ) (v : ℕ → ℕ) (d : List ℕ) (count row lines x size rows columns : ℕ)
    → patched s v (in_rect count row lines x size rows columns) (patched s v (in_rect count row lines 0 x rows columns) d)
    ≡ patched s v (in_rect count row lines 0 (x + size) rows columns) d
columns_join s v d count row lines x size rows columns =
    rects_join s v d count rows columns row lines 0 x row lines x size row lines 0 (x + size)
    (λ n t. record { band_lt = t.band_lt; row_from = t.row_from; row_to = t.row_to; column-from = omega arith; column_to = omega arith })
    (λ n t. record { band_lt = t.band_lt; row_from = t.row_from; row_to = t.row_to; column-from = omega arith; column_to = omega arith })
    (λ n t. go n t (dec_lt (column_of columns n) x))
  where
    go : (n : ℕ) → Inside count row lines 0 (x + size) rows columns n → Dec (column_of columns n < x)
        → Inside count row lines 0 x rows columns n ⊎ Inside count row lines x size rows columns n
    go n t (yes h) = inl (record { band_lt = t.band_lt; row_from = t.row_from; row_to = t.row_to; column-from = omega arith; column_to = omega arith })
    go n t (no h) = inr (record { band_lt = t.band_lt; row_from = t.row_from; row_to = t.row_to; column-from = omega arith; column_to = omega arith })

no-columns : (s : ℕ) (v : ℕ → ℕ) (d : List ℕ) (count row lines column rows columns : ℕ) → d ≡ patched s v (in_rect count row lines column 0 rows columns) d
no-columns s v d count row lines column rows columns =
    sym (patched-none s v _ d (λ n l. outside count row lines column 0 rows columns n (λ i. omega arith)))

-- ---- a window, block by block

-- a picture: the number of each band, row and column
abbrev pub Picture : Type 0
Picture = ℕ → ℕ → ℕ → ℕ

-- the picture's number of sample n of the answer
unfoldable pub window_sample : Picture → Window → ℕ → ℕ
window_sample picture w n =
    picture (band_at w.bands (band_of w.rows w.columns n)) (w.row + row_of w.rows w.columns n) (w.column + column_of w.columns n)

-- what block (i, j) has of the window
abbrev pub block_part : Grid → Window → ℕ → ℕ → Part
block_part g w i j =
    let down = cut_of w.row w.rows g.nppbv i in
    let across = cut_of w.column w.columns g.nppbh j in
    record {
      r = down.from;
      c = across.from;
      rows = down.count;
      columns = across.count;
      to_row = down.to;
      to_column = across.to;
    }

-- d after the blocks above block row i were read, and after those of block row i left of block column j
unfoldable pub rows_read : Grid → Picture → Window → ℕ → List ℕ → List ℕ
rows_read g picture w i d =
    patched (sample_bytes g) (window_sample picture w)
    (in_rect (band_count g.bands w.bands) 0 (before w.row w.rows g.nppbv i) 0 w.columns w.rows w.columns) d

unfoldable pub blocks_read : Grid → Picture → Window → ℕ → ℕ → List ℕ → List ℕ
blocks_read g picture w i j d =
    patched (sample_bytes g) (window_sample picture w)
    (in_rect (band_count g.bands w.bands) (cut_of w.row w.rows g.nppbv i).to (cut_of w.row w.rows g.nppbv i).count
    0 (before w.column w.columns g.nppbh j) w.rows w.columns) d

module _ (g : Grid) (n : ℕ) (w : Window) (m : ℕ) (q : Answerable g n w m) where
  -- block (i, j) of the window
  module _ (i j : ℕ) (down : Crossed w.row w.rows g.nppbv i) (across : Crossed w.column w.columns g.nppbh j) where
    y : CutIn w.row w.rows g.nppbv i
    y = cuts _ _ _ i q.picture.rows-pos down

    x : CutIn w.column w.columns g.nppbh j
    x = cuts _ _ _ j q.picture.columns-pos across

    -- its rows and columns are in the block
    in_rows : (cut_of w.row w.rows g.nppbv i).from + (cut_of w.row w.rows g.nppbv i).count ≤ actual_rows g i
    unfolding actual_rows
    in_rows = omega (arith, y.same, y.in-part, y.in_window, q.picture.rows_end)

    in_columns : (cut_of w.column w.columns g.nppbh j).from + (cut_of w.column w.columns g.nppbh j).count ≤ actual_columns g j
    unfolding actual_columns
    in_columns = omega (arith, x.same, x.in-part, x.in_window, q.picture.columns-end)

    hy : (cut_of w.row w.rows g.nppbv i).to < w.rows
    hy = omega (arith, y.some, y.in_window)

    hx : (cut_of w.column w.columns g.nppbh j).to < w.columns
    hx = omega (arith, x.some, x.in_window)

    pub block_in : Block g i j
    block_in =
        rw (y.part-is, x.part-is) at
        (block_of g (facts g q.accepted) (w.row + (cut_of w.row w.rows g.nppbv i).to) (w.column + (cut_of w.column w.columns g.nppbh j).to)
        (omega (arith, hy, q.picture.rows_end)) (omega (arith, hx, q.picture.columns-end)))

    pub block-readable : Readable (layout_of g i j) n (block_part g w i j) w.bands w.rows w.columns m
    block-readable =
        record {
          accepted = sound g (facts g q.accepted) i j block_in;
          reached = rw (end_is g (facts g q.accepted) i j block_in) at (rw (y.part-is, x.part-is) at (q.reached _ _ hy hx));
          some-rows = y.some;
          some-columns = x.some;
          in_rows = in_rows;
          in_columns = in_columns;
          to_rows = y.in_window;
          to_columns = x.in_window;
          bands_in = q.bands_in;
          room = q.room;
        }

    -- its numbers in the ordinary image are the picture's
    pub part-is-window : (image : List ℕ) (k : ℕ) → in_part (block_part g w i j) (band_count g.bands w.bands) w.rows w.columns k ≡ true
        → part_sample (layout_of g i j) image (block_part g w i j) w.bands w.rows w.columns k ≡ window_sample (picture_at g image) w k
    unfolding part_sample window_sample sample_in sample_at
    part-is-window image k e =
        let p : Part = block_part g w i j in
        let t = inside _ _ _ _ _ w.rows w.columns k (rect_part p (band_count g.bands w.bands) w.rows w.columns k ∙ e) in
        let a : i * g.nppbv + (p.r + (row_of w.rows w.columns k - p.to_row)) ≡ w.row + row_of w.rows w.columns k = omega (arith, y.same, t.row_from) in
        let b : j * g.nppbh + (p.c + (column_of w.columns k - p.to_column)) ≡ w.column + column_of w.columns k = omega (arith, x.same, t.column-from) in
        let hr : p.r + (row_of w.rows w.columns k - p.to_row) < actual_rows g i = omega (arith, in_rows, t.row_from, t.row_to) in
        let hc : p.c + (column_of w.columns k - p.to_column) < actual_columns g j = omega (arith, in_columns, t.column-from, t.column_to) in
        ap (λ (z : ℕ). bits_at image z g.nbpp) (sym (place_is g i j _ _ _ hr hc))
        ∙ sym (block-is-window g image i j _ _ _ hr hc)
        ∙ ap₂ (picture_at g image (band_at w.bands (band_of w.rows w.columns k))) a b

    -- one more block of block row i, wherever it lies, where it gives the picture's numbers
    pub block-turn : (picture : Picture) (l : BlockLayout) (image d : List ℕ)
        → ((k : ℕ) → in_part (block_part g w i j) (band_count g.bands w.bands) w.rows w.columns k ≡ true
        → part_sample l image (block_part g w i j) w.bands w.rows w.columns k ≡ window_sample picture w k)
        → {ys zs : List ℕ} → ys ≡ blocks_read g picture w i j d
        → zs ≡ patched (sample_bytes g) (part_sample l image (block_part g w i j) w.bands w.rows w.columns) (in_part (block_part g w i j) (band_count g.bands w.bands) w.rows w.columns) ys
        → zs ≡ blocks_read g picture w i (j + 1) d
    unfolding blocks_read
    block-turn picture l image d gives {ys} ey ez =
        let s : ℕ = sample_bytes g in
        let v : ℕ → ℕ = window_sample picture w in
        let c : ℕ = band_count g.bands w.bands in
        let p : Part = block_part g w i j in
        let from : before w.column w.columns g.nppbh j ≡ p.to_column = cut_to _ _ _ j across in
        let to : before w.column w.columns g.nppbh (j + 1) ≡ p.to_column + p.columns = cut-end _ _ _ j across in
        ez
        ∙ patched_ext s _ v _ (in_rect c p.to_row p.rows p.to_column p.columns w.rows w.columns) ys
        (λ k l. sym (rect_part p c w.rows w.columns k)) (λ k l e. gives k e)
        ∙ ap (patched s v (in_rect c p.to_row p.rows p.to_column p.columns w.rows w.columns))
        (ey ∙ ap (λ (z : ℕ). patched s v (in_rect c p.to_row p.rows 0 z w.rows w.columns) d) from)
        ∙ columns_join s v d c p.to_row p.rows p.to_column p.columns w.rows w.columns
        ∙ ap (λ (z : ℕ). patched s v (in_rect c p.to_row p.rows 0 z w.rows w.columns) d) (sym to)

  -- ---- the loops

  pub rows_start : (picture : Picture) (d : List ℕ) → d ≡ rows_read g picture w (w.row / g.nppbv) d
  unfolding rows_read
  rows_start picture d = rw (before-first w.row w.rows g.nppbv) (no_rows _ _ d _ 0 0 w.columns w.rows w.columns)

  pub blocks_start : (picture : Picture) (d : List ℕ) (i : ℕ) → d ≡ blocks_read g picture w i (w.column / g.nppbh) d
  unfolding blocks_read
  blocks_start picture d i = rw (before-first w.column w.columns g.nppbh) (no-columns _ _ d _ _ _ 0 w.rows w.columns)

  -- one more block row, of which all blocks were read
  pub rows-turn : (picture : Picture) (d : List ℕ) (i j : ℕ) {ys zs : List ℕ} → Crossed w.row w.rows g.nppbv i → ys ≡ rows_read g picture w i d
      → j ≡ (w.column + w.columns - 1) / g.nppbh + 1 → zs ≡ blocks_read g picture w i j ys
      → zs ≡ rows_read g picture w (i + 1) d
  unfolding rows_read blocks_read
  rows-turn picture d i j {ys} down ey ej ez =
      let s : ℕ = sample_bytes g in
      let v : ℕ → ℕ = window_sample picture w in
      let c : ℕ = band_count g.bands w.bands in
      let y : ℕ = (cut_of w.row w.rows g.nppbv i).to in
      let l : ℕ = (cut_of w.row w.rows g.nppbv i).count in
      let all : before w.column w.columns g.nppbh j ≡ w.columns
      = ap (before w.column w.columns g.nppbh) ej ∙ before_last_lem w.column w.columns g.nppbh (facts g q.accepted).sides.nppbh-pos q.picture.columns-pos in
      ez
      ∙ ap (λ (z : ℕ). patched s v (in_rect c y l 0 z w.rows w.columns) ys) all
      ∙ ap (patched s v (in_rect c y l 0 w.columns w.rows w.columns))
      (ey ∙ ap (λ (z : ℕ). patched s v (in_rect c 0 z 0 w.columns w.rows w.columns) d) (cut_to _ _ _ i down))
      ∙ rows_join s v d c y l w.columns w.rows w.columns
      ∙ ap (λ (z : ℕ). patched s v (in_rect c 0 z 0 w.columns w.rows w.columns) d) (sym (cut-end _ _ _ i down))

  -- all block rows
  pub rows-done : (picture : Picture) (d : List ℕ) (i : ℕ) {zs : List ℕ} → length d ≡ m → i ≡ (w.row + w.rows - 1) / g.nppbv + 1 → zs ≡ rows_read g picture w i d
      → zs ≡ over d 0 (bytes_of (sample_bytes g) (band_count g.bands w.bands) w.rows w.columns (λ k r c. picture (band_at w.bands k) (w.row + r) (w.column + c)))
  unfolding rows_read bytes_of window_sample
  rows-done picture d i e ei ez =
      let f = facts g q.accepted in
      let s : ℕ = sample_bytes g in
      let v : ℕ → ℕ = window_sample picture w in
      let c : ℕ = band_count g.bands w.bands in
      let hs : 0 < s = omega (arith, f.sides.nbpp-pos) in
      let room : c * w.rows * w.columns * s ≤ length d = omega (arith, q.room) in
      let all : before w.row w.rows g.nppbv i ≡ w.rows
      = ap (before w.row w.rows g.nppbv) ei ∙ before_last_lem w.row w.rows g.nppbv f.sides.nppbv-pos q.picture.rows-pos in
      let whole : Part = whole_part w.rows w.columns in
      ez
      ∙ ap (λ (z : ℕ). patched s v (in_rect c 0 z 0 w.columns w.rows w.columns) d) all
      ∙ patched-all s v _ d (c * w.rows * w.columns) hs room
      (λ k l. rect_part whole c w.rows w.columns k ∙ whole-yes c w.rows w.columns k q.picture.rows-pos q.picture.columns-pos l)
      (λ k l r. rect_part whole c w.rows w.columns k ∙ whole-no c w.rows w.columns k q.picture.rows-pos q.picture.columns-pos l)
