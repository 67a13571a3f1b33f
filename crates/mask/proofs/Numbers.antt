-- What a call's number 0, which is acceptance, tells; and the questions of a table before others.
-- Assumes nothing.
use mathlib.Core.Path.{◌≡◌, sym, ◌∙◌}
use mathlib.Core.Bool.{true}
use mathlib.Core.List.{List}
use mathlib.Core.Logic.{◌⊎◌, inl, inr}
use Prim.Native.Nat.{ℕ, ◌+◌, ◌*◌, ◌^◌, ◌≤◌, ◌<◌}
use native.Mathlib.Decide.{ℕ_discrete}
use native.Mathlib.Omega.{arith}
use lib.Dec.{lit<}
use lib.ListN.{length}
use borrow.Author.Tests.{eqb-true, leb-true, ltb-true, eq-eqb, ne_eqb, le-leb, lt-ltb}
use Rattle.common.specs.Tests.{every, some}
use Rattle.common.proofs.Questions.{Before, ask-before, ask-inv}
use Rattle.common.proofs.Tests.{every-at, true_false}
use Rattle.widths.specs.declared.Widths.{Widths}
use Rattle.grid.specs.declared.Grid.{Grid}
use Rattle.grid.specs.Sizes.{blocks}
use Rattle.grid.specs.Check.{ask_grid, grid_number, q6, Accepted}
use Rattle.grid.specs.Layout.{Block}
use Rattle.grid.proofs.Accepted.{accepted_of, takes-width, grid-open, grid-yes, grid-inv, grid-before, block_in}
use Rattle.marks.specs.Marks.{mark_words, q12}
use Rattle.mask.specs.declared.ImageDataMask.{ImageDataMask}
use Rattle.mask.specs.Table.{records, code_bytes, table_size, mask_size, header}
use Rattle.mask.specs.Mask.{is_record_length, q16, q17, q18, q19, q20, q21, q22, entries, ask_table, parse_number, q8_lookup, lookup_number, q9_write, mask_write_number, q9_marks, from_marks_number}

-- ---- question 17

zero_or_four : (n : ℕ) → is_record_length n ≡ true → (n ≡ 0) ⊎ (n ≡ 4)
unfolding is_record_length some
zero_or_four n e = go (ℕ_discrete n 0) (ℕ_discrete n 4)
  where
    go : Dec (n ≡ 0) → Dec (n ≡ 4) → (n ≡ 0) ⊎ (n ≡ 4)
    go (yes z) d = inl z
    go (no z) (yes f) = inr f
    go (no z) (no f) = true_false (sym (rw (ne_eqb n 0 z, ne_eqb n 4 f) at e))

pub block-length : (mask : ImageDataMask) → q17 mask ≡ true
    → (mask.block_mask_record_length ≡ 0) ⊎ (mask.block_mask_record_length ≡ 4)
block-length mask e = zero_or_four _ (every-at _ e 0)

pub pad-length : (mask : ImageDataMask) → q17 mask ≡ true
    → (mask.pad_pixel_mask_record_length ≡ 0) ⊎ (mask.pad_pixel_mask_record_length ≡ 4)
pad-length mask e = zero_or_four _ (every-at _ e 1)

-- ---- the grid

-- the grid of a call that is not refused
grid-zero : (ws : Widths) (g : Grid) (rest : ℕ) → ask_grid ws g rest ≡ 0 → grid_number ws g ≡ 0
unfolding grid_number
grid-zero ws g rest e = grid-open ws g 0 (accepted_of g (grid-inv ws g rest e).0) (takes-width ws g rest e)

-- ---- parse

-- an accepted parse
pub record Parse (ws : Widths) (g : Grid) (table : List ℕ) : Type 0 where
  pub accepted : grid_number ws g ≡ 0
  pub ten : 10 ≤ length table
  pub record_lengths : q17 (header table) ≡ true
  pub code-length : (header table).pad_pixel_code_length ≤ 32
  pub whole : mask_size g (header table) ≤ length table

pub table_before : (ws : Widths) (g : Grid) (table : List ℕ) → Before (λ rest. ask_grid ws g (ask_table g table rest))
table_before ws g table =
    ask-before _ 19 (q19 g table) (lit< tt)
    (ask-before _ 18 (q18 (header table)) (lit< tt)
    (ask-before _ 17 (q17 (header table)) (lit< tt)
    (ask-before (ask_grid ws g) 16 (q16 table) (lit< tt) (grid-before ws g))))

table-inv : (ws : Widths) (g : Grid) (table : List ℕ) (rest : ℕ) → ask_grid ws g (ask_table g table rest) ≡ 0
    → Parse ws g table × (rest ≡ 0)
table-inv ws g table rest e =
    let s = grid-inv ws g _ e in
    let a = ask-inv 16 (q16 table) _ (lit< tt) s.1 in
    let b = ask-inv 17 (q17 (header table)) _ (lit< tt) a.1 in
    let c = ask-inv 18 (q18 (header table)) _ (lit< tt) b.1 in
    let d = ask-inv 19 (q19 g table) _ (lit< tt) c.1 in (
      record {
        accepted = grid-zero ws g _ e;
        ten = leb-true _ _ a.0;
        record_lengths = b.0;
        code-length = leb-true _ _ c.0;
        whole = leb-true _ _ d.0;
      },
      d.1,
    )

pub parse-facts : (ws : Widths) (g : Grid) (table : List ℕ) → parse_number ws g table ≡ 0 → Parse ws g table
unfolding parse_number
parse-facts ws g table e = (table-inv ws g table 0 e).0

table-yes : (ws : Widths) (g : Grid) (table : List ℕ) (rest : ℕ) → Parse ws g table
    → ask_grid ws g (ask_table g table rest) ≡ rest
table-yes ws g table rest t =
    grid-yes ws g _ t.accepted
    ∙ rw (le-leb _ _ t.ten, t.record_lengths, le-leb _ _ t.code-length, le-leb _ _ t.whole)

pub parse-yes : (ws : Widths) (g : Grid) (table : List ℕ) → Parse ws g table → parse_number ws g table ≡ 0
unfolding parse_number
parse-yes ws g table t = table-yes ws g table 0 t

-- the code is at most four bytes, and they are there
pub code_inside : (ws : Widths) (g : Grid) (table : List ℕ) → Parse ws g table
    → let n = code_bytes (header table).pad_pixel_code_length in (n ≤ 4) × (10 + n ≤ length table)
unfolding table_size
code_inside ws g table t = omega (arith, t.code-length, t.whole)

-- ---- lookup

-- an accepted lookup
pub record Lookup (ws : Widths) (g : Grid) (table : List ℕ) (row column band : ℕ) : Type 0 where
  pub parsed : Parse ws g table
  pub block : Block g row column
  pub in_band : band < g.bands

pub lookup-facts : (ws : Widths) (g : Grid) (table : List ℕ) (row column band : ℕ)
    → lookup_number ws g table row column band ≡ 0 → Lookup ws g table row column band
unfolding lookup_number
lookup-facts ws g table row column band e =
    let a = table-inv ws g table _ e in
    let b = ask-inv 6 (q6 g row column) _ (lit< tt) a.1 in
    let c = ask-inv 8 (q8_lookup g band) _ (lit< tt) b.1 in
    record { parsed = a.0; block = block_in g row column b.0; in_band = ltb-true _ _ c.0 }

pub lookup-yes : (ws : Widths) (g : Grid) (table : List ℕ) (row column band : ℕ) → Lookup ws g table row column band
    → lookup_number ws g table row column band ≡ 0
unfolding lookup_number q6 every
lookup-yes ws g table row column band l =
    table-yes ws g table _ l.parsed
    ∙ rw (lt-ltb _ _ l.block.in_row, lt-ltb _ _ l.block.in_column, lt-ltb _ _ l.in_band)

-- ---- mask write

-- an accepted mask write
pub record MaskWrite (ws : Widths) (g : Grid) (mask : ImageDataMask) (n m l : ℕ) : Type 0 where
  pub accepted : grid_number ws g ≡ 0
  pub record_lengths : q17 mask ≡ true
  pub code-length : mask.pad_pixel_code_length ≤ 32
  pub code : mask.pad_pixel_code < 2 ^ (8 * code_bytes mask.pad_pixel_code_length)
  pub size : mask_size g mask ≤ 4_294_967_295
  pub block-list : n ≡ entries g mask.block_mask_record_length
  pub pad-list : m ≡ entries g mask.pad_pixel_mask_record_length
  pub room : mask_size g mask ≤ l

pub mask_write-facts : (ws : Widths) (g : Grid) (mask : ImageDataMask) (n m l : ℕ)
    → mask_write_number ws g mask n m l ≡ 0 → MaskWrite ws g mask n m l
unfolding mask_write_number
mask_write-facts ws g mask n m l e =
    let s = grid-inv ws g _ e in
    let a = ask-inv 17 (q17 mask) _ (lit< tt) s.1 in
    let b = ask-inv 18 (q18 mask) _ (lit< tt) a.1 in
    let c = ask-inv 20 (q20 mask) _ (lit< tt) b.1 in
    let d = ask-inv 21 (q21 g mask) _ (lit< tt) c.1 in
    let f = ask-inv 22 (q22 g mask n m) _ (lit< tt) d.1 in
    let r = ask-inv 9 (q9_write g mask l) _ (lit< tt) f.1 in
    let lists = every-at _ f.0 in
    record {
      accepted = grid-zero ws g _ e;
      record_lengths = a.0;
      code-length = leb-true _ _ b.0;
      code = ltb-true _ _ c.0;
      size = leb-true _ _ d.0;
      block-list = eqb-true _ _ (lists 0);
      pad-list = eqb-true _ _ (lists 1);
      room = leb-true _ _ r.0;
    }

pub mask_write-yes : (ws : Widths) (g : Grid) (mask : ImageDataMask) (n m l : ℕ) → MaskWrite ws g mask n m l
    → mask_write_number ws g mask n m l ≡ 0
unfolding mask_write_number every
mask_write-yes ws g mask n m l w =
    grid-yes ws g _ w.accepted
    ∙ rw (
      w.record_lengths,
      le-leb _ _ w.code-length,
      lt-ltb _ _ w.code,
      le-leb _ _ w.size,
      eq-eqb _ _ w.block-list,
      eq-eqb _ _ w.pad-list,
      le-leb _ _ w.room,
    )

-- ---- the mask from marks

-- an accepted mask from marks
pub record FromMarks (g : Grid) (n m : ℕ) : Type 0 where
  pub accepted : Accepted g
  pub words : mark_words (blocks g) ≤ n
  pub room : records g ≤ m

pub from-marks-facts : (ws : Widths) (g : Grid) (n m : ℕ) → from_marks_number ws g n m ≡ 0 → FromMarks g n m
unfolding from_marks_number q12
from-marks-facts ws g n m e =
    let s = grid-inv ws g _ e in
    let a = ask-inv 12 (q12 (blocks g) n) _ (lit< tt) s.1 in
    let b = ask-inv 9 (q9_marks g m) _ (lit< tt) a.1 in
    record { accepted = accepted_of g s.0; words = leb-true _ _ a.0; room = leb-true _ _ b.0 }
