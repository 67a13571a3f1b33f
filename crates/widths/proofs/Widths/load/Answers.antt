-- There are 68 bytes, and the questions are those of the definition.
use Rattle.std.proofs.Common.{sym, ◌∙◌, arith, ap}
use Rattle.std.specs.Prelude.{List, ℕ, ◌-◌, ◌≡◌, true, false, length, take, drop}
use borrow.Author.Tests.{eqb-true}
use lib.ListN.{length-drop}
use Rattle.std.proofs.lemmas.List.{take_all}
use Rattle.common.specs.Tests.{every}
use Rattle.common.specs.Questions.{outcome}
use Rattle.common.proofs.Tests.{every-at}
use Rattle.widths.specs.declared.Widths.{Widths}
use Rattle.widths.specs.Widths.{table_of}
use Rattle.widths.specs.Loading.{Loaded, header_fits, entries_fit, table_in, not_loaded, load}
use Rattle.widths.proofs.Widths.load.Goals as goal

all-there : (bytes : List ℕ) → header_fits bytes ≡ true → length bytes ≡ 68
unfolding header_fits
all-there bytes e = eqb-true _ _ (every-at _ e 0)

-- what stands after the header is lent whole
after-header : (bytes : List ℕ) → table_of (take (length bytes - 3) (drop 3 bytes)) ≡ table_in bytes
after-header bytes = ap table_of (take_all (length bytes - 3) (drop 3 bytes) (rw (length-drop 3 bytes) (omega arith)))

wrong-header : (bytes : List ℕ) → header_fits bytes ≡ false → load bytes ≡ not_loaded 33
unfolding load every outcome
wrong-header bytes h = simp h

wrong-entry : (bytes : List ℕ) → header_fits bytes ≡ true → entries_fit (table_in bytes) ≡ false → load bytes ≡ not_loaded 33
unfolding load every outcome
wrong-entry bytes h e = simp (h, e)

right : (bytes : List ℕ) → header_fits bytes ≡ true → entries_fit (table_in bytes) ≡ true
    → load bytes ≡ record { number = 0; widths = table_in bytes }
unfolding load every outcome
right bytes h e = simp (h, e)

pub slice_bounds-new-count : goal.slice_bounds-new-count
slice_bounds-new-count c = let e = all-there c.args.bytes.now (sym c.if-not-has_header.ensures) in omega arith

pub slice_bounds-new-start : goal.slice_bounds-new-start
slice_bounds-new-start c = let e = all-there c.args.bytes.now (sym c.if-not-has_header.ensures) in omega arith

pub returns-then-not-has_header : goal.returns-then-not-has_header
returns-then-not-has_header c = sym (wrong-header c.args.bytes.now (sym c.if-not-has_header.ensures))

pub returns-then-not-is_loadable : goal.returns-then-not-is_loadable
returns-then-not-is_loadable c =
    sym (wrong-entry c.args.bytes.now (sym c.if-not-has_header.ensures)
    (ap entries_fit (sym (c.new-widths.ensures ∙ after-header c.args.bytes.now)) ∙ sym c.if-not-is_loadable.ensures))

pub returns : goal.returns
returns c =
    let e : c.new-widths.result ≡ table_in c.args.bytes.now = c.new-widths.ensures ∙ after-header c.args.bytes.now in
    ap (λ (ws : Widths). let l : Loaded = record { number = 0; widths = ws } in l) e
    ∙ sym (right c.args.bytes.now (sym c.if-not-has_header.ensures) (ap entries_fit (sym e) ∙ sym c.if-not-is_loadable.ensures))
