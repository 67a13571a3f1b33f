-- `mask::ImageDataMask::find_record` meets its contract: each "no" gives its number, and the record lies in the table.
-- Assumes nothing.
use Rattle.std.proofs.Common.{◌≡◌, ℕ, ◌+◌, ◌*◌, ◌≤◌, ◌<◌, Bool, List, length, refl, sym, ◌∙◌, arith}
use mathlib.Core.Logic.{⊎_elim}
use borrow.Author.Tests.{lt-ltb, le-ltb, eq-eqb, ne_eqb}
use lib.Dec.{lit<}
use Rattle.bits.specs.Bits.{be_at}
use Rattle.common.specs.Questions.{ask}
use Rattle.common.specs.Tests.{pick}
use Rattle.common.proofs.Questions.{Before, ask-before, ask-inv}
use Rattle.widths.specs.declared.Widths.{Widths}
use Rattle.grid.specs.declared.Grid.{Grid}
use Rattle.grid.specs.Check.{ask_grid, q6}
use Rattle.mask.specs.Table.{records, lookup_record, code_bytes, table_size, header, block_record}
use Rattle.mask.specs.Mask.{ask_table, q8_lookup, parse_number, lookup_number}
use Rattle.mask.proofs.Fields.{read_lt}
use Rattle.mask.proofs.Numbers.{table_before, lookup-facts, block-length}
use Rattle.mask.proofs.Records.{lookup_lt}
use Rattle.mask.proofs.Refusals.{refused-first}
use Rattle.mask.proofs.ImageDataMask.find_record.Goals as goal

-- a question before others
ask-first : (n : ℕ) (ok : Bool) → 0 < n → Before (ask n ok)
ask-first n ok h =
    ask-before (λ rest. rest) n ok h (record { refuses = λ e ne rest. absurd (ne e); accepts = λ e z rest. refl })

-- the number past the questions of the table
past-table : (ws : Widths) (g : Grid) (table : List ℕ) (row column band : ℕ) → 0 ≡ parse_number ws g table
    → lookup_number ws g table row column band ≡ ask 6 (q6 g row column) (ask 8 (q8_lookup g band) 0)
unfolding parse_number lookup_number
past-table ws g table row column band e = (table_before ws g table).accepts e refl _

-- and past question 6
past_6 : (ws : Widths) (g : Grid) (table : List ℕ) (row column band : ℕ) → 0 ≡ parse_number ws g table
    → 0 ≡ ask 6 (q6 g row column) 0
    → lookup_number ws g table row column band ≡ ask 8 (q8_lookup g band) 0
past_6 ws g table row column band e f =
    rw (past-table ws g table row column band e, (ask-inv 6 (q6 g row column) 0 (lit< tt) (sym f)).0)

-- past question 8
past_8 : (ws : Widths) (g : Grid) (table : List ℕ) (row column band : ℕ) → 0 ≡ parse_number ws g table
    → 0 ≡ ask 6 (q6 g row column) 0 → band < g.bands → 0 ≡ lookup_number ws g table row column band
past_8 ws g table row column band e f h = sym (past_6 ws g table row column band e f ∙ rw (lt-ltb _ _ h))

-- a record that the table has lies inside it
inside : (ws : Widths) (g : Grid) (table : List ℕ) (row column band : ℕ) {code record-index : ℕ}
    → 0 ≡ lookup_number ws g table row column band → (be_at table 4 2 ≡ 0 → ⊥)
    → code ≡ code_bytes (be_at table 8 2) → record-index ≡ lookup_record g row column band
    → 10 + code + record-index * 4 + 4 ≤ length table
unfolding table_size
inside ws g table row column band e ne c r =
    let l = lookup-facts ws g table row column band (sym e) in
    let k = lookup_lt g row column band l.block l.in_band in
    let four : be_at table 4 2 ≡ 4 =
    ⊎_elim (λ z. absurd (ne z)) (λ f. f) (block-length (header table) l.parsed.record_lengths) in
    let whole : 10 + code_bytes (be_at table 8 2) + records g * (4 + be_at table 6 2) ≤ length table =
    rw four at l.parsed.whole in
    omega (arith, k)

pub returns-in_err-grid-clause-number : goal.returns-in_err-grid-clause-number
unfolding parse_number lookup_number
returns-in_err-grid-clause-number c =
    let ws = c.args.widths.now in
    let g = c.args.grid in
    let table = c.args.table.now in
    refused-first (λ rest. ask_grid ws g (ask_table g table rest)) (table_before ws g table) _ _ _
    c.from_residual.ensures.1 c.in_err-grid.ensures.number

pub returns-in_err-block-clause-number : goal.returns-in_err-block-clause-number
returns-in_err-block-clause-number c =
    let a = c.args in
    let table = c.in_ok-grid.ensures in
    let block = rw table.header.0 at c.in_err-block.ensures.number in
    let first = refused-first (ask 6 (q6 a.grid a.block_row a.block_col)) (ask-first 6 _ (lit< tt)) _ _ _
    c.from_residual-in_err-block.ensures.1 block in
    first ∙ sym (past-table a.widths.now a.grid _ a.block_row a.block_col a.band table.number)

pub returns-then-band-grid-clause-number : goal.returns-then-band-grid-clause-number
returns-then-band-grid-clause-number c =
    let a = c.args in
    let table = c.in_ok-grid.ensures in
    let block = rw table.header.0 at c.in_ok-block.ensures.number in
    let band = rw table.header.0 at c.if-band-grid.true in
    rw (past_6 a.widths.now a.grid _ a.block_row a.block_col a.band table.number block, le-ltb _ _ band)

pub returns-then-head-eq0-clause-number : goal.returns-then-head-eq0-clause-number
returns-then-head-eq0-clause-number c =
    let table = c.in_ok-grid.ensures in
    let block = rw table.header.0 at c.in_ok-block.ensures.number in
    let band = rw table.header.0 at c.if-band-grid.false in
    past_8 _ _ _ _ _ _ table.number block band

pub returns-then-head-eq0-clause-record : goal.returns-then-head-eq0-clause-record
unfolding pick
returns-then-head-eq0-clause-record c =
    rw (eq-eqb _ 0 (rw c.in_ok-grid.ensures.header.1 at c.if-head-eq0.true))

-- the record that is read lies inside the table
read_inside : (c : goal.After-code_bytes)
    → 10 + c.code_bytes.result + c.lookup_record-record.result * 4 + 4 ≤ length c.args.table.now
read_inside c =
    let table = c.in_ok-grid.ensures in
    let block = rw table.header.0 at c.in_ok-block.ensures.number in
    let band = rw table.header.0 at c.if-band-grid.false in
    let same = c.in_ok-block.ensures.same in
    let record-is = rw (same.0, same.1, same.2, table.header.0) at c.lookup_record-record.ensures in
    let code = rw table.header.1 at c.code_bytes.ensures in
    let has-records = rw table.header.1 at c.if-head-eq0.false in
    inside _ c.args.grid _ _ _ _ (past_8 _ _ _ _ _ _ table.number block band) has-records code record-is

pub overflow_mul-at : goal.overflow_mul-at
overflow_mul-at c = omega (arith, read_inside c)

pub overflow_add-at-2 : goal.overflow_add-at-2
overflow_add-at-2 c = omega (arith, read_inside c)

pub get_be-requires : goal.get_be-requires
get_be-requires c = omega (arith, read_inside c)

pub overflow_cast-result : goal.overflow_cast-result
overflow_cast-result c = record { fits = read_lt _ _ 4 (λ i. (c.type_inv.table i).fits) c.get_be.ensures }

pub returns-clause-number : goal.returns-clause-number
returns-clause-number c =
    let table = c.in_ok-grid.ensures in
    let block = rw table.header.0 at c.in_ok-block.ensures.number in
    let band = rw table.header.0 at c.if-band-grid.false in
    past_8 _ _ _ _ _ _ table.number block band

pub returns-clause-record : goal.returns-clause-record
unfolding pick block_record
returns-clause-record c =
    let table = c.in_ok-grid.ensures in
    let same = c.in_ok-block.ensures.same in
    let record-is = rw (same.0, same.1, same.2, table.header.0) at c.lookup_record-record.ensures in
    let code = rw table.header.1 at c.code_bytes.ensures in
    rw (ne_eqb _ 0 (rw table.header.1 at c.if-head-eq0.false), c.get_be.ensures, record-is, code)
