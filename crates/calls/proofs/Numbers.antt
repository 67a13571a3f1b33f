-- What a call's number 0, which is acceptance, tells; and questions before others.
-- Assumes nothing.
use Prim.Native.Nat.{ℕ, ◌*◌, ◌≤◌}
use mathlib.Core.Path.{◌≡◌, refl, sym, ap, ◌∙◌}
use mathlib.Core.Bool.{Bool, true}
use native.Mathlib.Decide.{ℕ_discrete}
use borrow.Author.Tests.{leb-true, eqb-true}
use lib.Dec.{leb, lit<}
use Rattle.common.specs.Questions.{ask}
use Rattle.common.proofs.Questions.{Before, before-inv, ask-before, ask-inv}
use Rattle.widths.specs.declared.Widths.{Widths}
use Rattle.grid.specs.declared.Grid.{Grid}
use Rattle.grid.specs.Sizes.{sample_bytes, band_bytes, blocks, image_bytes, actual_rows, actual_columns}
use Rattle.grid.specs.Check.{Accepted, ask_grid, q6, q11}
use Rattle.grid.specs.Layout.{Block}
use Rattle.grid.proofs.Accepted.{accepted_of, grid-inv, grid-before, block_in}
use Rattle.marks.specs.Marks.{mark_words, q12}
use Rattle.calls.specs.Orders.{ask_buffers, q13, q14, start_number, write_number, skip_number, progress_number, relay_number, q27}

-- n bytes of image and m mark words are enough for an accepted grid
pub record Enough (g : Grid) (n m : ℕ) : Type 0 where
  pub accepted : Accepted g
  pub bytes : image_bytes g ≤ n
  pub words : mark_words (blocks g) ≤ m

enough-inv : (ws : Widths) (g : Grid) (n m rest : ℕ) → ask_grid ws g (ask_buffers g n m rest) ≡ 0 → Enough g n m × (rest ≡ 0)
unfolding q11 q12
enough-inv ws g n m rest e =
    let a = grid-inv ws g _ e in
    let b = ask-inv 11 (q11 g n) _ (lit< tt) a.1 in
    let c = ask-inv 12 (q12 (blocks g) m) rest (lit< tt) b.1 in
    (record { accepted = accepted_of g a.0; bytes = leb-true _ _ b.0; words = leb-true _ _ c.0 }, c.1)

block-inv : (g : Grid) (row column rest : ℕ) → ask 6 (q6 g row column) rest ≡ 0 → Block g row column
block-inv g row column rest e = block_in g row column (ask-inv 6 (q6 g row column) rest (lit< tt) e).0

pub start-facts : (ws : Widths) (g : Grid) (n m : ℕ) → start_number ws g n m ≡ 0 → Enough g n m
unfolding start_number
start-facts ws g n m e = (enough-inv ws g n m _ e).0

pub write-facts : (ws : Widths) (g : Grid) (n m row column bands rows columns size : ℕ) (fit : Bool) → write_number ws g n m row column bands rows columns size fit ≡ 0
    → Enough g n m × Block g row column
unfolding write_number
write-facts ws g n m row column bands rows columns size fit e =
    let a = enough-inv ws g n m _ e in
    (a.0, block-inv g row column _ a.1)

pub skip-facts : (ws : Widths) (g : Grid) (n m row column : ℕ) → skip_number ws g n m row column ≡ 0 → Enough g n m × Block g row column
unfolding skip_number
skip-facts ws g n m row column e =
    let a = enough-inv ws g n m _ e in
    (a.0, block-inv g row column _ a.1)

pub progress-facts : (ws : Widths) (g : Grid) (m : ℕ) → progress_number ws g m ≡ 0 → mark_words (blocks g) ≤ m
unfolding progress_number q12
progress-facts ws g m e = leb-true _ _ (ask-inv 12 (q12 (blocks g) m) _ (lit< tt) (grid-inv ws g _ e).1).0

pub relay-facts : (ws : Widths) (g : Grid) (n m k : ℕ) → relay_number ws g n m k ≡ 0 → Enough g n m
unfolding relay_number
relay-facts ws g n m k e = (enough-inv ws g n m _ e).0

-- the scratch of a re-lay has a block's bytes
pub relay-room : (ws : Widths) (g : Grid) (n m k : ℕ) → relay_number ws g n m k ≡ 0 → g.bands * band_bytes g ≤ k
unfolding relay_number
relay-room ws g n m k e =
    let tight = ask-inv 27 (q27 g.edges) _ (lit< tt) (enough-inv ws g n m _ e).1 in
    leb-true _ _ (ask-inv 9 (leb (g.bands * band_bytes g) k) 0 (lit< tt) tight.1).0

-- ---- questions before others

-- 1 to 4, 11 and 12, and then 6
pub buffers-before : (ws : Widths) (g : Grid) (n m : ℕ) → Before (λ rest. ask_grid ws g (ask_buffers g n m rest))
buffers-before ws g n m =
    ask-before _ 12 (q12 (blocks g) m) (lit< tt) (ask-before (ask_grid ws g) 11 (q11 g n) (lit< tt) (grid-before ws g))

pub block-before : (ws : Widths) (g : Grid) (n m row column : ℕ) → Before (λ rest. ask_grid ws g (ask_buffers g n m (ask 6 (q6 g row column) rest)))
block-before ws g n m row column = ask-before _ 6 (q6 g row column) (lit< tt) (buffers-before ws g n m)

-- and then 13
pub shape-before : (ws : Widths) (g : Grid) (n m row column bands rows columns : ℕ)
    → Before (λ rest. ask_grid ws g (ask_buffers g n m (ask 6 (q6 g row column) (ask 13 (q13 g row column bands rows columns) rest))))
shape-before ws g n m row column bands rows columns = ask-before _ 13 (q13 g row column bands rows columns) (lit< tt) (block-before ws g n m row column)

-- a write that is accepted has data of the right length, whose samples fit
last_two : (ws : Widths) (g : Grid) (n m row column bands rows columns size : ℕ) (fit : Bool) → write_number ws g n m row column bands rows columns size fit ≡ 0
    → (q14 g row column size ≡ true) × (fit ≡ true)
unfolding write_number
last_two ws g n m row column bands rows columns size fit e =
    let a = ask-inv 14 (q14 g row column size) _ (lit< tt) (before-inv _ (shape-before ws g n m row column bands rows columns) _ e) in
    (a.0, (ask-inv 26 fit 0 (lit< tt) a.1).0)

pub write_data : (ws : Widths) (g : Grid) (n m row column bands rows columns size : ℕ) (fit : Bool) → write_number ws g n m row column bands rows columns size fit ≡ 0
    → size ≡ g.bands * actual_rows g row * actual_columns g column * sample_bytes g
unfolding q14
write_data ws g n m row column bands rows columns size fit e = eqb-true _ _ (last_two ws g n m row column bands rows columns size fit e).0

pub write-fit : (ws : Widths) (g : Grid) (n m row column bands rows columns size : ℕ) (fit : Bool) → write_number ws g n m row column bands rows columns size fit ≡ 0 → fit ≡ true
write-fit ws g n m row column bands rows columns size fit e = (last_two ws g n m row column bands rows columns size fit e).1

-- where a question before 26 says no it makes no difference whether samples fit
pub write_same : (ws : Widths) (g : Grid) (n m row column bands rows columns size : ℕ) (fit fit' : Bool)
    → (write_number ws g n m row column bands rows columns size true ≡ 0 → fit ≡ fit')
    → write_number ws g n m row column bands rows columns size fit ≡ write_number ws g n m row column bands rows columns size fit'
unfolding write_number
write_same ws g n m row column bands rows columns size fit fit' same = go (ℕ_discrete (write_number ws g n m row column bands rows columns size true) 0)
  where
    before_26 : Before (λ rest. ask_grid ws g (ask_buffers g n m (ask 6 (q6 g row column) (ask 13 (q13 g row column bands rows columns) (ask 14 (q14 g row column size) rest)))))
    before_26 = ask-before _ 14 (q14 g row column size) (lit< tt) (shape-before ws g n m row column bands rows columns)

    go : Dec (write_number ws g n m row column bands rows columns size true ≡ 0)
        → write_number ws g n m row column bands rows columns size fit ≡ write_number ws g n m row column bands rows columns size fit'
    go (yes z) = ap (write_number ws g n m row column bands rows columns size) (same z)
    go (no ne) = sym (before_26.refuses refl ne (ask 26 fit 0)) ∙ before_26.refuses refl ne (ask 26 fit' 0)
