-- What the answers of `check` and `block` tell of the questions of a call.
-- Assumes nothing.
use Rattle.std.specs.Prelude.{ℕ, ◌≡◌, Bool, true, false}
use Rattle.std.proofs.Common.{refl, sym, ◌∙◌, ◌<◌, lit<, subst}
use Rattle.common.specs.Questions.{ask}
use Rattle.common.proofs.Questions.{ask-inv}
use Rattle.widths.specs.declared.Widths.{Widths}
use Rattle.grid.specs.declared.Grid.{Grid}
use Rattle.grid.specs.declared.GridBlock.{GridBlock}
use Rattle.grid.specs.Check.{ask_grid, grid_number, q6}
use Rattle.grid.specs.Internal.Blocks.{IsBlock}
use Rattle.grid.proofs.Accepted.{grid-before, grid-yes}

-- where questions 1 to 4 refuse, those after them make no difference
pub grid-refused : (ws : Widths) (g : Grid) {k : ℕ} (rest : ℕ) → k ≡ grid_number ws g → (k ≡ 0 → ⊥) → k ≡ ask_grid ws g rest
unfolding grid_number
grid-refused ws g rest e ne = (grid-before ws g).refuses e ne rest

-- and where they accept, those after them decide
pub grid-accepted : (ws : Widths) (g : Grid) (rest : ℕ) → 0 ≡ grid_number ws g → ask_grid ws g rest ≡ rest
grid-accepted ws g rest e = grid-yes ws g rest (sym e)

ask-refused : (n : ℕ) (b : Bool) {k : ℕ} (rest : ℕ) → k ≡ ask n b 0 → (k ≡ 0 → ⊥) → k ≡ ask n b rest
ask-refused n true rest e ne = absurd (ne e)
ask-refused n false rest e ne = e

-- the same of question 6, asked of a grid that is g
pub block-refused : {h g : Grid} (row column : ℕ) {k : ℕ} (rest : ℕ) → h ≡ g → k ≡ ask 6 (q6 h row column) 0 → (k ≡ 0 → ⊥)
    → k ≡ ask 6 (q6 g row column) rest
block-refused {h} {g} row column rest s e ne = ask-refused 6 (q6 g row column) rest (rw s at e) ne

pub block-yes : {h g : Grid} (row column : ℕ) → h ≡ g → 0 ≡ ask 6 (q6 h row column) 0 → q6 g row column ≡ true
block-yes {h} {g} row column s e = (ask-inv 6 (q6 g row column) 0 (lit< tt) (sym (rw s at e))).0

pub same-block : {h g : Grid} {row column : ℕ} (block : GridBlock) → h ≡ g → IsBlock h row column block → IsBlock g row column block
same-block block s b = (b.0 ∙ s, b.1, b.2)
