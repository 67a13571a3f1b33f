-- Samples of a row that stand evenly in the run of the first of them.
-- Assumes nothing.
use Rattle.std.specs.Prelude.{ℕ, ◌+◌, ◌*◌, ◌≤◌, ◌<◌, ◌≡◌, Option, MatchOption}
use Rattle.layout.specs.declared.BlockLayout.{BlockLayout}
use Rattle.layout.specs.Internal.Layout.{sample_bytes, place, block_end, Sound}
use Rattle.layout.specs.Internal.Spacing.{column_stride}
use Rattle.rows.specs.Internal.Rows.{Movable}
use Rattle.moves.specs.declared.runs.Run.{Run}
use Rattle.moves.specs.declared.runs.RowRuns.{RowRuns}

pub record RowRun (l : BlockLayout) (b r c most : ℕ) (run : Run) : Type 0 where
  pub some : 0 < run.count
  pub count-le : run.count ≤ most
  pub starts : run.at ≡ place l b r c
  pub along : (j : ℕ) → j < run.count → place l b r (c + j) ≡ run.at + j * column_stride l.mode l
  pub movable : (n : ℕ) → block_end l ≤ n
      → Movable n run.at (column_stride l.mode l) l.nbpp (sample_bytes l) run.count

-- they are samples of the block
pub record RowIn (s : RowRuns) : Type 0 where
  pub sound : Sound s.layout
  pub in_b : s.b < s.layout.bands
  pub in_r : s.r < s.layout.rows
  pub in_c : s.c + s.count ≤ s.layout.columns

-- a run of them, and those after it
pub record RunThen (s : RowRuns) (run : Run) (t : RowRuns) : Type 0 where
  pub first : RowRun s.layout s.b s.r s.c s.count run
  pub layout : t.layout ≡ s.layout
  pub b : t.b ≡ s.b
  pub r : t.r ≡ s.r
  pub c : t.c ≡ s.c + run.count
  pub count : t.count + run.count ≡ s.count

abbrev pub NextRun : RowRuns → Option Run → RowRuns → Type 0
NextRun s run t = MatchOption run (s.count ≡ 0) (λ x. RunThen s x t)
