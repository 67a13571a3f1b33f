-- The answers of the calls as they stand in the papers, of the results that the functions give.
-- Assumes nothing.
use Rattle.std.specs.Prelude.{ℕ, List, Result, Ok, Err}
use Rattle.refusals.specs.declared.Refusal.{Refusal}
use Rattle.refusals.specs.declared.Refusal.TheVariants.{UnmarkedBlock}
use Rattle.refusals.specs.Refusals.{number_of}
use Rattle.grid.specs.declared.Grid.{Grid}
use Rattle.calls.specs.declared.Answer.{Answer}
use Rattle.calls.specs.declared.Extent.{Extent}
use Rattle.calls.specs.declared.Shape.{Shape}
use Rattle.calls.specs.Reads.{no_shape}
use Rattle.calls.specs.Writes.{number}
use Rattle.calls.specs.Relay.{Relaid}

-- a read's number and shape
abbrev pub shape_of : Result Extent Refusal → Shape
shape_of (Ok extent) =
    record { number = 0; bands = extent.bands; rows = extent.rows; columns = extent.columns }
shape_of (Err refusal) = no_shape (number_of refusal)

-- a refusal's number and values: beside 15 the block's row and column
abbrev pub refused_answer : Refusal → Answer
refused_answer (UnmarkedBlock row column) = record { number = 15; first = row; second = column }
refused_answer refusal = number (number_of refusal)

-- a call without a value
abbrev pub answer_of : Result (Unit {0}) Refusal → Answer
answer_of (Ok done) = number 0
answer_of (Err refusal) = refused_answer refusal

-- a call with a count
abbrev pub progress_of : Result ℕ Refusal → Answer
progress_of (Ok count) = record { number = 0; first = count; second = 0 }
progress_of (Err refusal) = refused_answer refusal

-- a re-lay on a grid: the grid in force after it is the one that it answers, and after a refusal the one that was given
abbrev pub relaid_of : Grid → Result Grid Refusal → List ℕ → List ℕ → Relaid
relaid_of g (Ok h) image scratch = record { number = 0; grid = h; image = image; scratch = scratch }
relaid_of g (Err refusal) image scratch =
    record { number = number_of refusal; grid = g; image = image; scratch = scratch }
