-- Reorderings of the samples of a block between the orders of the modes.
-- Assumes nothing.
use Rattle.std.specs.Prelude.{ℕ, ◌*◌, ◌/◌, ◌%◌, true, List, [], Result, Ok, Err, leb, eqb, length}
use Rattle.bits.specs.Bits.{be_at}
use Rattle.common.specs.Over.{over}
use Rattle.layout.specs.declared.InterleaveMode.{InterleaveMode}
use Rattle.layout.specs.declared.InterleaveMode.TheVariants.{B, P, R, S}
use Rattle.common.specs.Questions.{ask, outcome}
use Rattle.common.specs.Tests.{within}
use Rattle.layout.specs.Order.{ordinal}
use Rattle.layout.specs.Bands.{Bands, bands_of, band_count, band_at, q8, q9}
use Rattle.bits.specs.Values.{values}
use Rattle.refusals.specs.declared.Refusal.{Refusal}
use Rattle.refusals.specs.Refusals.{number_of}
use Rattle.interleave.specs.declared.Output.{Output}
use Rattle.interleave.specs.declared.Reordered.{Reordered}

-- the band, the row and the column of the sample that stands at place n in the order of a mode
abbrev pub band_of : InterleaveMode → ℕ → ℕ → ℕ → ℕ → ℕ
band_of B bands rows columns n = n / columns / rows
band_of P bands rows columns n = n % bands
band_of R bands rows columns n = n / columns % bands
band_of S bands rows columns n = n / columns / rows

abbrev pub row_of : InterleaveMode → ℕ → ℕ → ℕ → ℕ → ℕ
row_of B bands rows columns n = n / columns % rows
row_of P bands rows columns n = n / bands / columns
row_of R bands rows columns n = n / columns / bands
row_of S bands rows columns n = n / columns % rows

abbrev pub column_of : InterleaveMode → ℕ → ℕ → ℕ → ℕ → ℕ
column_of B bands rows columns n = n % columns
column_of P bands rows columns n = n / bands % columns
column_of R bands rows columns n = n % columns
column_of S bands rows columns n = n % columns

-- the place in the order of `from` of the sample that goes to place n in the order of `to`, where the bands asked for
-- are taken
unfoldable pub source_of : InterleaveMode → InterleaveMode → Bands → ℕ → ℕ → ℕ → ℕ → ℕ
source_of from to bs bands rows columns n =
    ordinal from bands rows columns (band_at bs (band_of to bands rows columns n)) (row_of to bands rows columns n)
    (column_of to bands rows columns n)

-- questions 2 (sample 1 to 8 bytes), 4 (product), 14, 8, 9, for data of n bytes and an output of m; "all" looks at no
-- list
unfoldable pub reorder_number : Bands → ℕ → ℕ → ℕ → ℕ → ℕ → ℕ → ℕ
reorder_number bs rows columns bands s n m =
    ask 2 (within 1 8 s)
    (ask 4 (leb (bands * rows * columns * s) 4_294_967_294)
    (ask 14 (eqb n (bands * rows * columns * s))
    (ask 8 (q8 bands bs)
    (ask 9 (q9 (band_count bands bs) rows columns s m) 0))))

-- a reordering's answer and the output it leaves
pub record ReorderedOut : Type 0 where
  pub answer : Reordered
  pub out : List ℕ

abbrev pub reordered_with : Reordered → List ℕ → ReorderedOut
reordered_with answer out = record { answer = answer; out = out }

abbrev pub refusal : ℕ → Reordered
refusal n = record { number = n; bands = 0; bytes = 0 }

-- a result's number, and what it filled
abbrev pub reordered_of : Result Output Refusal → Reordered
reordered_of (Ok output) = record { number = 0; bands = output.bands; bytes = output.bytes }
reordered_of (Err reason) = refusal (number_of reason)

-- what a reordering of the bands asked for fills
abbrev pub output_of : Bands → ℕ → ℕ → ℕ → ℕ → Output
output_of bs rows columns bands s =
    record { bands = band_count bands bs; bytes = band_count bands bs * rows * columns * s }

-- the bands asked for, in the order of `to`, in samples of s bytes
abbrev pub reordered_bytes : InterleaveMode → InterleaveMode → Bands → ℕ → ℕ → ℕ → ℕ → List ℕ → List ℕ
reordered_bytes from to bs rows columns bands s dat =
    values (λ n. be_at dat (source_of from to bs bands rows columns n * s) s) s (band_count bands bs * rows * columns)

-- data in the order of one mode reordered to that of another, of the bands asked for
unfoldable pub reorder : InterleaveMode → InterleaveMode → Bands → ℕ → ℕ → ℕ → ℕ → List ℕ → List ℕ → ReorderedOut
reorder from to bs rows columns bands s dat out =
    outcome (reorder_number bs rows columns bands s (length dat) (length out))
    (reordered_with (record { number = 0; bands = band_count bands bs; bytes = band_count bands bs * rows * columns * s })
    (over out 0 (reordered_bytes from to bs rows columns bands s dat)))
    (λ n. reordered_with (refusal n) out)

-- every band
abbrev pub every_band : Bands
every_band = bands_of true []
