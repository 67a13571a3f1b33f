-- The papers' number of each refusal; 0 is acceptance.
-- Assumes nothing.
use Rattle.std.specs.Prelude.{ℕ, Result, Ok, Err}
use Rattle.refusals.specs.declared.Refusal.{Refusal}
use Rattle.refusals.specs.declared.Refusal.TheVariants.{Limits, Width, BlockCounts, TooLarge, ResolutionLevel}
use Rattle.refusals.specs.declared.Refusal.TheVariants.{BlockOutsideGrid, ImageEnds, NoSuchBand, OutputTooShort}
use Rattle.refusals.specs.declared.Refusal.TheVariants.{WindowOutsidePicture, ImageTooShort, MarksTooShort, OtherShape}
use Rattle.refusals.specs.declared.Refusal.TheVariants.{DataLength, UnmarkedBlock, TableTooShort, RecordLength}
use Rattle.refusals.specs.declared.Refusal.TheVariants.{PadCodeLength, TableEnds, PadCode, TableTooLarge, OffsetCount}
use Rattle.refusals.specs.declared.Refusal.TheVariants.{SubheaderPart, NamedValue, SampleBits, AlreadyFull, WidthTable, NoMode}

-- the number of the question that is answered no
abbrev pub number_of : Refusal → ℕ
number_of Limits = 1
number_of Width = 2
number_of BlockCounts = 3
number_of TooLarge = 4
number_of ResolutionLevel = 5
number_of BlockOutsideGrid = 6
number_of ImageEnds = 7
number_of NoSuchBand = 8
number_of OutputTooShort = 9
number_of WindowOutsidePicture = 10
number_of ImageTooShort = 11
number_of MarksTooShort = 12
number_of OtherShape = 13
number_of DataLength = 14
number_of (UnmarkedBlock row column) = 15
number_of TableTooShort = 16
number_of RecordLength = 17
number_of PadCodeLength = 18
number_of TableEnds = 19
number_of PadCode = 20
number_of TableTooLarge = 21
number_of OffsetCount = 22
number_of SubheaderPart = 23
number_of NamedValue = 24
number_of SampleBits = 26
number_of AlreadyFull = 27
number_of WidthTable = 33
number_of NoMode = 99

-- the number of an answer: 0 where the call is accepted
abbrev pub answer_number : {A : Type 0} → Result A Refusal → ℕ
answer_number (Ok x) = 0
answer_number (Err refusal) = number_of refusal
