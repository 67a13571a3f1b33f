-- A refusal's number is none of acceptance.
-- Assumes nothing.
use Rattle.std.specs.Prelude.{◌≡◌}
use Rattle.std.proofs.Common.{◌<◌, arith, lit<}
use Rattle.refusals.specs.declared.Refusal.{Refusal}
use Rattle.refusals.specs.declared.Refusal.TheVariants.{Limits, Width, BlockCounts, TooLarge, ResolutionLevel}
use Rattle.refusals.specs.declared.Refusal.TheVariants.{BlockOutsideGrid, ImageEnds, NoSuchBand, OutputTooShort}
use Rattle.refusals.specs.declared.Refusal.TheVariants.{WindowOutsidePicture, ImageTooShort, MarksTooShort, OtherShape}
use Rattle.refusals.specs.declared.Refusal.TheVariants.{DataLength, UnmarkedBlock, TableTooShort, RecordLength}
use Rattle.refusals.specs.declared.Refusal.TheVariants.{PadCodeLength, TableEnds, PadCode, TableTooLarge, OffsetCount}
use Rattle.refusals.specs.declared.Refusal.TheVariants.{SubheaderPart, NamedValue, SampleBits, AlreadyFull, WidthTable, NoMode}
use Rattle.refusals.specs.Refusals.{number_of}

pub number-pos : (refusal : Refusal) → 0 < number_of refusal
number-pos Limits = lit< tt
number-pos Width = lit< tt
number-pos BlockCounts = lit< tt
number-pos TooLarge = lit< tt
number-pos ResolutionLevel = lit< tt
number-pos BlockOutsideGrid = lit< tt
number-pos ImageEnds = lit< tt
number-pos NoSuchBand = lit< tt
number-pos OutputTooShort = lit< tt
number-pos WindowOutsidePicture = lit< tt
number-pos ImageTooShort = lit< tt
number-pos MarksTooShort = lit< tt
number-pos OtherShape = lit< tt
number-pos DataLength = lit< tt
number-pos TableTooShort = lit< tt
number-pos RecordLength = lit< tt
number-pos PadCodeLength = lit< tt
number-pos TableEnds = lit< tt
number-pos PadCode = lit< tt
number-pos TableTooLarge = lit< tt
number-pos OffsetCount = lit< tt
number-pos SubheaderPart = lit< tt
number-pos NamedValue = lit< tt
number-pos SampleBits = lit< tt
number-pos AlreadyFull = lit< tt
number-pos WidthTable = lit< tt
number-pos NoMode = lit< tt
number-pos (UnmarkedBlock row column) = lit< tt

pub number-some : (refusal : Refusal) → number_of refusal ≡ 0 → ⊥
number-some refusal e = let p = number-pos refusal in omega arith
