-- Refusals of the calls on a frame: only question 15 has values beside its number.
-- Assumes nothing.
use Rattle.std.specs.Prelude.{ℕ, ◌≡◌, Bool, true, false}
use Rattle.std.proofs.Common.{refl, sym, ◌∙◌, arith}
use Rattle.common.specs.Questions.{ask}
use Rattle.refusals.specs.declared.Refusal.{Refusal}
use Rattle.refusals.specs.declared.Refusal.TheVariants.{Limits, Width, BlockCounts, TooLarge, ResolutionLevel}
use Rattle.refusals.specs.declared.Refusal.TheVariants.{BlockOutsideGrid, ImageEnds, NoSuchBand, OutputTooShort}
use Rattle.refusals.specs.declared.Refusal.TheVariants.{WindowOutsidePicture, ImageTooShort, MarksTooShort, OtherShape}
use Rattle.refusals.specs.declared.Refusal.TheVariants.{DataLength, UnmarkedBlock, TableTooShort, RecordLength}
use Rattle.refusals.specs.declared.Refusal.TheVariants.{PadCodeLength, TableEnds, PadCode, TableTooLarge, OffsetCount}
use Rattle.refusals.specs.declared.Refusal.TheVariants.{SubheaderPart, NamedValue, SampleBits, AlreadyFull, WidthTable, NoMode}
use Rattle.refusals.specs.Refusals.{number_of}
use Rattle.widths.specs.declared.Widths.{Widths}
use Rattle.grid.specs.declared.Grid.{Grid}
use Rattle.grid.specs.Check.{ask_grid}
use Rattle.calls.specs.Orders.{ask_buffers, start_number, skip_number, progress_number, write_number}
use Rattle.calls.specs.Results.{refused_answer}
use Rattle.calls.specs.Writes.{number}

alone : (refusal : Refusal) → (number_of refusal ≡ 15 → ⊥) → refused_answer refusal ≡ number (number_of refusal)
alone Limits ne = refl
alone Width ne = refl
alone BlockCounts ne = refl
alone TooLarge ne = refl
alone ResolutionLevel ne = refl
alone BlockOutsideGrid ne = refl
alone ImageEnds ne = refl
alone NoSuchBand ne = refl
alone OutputTooShort ne = refl
alone WindowOutsidePicture ne = refl
alone ImageTooShort ne = refl
alone MarksTooShort ne = refl
alone OtherShape ne = refl
alone DataLength ne = refl
alone TableTooShort ne = refl
alone RecordLength ne = refl
alone PadCodeLength ne = refl
alone TableEnds ne = refl
alone PadCode ne = refl
alone TableTooLarge ne = refl
alone OffsetCount ne = refl
alone SubheaderPart ne = refl
alone NamedValue ne = refl
alone SampleBits ne = refl
alone AlreadyFull ne = refl
alone WidthTable ne = refl
alone NoMode ne = refl
alone (UnmarkedBlock row column) ne = absurd (ne refl)

-- a number that no question of a call has
other : (n : ℕ) (b : Bool) {rest : ℕ} → (n ≡ 15 → ⊥) → (rest ≡ 15 → ⊥) → ask n b rest ≡ 15 → ⊥
other n true h k e = k e
other n false h k e = h e

accepted : ◌≡◌ {A = ℕ} 0 15 → ⊥
accepted e = omega arith

grid-other : (ws : Widths) (g : Grid) {rest : ℕ} → (rest ≡ 15 → ⊥) → ask_grid ws g rest ≡ 15 → ⊥
grid-other ws g k = other 1 _ (λ e. omega arith) (other 2 _ (λ e. omega arith) (other 3 _ (λ e. omega arith) (other 4 _ (λ e. omega arith) k)))

buffers-other : (ws : Widths) (g : Grid) (n m : ℕ) {rest : ℕ} → (rest ≡ 15 → ⊥) → ask_grid ws g (ask_buffers g n m rest) ≡ 15 → ⊥
buffers-other ws g n m k = grid-other ws g (other 11 _ (λ e. omega arith) (other 12 _ (λ e. omega arith) k))

pub start-alone : (ws : Widths) (g : Grid) (n m : ℕ) (refusal : Refusal) → number_of refusal ≡ start_number ws g n m
    → refused_answer refusal ≡ number (number_of refusal)
unfolding start_number
start-alone ws g n m refusal e = alone refusal (λ z. buffers-other ws g n m accepted (sym e ∙ z))

pub progress-alone : (ws : Widths) (g : Grid) (m : ℕ) (refusal : Refusal) → number_of refusal ≡ progress_number ws g m
    → refused_answer refusal ≡ number (number_of refusal)
unfolding progress_number
progress-alone ws g m refusal e = alone refusal (λ z. grid-other ws g (other 12 _ (λ y. omega arith) accepted) (sym e ∙ z))

pub skip-alone : (ws : Widths) (g : Grid) (n m row column : ℕ) (refusal : Refusal) → number_of refusal ≡ skip_number ws g n m row column
    → refused_answer refusal ≡ number (number_of refusal)
unfolding skip_number
skip-alone ws g n m row column refusal e =
    alone refusal (λ z. buffers-other ws g n m (other 6 _ (λ y. omega arith) accepted) (sym e ∙ z))

pub write-alone : (ws : Widths) (g : Grid) (n m row column bands rows columns size : ℕ) (fit : Bool) (refusal : Refusal)
    → number_of refusal ≡ write_number ws g n m row column bands rows columns size fit
    → refused_answer refusal ≡ number (number_of refusal)
unfolding write_number
write-alone ws g n m row column bands rows columns size fit refusal e =
    alone refusal
    (λ z. buffers-other ws g n m
    (other 6 _ (λ y. omega arith)
    (other 13 _ (λ y. omega arith) (other 14 _ (λ y. omega arith) (other 26 _ (λ y. omega arith) accepted))))
    (sym e ∙ z))
