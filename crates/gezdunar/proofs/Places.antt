-- Where the whole nominal block lies.
-- Assumes nothing.
use Prim.Native.Nat.{ℕ, zero, suc}
use mathlib.Core.Path.{◌≡◌, refl, sym, ap, ◌∙◌}
use mathlib.Core.List.{List, []}
use lib.ListN.{length, take, drop}
use Rattle.common.specs.Questions.{outcome}
use Rattle.common.proofs.Questions.{outcome-yes, refused-by}
use Rattle.std.specs.Prelude.{Result, Ok, Err, IfOk}
use Rattle.refusals.specs.declared.Refusal.{Refusal}
use Rattle.refusals.specs.Refusals.{answer_number}
use Rattle.refusals.proofs.Numbers.{number-some}
use Rattle.widths.specs.declared.Widths.{Widths}
use Rattle.grid.specs.declared.Grid.{Grid}
use Rattle.grid.specs.declared.places.Span.{Span}
use Rattle.grid.specs.Layout.{whole_start, whole_length, whole_span}
use Rattle.calls.specs.Orders.{whole_number}
use Rattle.calls.specs.Reads.{whole_block}
use Rattle.gezdunar.specs.declared.Place.{Place}
use Rattle.gezdunar.specs.Boundary.{empty_at, part_at, place_of, whole_place}

module _ (ws : Widths) (g : Grid) (n row column : ℕ) {k : ℕ} (e : k ≡ whole_number ws g n row column) where
  -- beside a refusal
  pub place-refused : (k ≡ 0 → ⊥) → empty_at k ≡ whole_place ws g n row column
  unfolding whole_place
  place-refused h = refused-by _ empty_at e h

  -- beside acceptance
  pub place-known : {block : Span} → k ≡ 0 → block ≡ whole_span g row column
      → part_at block.start block.length ≡ whole_place ws g n row column
  unfolding whole_place
  place-known z b = ap (λ (s : Span). part_at s.start s.length) b ∙ sym (outcome-yes _ empty_at (sym e ∙ z))

-- by what is found
pub place-found : (ws : Widths) (g : Grid) (n row column : ℕ) (found : Result Span Refusal)
    → answer_number found ≡ whole_number ws g n row column → IfOk found (λ s. s ≡ whole_span g row column)
    → place_of found ≡ whole_place ws g n row column
place-found ws g n row column (Ok span) e same = place-known ws g n row column e refl same
place-found ws g n row column (Err refusal) e same = place-refused ws g n row column e (number-some refusal)

-- the bytes at that place are the whole block's
abbrev pub bytes_at : Place → List ℕ → List ℕ
bytes_at p image = take p.length (drop p.start image)

pub place-part : (ws : Widths) (g : Grid) (image : List ℕ) (row column : ℕ)
    → bytes_at (whole_place ws g (length image) row column) image ≡ whole_block ws g image row column
unfolding whole_place whole_block outcome
place-part ws g image row column = go (whole_number ws g (length image) row column)
  where
    go : (k : ℕ) → bytes_at (outcome k (part_at (whole_start g row column) (whole_length g)) empty_at) image
        ≡ outcome k (take (whole_length g) (drop (whole_start g row column) image)) (λ n. [])
    go zero = refl
    go (suc k) = refl
