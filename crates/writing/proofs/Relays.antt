-- A block laid anew is its layout laid anew.
-- Assumes nothing.
use Prim.Native.Nat.{ℕ, ◌-◌, ◌*◌, ◌≤◌}
use mathlib.Core.Path.{◌≡◌, refl, sym, ap, ap₂, ◌∙◌}
use mathlib.Core.Bool.{Bool}
use mathlib.Core.List.{List}
use native.Mathlib.Omega.{arith}
use Rattle.bits.specs.Bits.{bits_at, put_bits}
use Rattle.common.proofs.Turns.{iter_ext}
use Rattle.grid.specs.declared.Grid.{Grid}
use Rattle.grid.specs.declared.EdgeRule.TheVariants.{Full}
use Rattle.grid.specs.Check.{Accepted}
use Rattle.grid.specs.Sizes.{band_bytes, image_bytes, block_index, actual_rows, actual_columns, byte_multiple}
use Rattle.grid.specs.Layout.{Block}
use Rattle.grid.specs.EdgeRules.{under_full}
use Rattle.grid.specs.Internal.BlockLayouts.{layout_of}
use Rattle.grid.proofs.Accepted.{facts}
use Rattle.grid.proofs.BlockLayouts.{place_is, end_is, sound, run_is}
use Rattle.grid.proofs.EdgeRules.{rule_moves_no-block}
use Rattle.grid.proofs.Runs.{accepted_rule}
use Rattle.grid.proofs.SamplePlaces.{end_in, run_inside}
use Rattle.moves.specs.Internal.Stores.{put_all, clear_runs as clear_in}
use Rattle.moves.specs.Internal.Relays.{bits_of, BlockRelayable}
use Rattle.calls.specs.Reads.{sample_at}
use Rattle.calls.specs.Writes.{put_samples, clear_runs}
use Rattle.calls.specs.Relay.{relay_block, relaid_by, relaid}
use Rattle.writing.proofs.Stores.{clear_is}

put_is : (g : Grid) (row column : ℕ) (image ys : List ℕ)
    → put_all (layout_of (under_full g) row column) (bits_of (layout_of g row column) image) ys
    ≡ put_samples (under_full g) row column (λ b r c. sample_at g image row column b r c) ys
unfolding put_samples sample_at actual_rows actual_columns
put_is g row column image ys =
    iter_ext (actual_rows g row) _ _ ys (λ r hr x.
    iter_ext g.bands _ _ x (λ b hb y.
    iter_ext (actual_columns g column) _ _ y (λ c hc z.
    ap₂ (λ (p q : ℕ). put_bits z p g.nbpp (bits_at image q g.nbpp))
    (sym (place_is (under_full g) row column b r c hr hc)) (sym (place_is g row column b r c hr hc)))))

pub relay_is : (g : Grid) (row column : ℕ) (image : List ℕ)
    → put_all (layout_of (under_full g) row column) (bits_of (layout_of g row column) image) (clear_in (layout_of g row column) image)
    ≡ relay_block g row column image
unfolding relay_block
relay_is g row column image =
    ap (put_all (layout_of (under_full g) row column) (bits_of (layout_of g row column) image)) (clear_is g row column image)
    ∙ put_is g row column image (clear_runs g row column image)

-- an image laid anew, as a test of the width chose
pub laid_by : (w : Bool) (g : Grid) (image : List ℕ) {ys : List ℕ} → byte_multiple g ≡ w → ys ≡ relaid_by w g image → ys ≡ relaid g image
laid_by w g image e h = h ∙ ap (λ (b : Bool). relaid_by b g image) (sym e)

pub relayable : (g : Grid) → Accepted g → (row column : ℕ) → Block g row column → (n m : ℕ) → image_bytes g ≤ n → g.bands * band_bytes g ≤ m
    → BlockRelayable (layout_of g row column) (layout_of (under_full g) row column) n m
unfolding actual_rows actual_columns
relayable g a row column t n m h k =
    let f = facts g a in
    let full-accepted : Accepted (under_full g) = accepted_rule Full g a in
    let full-facts = facts (under_full g) full-accepted in
    let full-block : Block (under_full g) row column = record { in_row = t.in_row; in_column = t.in_column } in
    record {
      sound_from = sound g f row column t;
      sound_to = sound (under_full g) full-facts row column full-block;
      same = record { mode = refl; bands = refl; rows = refl; columns = refl; nbpp = refl };
      runs_held =
          omega (
            arith,
            run_is g.imode g (block_index g row column) (g.bands - 1),
            run_inside g row column (g.bands - 1) t (omega (arith, f.sides.bands-pos)),
            h,
          );
      to_held =
          omega (
            arith,
            end_is (under_full g) full-facts row column full-block,
            end_in (under_full g) full-facts row column full-block,
            (rule_moves_no-block Full g row column).image,
            h,
          );
      saved_held = k;
    }
