-- What an accepted re-lay does to any image, in the words of document 02.
-- Assumes nothing.
use Rattle.std.specs.Prelude.{ℕ, ◌+◌, ◌*◌, ◌<◌, ◌≡◌, true, false, List, length, drop, replicate}
use Rattle.common.specs.Over.{over}
use Rattle.bits.specs.Bits.{bit_at}
use Rattle.widths.specs.declared.Widths.{Widths}
use Rattle.grid.specs.declared.Grid.{Grid}
use Rattle.grid.specs.Sizes.{band_bytes, image_bytes, byte_multiple}
use Rattle.grid.specs.Layout.{place, Sample, SampleBit}
use Rattle.grid.specs.EdgeRules.{under_full}
use Rattle.calls.specs.Orders.{relay_number}
use Rattle.calls.specs.Reads.{sample_at}
use Rattle.calls.specs.Relay.{Relaid, relay}

pub record Relays (g : Grid) (image scratch : List ℕ) (after : Relaid) : Type 0 where
  -- the grid in force is the one under full
  pub grid : after.grid ≡ under_full g
  -- samples keep their values
  pub samples : (row column b r c : ℕ) → Sample g row column b r c
      → sample_at (under_full g) after.image row column b r c ≡ sample_at g image row column b r c
  -- at byte multiples no byte of the image changes
  pub whole : byte_multiple g ≡ true → after.image ≡ image
  -- at other widths unused bits become zero
  pub unused : byte_multiple g ≡ false → (p : ℕ) → p < image_bytes g * 8
      → ((row column b r c i : ℕ) → SampleBit g row column b r c i → place (under_full g) row column b r c + i ≡ p → ⊥)
      → bit_at after.image p ≡ 0
  -- longer buffers keep their surplus, and the scratch ends as zeros
  pub image-length : length after.image ≡ length image
  pub image-surplus : drop (image_bytes g) after.image ≡ drop (image_bytes g) image
  pub scratch-zeros : after.scratch ≡ over scratch 0 (replicate (g.bands * band_bytes g) 0)

-- on any image, marks and scratch that the questions accept, with any table
abbrev pub RelayClaim : Type 0
RelayClaim =
    (ws : Widths) (g : Grid) (image marks scratch : List ℕ)
    → relay_number ws g (length image) (length marks) (length scratch) ≡ 0
    → Relays g image scratch (relay ws g image marks scratch)
