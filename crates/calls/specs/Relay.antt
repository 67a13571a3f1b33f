-- Re-lay, document 02's term: every block of a frame's image laid anew from the tight edge rule to full, through a lent
-- scratch.
-- Assumes nothing.
use Rattle.std.specs.Prelude.{ℕ, ◌*◌, Bool, true, false, List, length, replicate}
use Rattle.common.specs.Questions.{outcome}
use Rattle.common.specs.Over.{over}
use Rattle.common.specs.Turns.{iter}
use Rattle.widths.specs.declared.Widths.{Widths}
use Rattle.grid.specs.declared.Grid.{Grid}
use Rattle.grid.specs.Sizes.{band_bytes, byte_multiple}
use Rattle.grid.specs.EdgeRules.{under_full}
use Rattle.calls.specs.Orders.{relay_number}
use Rattle.calls.specs.Reads.{sample_at}
use Rattle.calls.specs.Writes.{put_samples, clear_runs}

-- one block at other widths: its runs cleared, and each of its actual samples, as the image had it, put where full puts
-- it
unfoldable pub relay_block : Grid → ℕ → ℕ → List ℕ → List ℕ
relay_block g row column image =
    put_samples (under_full g) row column (λ b r c. sample_at g image row column b r c) (clear_runs g row column image)

-- every block, marked or not. Byte multiples, where the first argument is true, lie the same under both rules, and no
-- byte changes
unfoldable pub relaid_by : Bool → Grid → List ℕ → List ℕ
relaid_by true g image = image
relaid_by false g image = iter g.nbpc (λ row im. iter g.nbpr (λ column im. relay_block g row column im) im) image

abbrev pub relaid : Grid → List ℕ → List ℕ
relaid g image = relaid_by (byte_multiple g) g image

-- a re-lay's number, the grid in force after it, and the image and the scratch as it leaves them
pub record Relaid : Type 0 where
  pub number : ℕ
  pub grid : Grid
  pub image : List ℕ
  pub scratch : List ℕ

-- re-lay: the grid in force becomes the one under full. The scratch is lent with bands × t bytes, which end as zeros; the
-- marks are only measured. A refused re-lay changes nothing
unfoldable pub relay : Widths → Grid → List ℕ → List ℕ → List ℕ → Relaid
relay ws g image marks scratch =
    outcome (relay_number ws g (length image) (length marks) (length scratch))
    (record {
      number = 0;
      grid = under_full g;
      image = relaid g image;
      scratch = over scratch 0 (replicate (g.bands * band_bytes g) 0);
    })
    (λ n. record { number = n; grid = g; image = image; scratch = scratch })
