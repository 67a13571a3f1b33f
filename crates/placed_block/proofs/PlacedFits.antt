-- The program's layout is sound, its block ends at byte 30, and the samples that pass its test have 12 bits.
-- Assumes nothing.
use mathlib.Core.Path.{◌≡◌, refl}
use mathlib.Core.Bool.{true}
use mathlib.Core.List.{List}
use Prim.Native.Nat.{ℕ, ◌^◌, ◌<◌}
use native.Mathlib.Omega.{arith}
use borrow.Author.Tests.{ltb-true}
use Rattle.common.proofs.Tests.{below_at}
use Rattle.bits.specs.Values.{side_by_side}
use Rattle.layout.specs.Internal.Layout.{Sound, block_end}
use Rattle.placed_block.specs.Placed.{placed_layout, twelve_bits}

pub placed-sound : Sound placed_layout
placed-sound =
    record {
      size = record { bits_pos = omega arith; bits_le = omega arith; bytes_le = omega arith; narrow = λ h. omega arith; some = omega arith };
      some-bands = omega arith;
      some-rows = omega arith;
      some-columns = omega arith;
      rows-le = omega arith;
      columns-le = omega arith;
      run_fits = omega arith;
      runs-apart = omega arith;
      counted = omega arith;
    }

pub placed_end : block_end placed_layout ≡ 30
unfolding block_end
placed_end = refl

pub twelve-bits : (dat : List ℕ) → twelve_bits dat ≡ true → (k : ℕ) → k < 12 → side_by_side dat 0 2 k < 2 ^ 12
unfolding twelve_bits
twelve-bits dat e k h = ltb-true _ _ (below_at 12 _ e k h)
