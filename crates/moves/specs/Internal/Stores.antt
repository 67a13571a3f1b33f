-- A block's samples stored where its layout has them.
-- Assumes nothing.
use Rattle.std.specs.Prelude.{ℕ, suc, ◌+◌, ◌-◌, ◌*◌, ◌%◌, ◌^◌, ◌≤◌, ◌<◌, ◌≡◌, Bool, true, false, List, length, replicate}
use Rattle.bits.specs.Bits.{bit_of, bit_at, put_bits, be_at, Bytes}
use Rattle.common.specs.Over.{over}
use Rattle.common.specs.Turns.{iter}
use Rattle.samples.specs.Internal.Samples.{SamplesFit}
use Rattle.layout.specs.declared.BlockLayout.{BlockLayout}
use Rattle.layout.specs.Internal.Layout.{sample_bytes, byte_multiple, place, block_end, Sample, Sound}
use Rattle.moves.specs.Internal.Puts.{Samples, Target, Puts}

-- where sample (b, r, c) starts in planes of the block's samples
abbrev pub data_index : BlockLayout → ℕ → ℕ → ℕ → ℕ
data_index l b r c = ((b * l.rows + r) * l.columns + c) * sample_bytes l

-- sample (b, r, c) of planes: the low NBPP bits of its s big-endian bytes
unfoldable pub data_at : BlockLayout → List ℕ → ℕ → ℕ → ℕ → ℕ
data_at l dat b r c = be_at dat (data_index l b r c) (sample_bytes l) % 2 ^ l.nbpp

-- number v b r c put at the place of each actual sample (b, r, c)
abbrev pub put_all : BlockLayout → (ℕ → ℕ → ℕ → ℕ) → List ℕ → List ℕ
put_all l v image =
    iter l.rows (λ r im. iter l.bands (λ b im. iter l.columns (λ c im. put_bits im (place l b r c) l.nbpp
    (v b r c)) im) im) image

-- each actual sample of planes put at its place
unfoldable pub put_block : BlockLayout → List ℕ → List ℕ → List ℕ
put_block l dat image = put_all l (data_at l dat) image

-- the bytes of each run cleared
unfoldable pub clear_runs : BlockLayout → List ℕ → List ℕ
clear_runs l image = iter l.bands (λ i im. over im (l.first + i * l.apart) (replicate l.run_bytes 0)) image

-- at byte multiples a store touches only its samples' bytes; at other widths the runs' further bits are zero after it
unfoldable pub store_by : Bool → BlockLayout → List ℕ → List ℕ → List ℕ
store_by true l dat image = put_block l dat image
store_by false l dat image = put_block l dat (clear_runs l image)

abbrev pub store_block : BlockLayout → List ℕ → List ℕ → List ℕ
store_block l dat image = store_by (byte_multiple l) l dat image

-- bit i, from the high end, of an actual sample
pub record SampleBit (l : BlockLayout) (b r c i : ℕ) : Type 0 where
  pub sample : Sample l b r c
  pub in_i : i < l.nbpp

-- a layout, planes that are as long as its samples and hold no further bits, and bytes that reach the block's end
pub record Writable (l : BlockLayout) (dat image : List ℕ) : Type 0 where
  pub accepted : Sound l
  pub data_is : length dat ≡ l.bands * l.rows * l.columns * sample_bytes l
  pub image_holds : block_end l ≤ length image
  -- at widths that are no byte multiples no sample has a bit above NBPP
  pub fits : l.nbpp < 8 * sample_bytes l
      → SamplesFit dat 0 (sample_bytes l) l.nbpp (l.bands * l.rows * l.columns)

-- the same without the bytes: what can be stored, wherever
pub record Storable (l : BlockLayout) (dat : List ℕ) : Type 0 where
  pub accepted : Sound l
  pub data_is : length dat ≡ l.bands * l.rows * l.columns * sample_bytes l
  pub fits : l.nbpp < 8 * sample_bytes l
      → SamplesFit dat 0 (sample_bytes l) l.nbpp (l.bands * l.rows * l.columns)

-- ---- on the way

-- the block's samples as they go to the image, bit by bit from the high end
abbrev pub image_target : BlockLayout → (ℕ → ℕ → ℕ → ℕ) → Target
image_target l v =
    record {
      bands = l.bands;
      rows = l.rows;
      columns = l.columns;
      wide = l.nbpp;
      unit = bit_at;
      at = place l;
      value = λ b r c i. bit_of (v b r c) (l.nbpp - suc i);
      keeps = Bytes;
    }

-- some samples of planes put
abbrev pub SomePut : BlockLayout → List ℕ → Samples → List ℕ → List ℕ → Type 0
SomePut l dat some image after = Puts (image_target l (data_at l dat)) some image after
