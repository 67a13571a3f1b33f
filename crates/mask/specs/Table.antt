-- The image data mask table, big-endian: IMDATOFF 4 bytes, BMRLNTH 2, TMRLNTH 2, TPXCDLNTH 2, TPXCD in
-- ceil(TPXCDLNTH / 8) bytes, block records (BMR), pad records (TMR).
-- Assumes nothing.
use Rattle.std.specs.Prelude.{ℕ, ◌+◌, ◌*◌, ◌/◌, List, ◌++◌, length, get_or}
use Rattle.common.specs.Tests.{pick}
use Rattle.common.specs.Rounding.{ceil_div}
use Rattle.bits.specs.Bits.{be_at, be_bytes}
use Rattle.bits.specs.Values.{values}
use Rattle.layout.specs.Order.{bands_apart}
use Rattle.grid.specs.declared.Grid.{Grid}
use Rattle.grid.specs.Sizes.{blocks, block_index}
use Rattle.mask.specs.declared.ImageDataMask.{ImageDataMask}

-- ---- records

-- how many records the table has of each kind that it has at all: one a block, in S one a block and band
unfoldable pub records : Grid → ℕ
records g = pick (bands_apart g.imode) (blocks g * g.bands) (blocks g)

-- the record that lookup takes for a band of a block; in S it is the Rust's index + band
unfoldable pub lookup_record : Grid → ℕ → ℕ → ℕ → ℕ
lookup_record g row column band = pick (bands_apart g.imode) (block_index g row column + band) (block_index g row column)

-- the block whose record k is filled by the mask from marks; in S record index × bands + band is the block's
unfoldable pub filled_block : Grid → ℕ → ℕ
filled_block g k = pick (bands_apart g.imode) (k / g.bands) k

-- ---- bytes

-- the bytes of a pad code of so many bits
abbrev pub code_bytes : ℕ → ℕ
code_bytes n = ceil_div n 8

-- the size of a table with these record lengths and code length
unfoldable pub table_size : Grid → ℕ → ℕ → ℕ → ℕ
table_size g block_length pad_length code_length = 10 + code_bytes code_length + records g * (block_length + pad_length)

-- the size of the table that a mask is the header of
abbrev pub mask_size : Grid → ImageDataMask → ℕ
mask_size g mask =
    table_size g
    mask.block_mask_record_length
    mask.pad_pixel_mask_record_length
    mask.pad_pixel_code_length

-- the header of a table, with this pad code
abbrev pub header_with : List ℕ → ℕ → ImageDataMask
header_with table code =
    record {
      image_data_offset = be_at table 0 4;
      block_mask_record_length = be_at table 4 2;
      pad_pixel_mask_record_length = be_at table 6 2;
      pad_pixel_code_length = be_at table 8 2;
      pad_pixel_code = code;
    }

-- the header and the code of a table
abbrev pub header : List ℕ → ImageDataMask
header table = header_with table (be_at table 10 (code_bytes (be_at table 8 2)))

-- block record k of a table
unfoldable pub block_record : List ℕ → ℕ → ℕ
block_record table k = be_at table (10 + code_bytes (be_at table 8 2) + k * 4) 4

-- the bytes before the code, with this number in IMDATOFF
abbrev pub length_bytes : ℕ → ImageDataMask → List ℕ
length_bytes offset mask =
    be_bytes 4 offset
    ++ be_bytes 2 mask.block_mask_record_length
    ++ be_bytes 2 mask.pad_pixel_mask_record_length
    ++ be_bytes 2 mask.pad_pixel_code_length

-- the bytes of a list of offsets
abbrev pub offset_bytes : List ℕ → List ℕ
offset_bytes offsets = values (λ k. get_or offsets k 0) 4 (length offsets)

-- the bytes of a table with its own size in IMDATOFF, from a mask and its two lists of offsets
unfoldable pub table_bytes : Grid → ImageDataMask → List ℕ → List ℕ → List ℕ
table_bytes g mask block_offsets pad_offsets =
    length_bytes (mask_size g mask) mask
    ++ be_bytes (code_bytes mask.pad_pixel_code_length) mask.pad_pixel_code
    ++ offset_bytes block_offsets
    ++ offset_bytes pad_offsets
