-- A mask table that is parsed is accepted by the write and comes back, and one that is written is parsed again, with
-- the same table of widths.
-- Assumes nothing.
use Rattle.std.specs.Prelude.{ℕ, ◌+◌, ◌*◌, ◌≤◌, ◌≡◌, List, length, take}
use Rattle.common.specs.Lists.{tabulate}
use Rattle.common.specs.Over.{over}
use Rattle.bits.specs.Bits.{Bytes, be_at}
use Rattle.widths.specs.declared.Widths.{Widths}
use Rattle.grid.specs.declared.Grid.{Grid}
use Rattle.mask.specs.declared.ImageDataMask.{ImageDataMask}
use Rattle.mask.specs.Table.{code_bytes, mask_size}
use Rattle.mask.specs.Mask.{entries, parse, written_with, to_bytes}

-- the n four-byte numbers of a table from an index on
abbrev pub own_records : List ℕ → ℕ → ℕ → List ℕ
own_records table at n = tabulate n (λ k. be_at table (at + k * 4) 4)

-- the block records and the pad records of a table; none for record length 0
abbrev pub own_block_records : Grid → List ℕ → List ℕ
own_block_records g table = own_records table (10 + code_bytes (be_at table 8 2)) (entries g (be_at table 4 2))

abbrev pub own_pad_records : Grid → List ℕ → List ℕ
own_pad_records g table =
    own_records table (10 + code_bytes (be_at table 8 2) + entries g (be_at table 4 2) * 4) (entries g (be_at table 6 2))

-- a table that parse accepts, with the bytes used in IMDATOFF, written again with its own records to an output that
-- holds it, gives its used bytes back
abbrev pub ParsedComesBack : Type 0
ParsedComesBack =
    (ws : Widths) (g : Grid) (table out : List ℕ) → Bytes table → (parse ws g table).number ≡ 0
    → (parse ws g table).mask.image_data_offset ≡ (parse ws g table).used → (parse ws g table).used ≤ length out
    → to_bytes ws g (parse ws g table).mask (own_block_records g table) (own_pad_records g table) out
    ≡ written_with (record { number = 0; bytes = (parse ws g table).used })
    (over out 0 (take (parse ws g table).used table))

-- a mask as it is read from the table that it was written to: IMDATOFF is the table's size
abbrev pub written_mask : Grid → ImageDataMask → ImageDataMask
written_mask g mask =
    record {
      image_data_offset = mask_size g mask;
      block_mask_record_length = mask.block_mask_record_length;
      pad_pixel_mask_record_length = mask.pad_pixel_mask_record_length;
      pad_pixel_code_length = mask.pad_pixel_code_length;
      pad_pixel_code = mask.pad_pixel_code;
    }

-- the output of an accepted write is parsed to the mask that was written
abbrev pub WrittenComesBack : Type 0
WrittenComesBack =
    (ws : Widths) (g : Grid) (mask : ImageDataMask) (block_offsets pad_offsets out : List ℕ)
    → (to_bytes ws g mask block_offsets pad_offsets out).answer.number ≡ 0
    → parse ws g (to_bytes ws g mask block_offsets pad_offsets out).out
    ≡ record { number = 0; mask = written_mask g mask; used = mask_size g mask }
