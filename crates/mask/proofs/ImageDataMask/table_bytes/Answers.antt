-- `mask::ImageDataMask::table_bytes` meets its contract.
-- Assumes nothing.
use Rattle.std.proofs.Common.{◌+◌, ◌*◌, ◌≤◌, arith}
use Rattle.mask.specs.Table.{table_size}
use Rattle.mask.proofs.Fields.{record_bytes-le}
use Rattle.mask.proofs.ImageDataMask.table_bytes.Goals as goal

-- the records' bytes
records-fit : (c : goal.After-record_count)
    → let s = c.args.self in
    c.record_count.result * (s.block_mask_record_length + s.pad_pixel_mask_record_length)
    ≤ 9_997_900_119_999 * 131_070
records-fit c =
    record_bytes-le _ _ _ _ c.args.grid.accepted c.record_count.ensures (omega arith) (omega arith)

pub overflow_mul-result : goal.overflow_mul-result
overflow_mul-result c = omega (arith, records-fit c)

pub overflow_add-result-3 : goal.overflow_add-result-3
overflow_add-result-3 c = omega (arith, records-fit c)

pub returns : goal.returns
unfolding table_size
returns c = rw (c.code_bytes-code.ensures, c.record_count.ensures)
