-- `mask::ImageDataMask::to_bytes` meets its contract: each call puts its bytes right after those before.
-- Assumes nothing.
use Rattle.std.proofs.Common.{◌≡◌, ℕ, ◌+◌, ◌*◌, ◌≤◌, refl, sym, arith}
use Rattle.widths.specs.declared.Widths.{Widths}
use Rattle.grid.specs.declared.Grid.{Grid}
use Rattle.mask.specs.declared.ImageDataMask.{ImageDataMask}
use Rattle.mask.specs.Table.{code_bytes}
use Rattle.mask.specs.Mask.{mask_write_number, written_of, not_written, written_with, to_bytes}
use Rattle.mask.proofs.Numbers.{mask_write-facts}
use Rattle.mask.proofs.Refusals.{refused-outcome}
use Rattle.mask.proofs.TableWrites.{table-room, table-put}
use Rattle.mask.proofs.ImageDataMask.to_bytes.Goals as goal

-- the code is short, and an accepted write's output holds the table
room : (ws : Widths) (g : Grid) (mask : ImageDataMask) (n m l : ℕ) → 0 ≡ mask_write_number ws g mask n m l
    → let code = code_bytes mask.pad_pixel_code_length in (code ≤ 4) × (10 + code + n * 4 + m * 4 ≤ l)
room ws g mask n m l e = table-room ws g mask n m l (mask_write-facts ws g mask n m l (sym e))

pub returns-in_err-size : goal.returns-in_err-size
unfolding to_bytes
returns-in_err-size c =
    let out = c.args.out.now in
    refused-outcome (λ r. written_with (written_of r) out) _ (λ n. written_with (not_written n) out) (λ e. refl) _ _
    c.from_residual.ensures.1 c.in_err-size.ensures.number

pub put_lengths-requires : goal.put_lengths-requires
put_lengths-requires c = omega (arith, room _ _ _ _ _ _ c.in_ok-size.ensures.number)

pub put_be-requires : goal.put_be-requires
put_be-requires c = omega (arith, room _ _ _ _ _ _ c.in_ok-size.ensures.number)

pub put_offsets-requires : goal.put_offsets-requires
put_offsets-requires c = omega (arith, room _ _ _ _ _ _ c.in_ok-size.ensures.number)

pub put_offsets-requires-2 : goal.put_offsets-requires-2
put_offsets-requires-2 c = omega (arith, room _ _ _ _ _ _ c.in_ok-size.ensures.number)

pub returns : goal.returns
returns c =
    let a = c.args in
    table-put a.widths.now a.grid a.self a.block_offsets.now a.pad_pixel_offsets.now a.out.now
    (sym c.in_ok-size.ensures.number) c.in_ok-size.ensures.size c.code_bytes-code.ensures c.put_lengths.ensures
    c.put_be.ensures c.put_offsets.ensures c.put_offsets-2.ensures
