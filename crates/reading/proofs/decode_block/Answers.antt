-- `reading::decode_block` meets its contract: the planes of the block go to the front of the output.
-- Assumes nothing.
use Rattle.std.proofs.Common.{sym}
use Rattle.std.proofs.lemmas.Result.{err_from_is_err_and}
use Rattle.common.proofs.Questions.{refused-by}
use Rattle.refusals.proofs.Numbers.{number-some}
use Rattle.layout.specs.Bands.{bands_in}
use Rattle.calls.specs.Reads.{no_shape, filled_with, block_read}
use Rattle.reading.proofs.BlockNumbers.{read-facts}
use Rattle.reading.proofs.BlockReads.{block-readable, block-done}
use Rattle.reading.proofs.decode_block.Goals as goal

pub returns-in_err-block : goal.returns-in_err-block
unfolding block_read
returns-in_err-block c =
    let p = err_from_is_err_and c.from_residual.result c.from_residual.ensures.1 in
    rw (p.1, p.2) (refused-by _ (λ n. filled_with (no_shape n) _) c.in_err-block.ensures.number (number-some _))

pub read_planes-requires : goal.read_planes-requires
read_planes-requires c =
    let b = c.in_ok-block.ensures.block in
    let facts = read-facts _ _ _ _ _ _ _ _ (sym c.in_ok-block.ensures.number) in
    rw (c.layout-layout.ensures, b.0, b.1, b.2) (block-readable _ _ _ _ _ _ _ facts)

pub returns : goal.returns
returns c =
    let a = c.args in
    let b = c.in_ok-block.ensures.block in
    let accepted = sym c.in_ok-block.ensures.number in
    let read = rw (c.layout-layout.ensures, b.0, b.1, b.2) at c.read_planes.ensures in
    rw (c.band_count.ensures, c.layout-layout.ensures, b.0, b.1, b.2)
    (block-done a.widths.now a.grid a.image.now a.block_row a.block_col a.resolution_level (bands_in a.asked) a.out.now
    accepted (read-facts _ _ _ _ _ _ _ _ accepted) read)
