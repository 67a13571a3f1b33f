-- `samples::read::read_samples`: samples of whole bytes start at whole bytes.
-- Assumes nothing.
use Rattle.samples.proofs.Rows.{bytes_in_image, read_as_bytes}
use Rattle.samples.proofs.read.read_samples.Goals as goal

pub gather-requires-clause-src_holds : goal.gather-requires-clause-src_holds
gather-requires-clause-src_holds c =
    bytes_in_image c.args.row _ c.bytes.ensures c.if-row.true c.requires.whole_bytes _ c.requires.src_holds

pub returns-then-row : goal.returns-then-row
returns-then-row c =
    read_as_bytes c.args.row _ c.bytes.ensures c.if-row.true c.requires.whole_bytes _ _ c.gather.ensures
