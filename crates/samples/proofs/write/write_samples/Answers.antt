-- `samples::write::write_samples`: samples of whole bytes start at whole bytes.
-- Assumes nothing.
use Rattle.samples.proofs.Rows.{bytes_in_image, written_as_bytes}
use Rattle.samples.proofs.write.write_samples.Goals as goal

pub scatter-requires-clause-image_holds : goal.scatter-requires-clause-image_holds
scatter-requires-clause-image_holds c =
    bytes_in_image c.args.row _ c.bytes.ensures c.if-row.true c.requires.whole_bytes _ c.requires.image_holds

pub returns-then-row : goal.returns-then-row
returns-then-row c =
    written_as_bytes c.args.row _ c.bytes.ensures c.if-row.true c.requires.whole_bytes _ _ c.scatter.ensures
