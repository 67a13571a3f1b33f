-- `mask::lookup::lookup_record` meets its contract.
-- Assumes nothing.
use Rattle.mask.specs.Table.{lookup_record}
use Rattle.mask.proofs.lookup.lookup_record.Goals as goal

pub returns : goal.returns
unfolding lookup_record
returns c = rw (c.pick.ensures, c.bands_apart-apart.ensures, c.index-index.ensures)
