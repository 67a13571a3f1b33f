-- `mask::ImageDataMask::put_lengths` meets its contract.
-- Assumes nothing.
use Rattle.mask.proofs.TableWrites.{lengths-put}
use Rattle.mask.proofs.ImageDataMask.put_lengths.Goals as goal

pub returns : goal.returns
returns c =
    lengths-put _ c.args.self _ c.requires
    c.put_be.ensures c.put_be-2.ensures c.put_be-3.ensures c.put_be-4.ensures
