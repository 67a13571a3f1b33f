-- `mask::ImageDataMask::has_record_lengths` meets its contract.
-- Assumes nothing.
use Rattle.std.proofs.Common.{◌∙◌}
use Rattle.common.specs.Tests.{every}
use Rattle.common.proofs.Tests.{every-last}
use Rattle.mask.proofs.ImageDataMask.has_record_lengths.Goals as goal

pub returns-then-is_record_length : goal.returns-then-is_record_length
unfolding every
returns-then-is_record_length c =
    rw (← c.if-is_record_length.ensures) (c.is_record_length-then-is_record_length.ensures ∙ every-last _)

pub returns-else-is_record_length : goal.returns-else-is_record_length
unfolding every
returns-else-is_record_length c = rw (← c.if-is_record_length.ensures) c.if-is_record_length.false
