-- `mask::parse::is_record_length` meets its contract.
-- Assumes nothing.
use borrow.Author.Tests.{eq-eqb, ne_eqb}
use Rattle.common.specs.Tests.{some}
use Rattle.common.proofs.Tests.{some-last}
use Rattle.mask.specs.Mask.{is_record_length}
use Rattle.mask.proofs.parse.is_record_length.Goals as goal

pub returns-then-n-eq0 : goal.returns-then-n-eq0
unfolding is_record_length some
returns-then-n-eq0 c = rw (eq-eqb _ 0 c.if-n-eq0.true)

pub returns-else-n-eq0 : goal.returns-else-n-eq0
unfolding is_record_length some
returns-else-n-eq0 c = rw (ne_eqb _ 0 c.if-n-eq0.false) (some-last _)
