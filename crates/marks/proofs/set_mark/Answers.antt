-- `marks::set_mark` meets its contract: `|` with a power of two sets that bit.
-- Assumes nothing.
use Rattle.marks.proofs.Words.{set_word}
use Rattle.marks.proofs.set_mark.Goals as goal

pub returns : goal.returns
returns c = set_word c.args.marks.now c.args.i
