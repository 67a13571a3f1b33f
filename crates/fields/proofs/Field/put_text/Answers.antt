-- The text stands where the field does.
use Rattle.std.proofs.Common.{ap, ◌∙◌}
use lib.Seq.{take-length}
use Rattle.common.specs.Over.{over}
use Rattle.fields.proofs.Field.put_text.Goals as goal

pub returns : goal.returns
returns c =
    let a = c.args in
    c.copy.ensures ∙ ap (over a.part.now a.self.at) (take-length a.text.now)
