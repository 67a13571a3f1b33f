-- The digits stand where the field does.
use Rattle.std.proofs.Common.{◌≡◌, ◌+◌, ◌-◌, length, take, drop, ap, ◌∙◌, arith}
use Rattle.common.specs.Over.{over}
use Rattle.digits.specs.Digits.{digit_bytes}
use Rattle.digits.proofs.Digits.{length-digit_bytes}
use Rattle.fields.specs.Fields.{bytes_in}
use Rattle.fields.proofs.Entries.{length-bytes_in, put-part}
use Rattle.fields.proofs.Field.put_number.Goals as goal

pub returns : goal.returns
unfolding bytes_in
returns c =
    let f = c.args.self in
    let d = c.args.part.now in
    let e : f.at + f.size - f.at ≡ f.size = omega arith in
    let n : length (take (f.at + f.size - f.at) (drop f.at d)) ≡ f.size = rw e (length-bytes_in d f c.requires) in
    let v : c.put_digits.new.out ≡ digit_bytes f.size c.args.value = rw (n, c.from.ensures) at c.put_digits.ensures in
    let l = ap length v ∙ length-digit_bytes f.size c.args.value in
    rw e (put-part d f.at f.size c.put_digits.new.out l ∙ ap (over d f.at) v)
