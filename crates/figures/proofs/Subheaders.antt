-- The reader and the writer of a subheader give what the parts say by hand.
-- Assumes nothing.
use mathlib.Core.Path.{◌≡◌, refl}
use Rattle.common.specs.Questions.{outcome}
use Rattle.common.specs.Over.{over}
use Rattle.common.specs.Lists.{tabulate}
use Rattle.common.specs.Tests.{every, some, within, pick}
use Rattle.widths.specs.Widths.{width_taken, width_bytes, standard, takes}
use Rattle.grid.specs.Sizes.{band_bytes}
use Rattle.grid.specs.Check.{block_side, q1, q3, q4}
use Rattle.digits.specs.Digits.{are_digits, with_digits, digit_bytes}
use Rattle.fields.specs.Fields.{bytes_in}
use Rattle.fields.specs.Named.{same_bytes, is_named, value_of}
use Rattle.fields.specs.Sides.{effective, written_side}
use Rattle.subheader.specs.Subheader.{parts_fit, first_numbers, third_numbers, q23, q24, read_number, read_subheader}
use Rattle.subheader.specs.Subheader.{q24_write, q9_write, write_number, write_subheader}
use Rattle.figures.specs.Subheaders.{read_found, read_by_hand, write_found, write_by_hand}

pub read-by_hand : read_found ≡ read_by_hand
unfolding read_found read_subheader read_number q23 q24 parts_fit first_numbers third_numbers are_digits with_digits bytes_in same_bytes is_named value_of effective outcome every some within pick width_taken width_bytes standard takes tabulate band_bytes block_side q1 q3 q4
read-by_hand = refl

pub write-by_hand : write_found ≡ write_by_hand
unfolding write_found write_subheader write_number q24_write q9_write written_side digit_bytes over read_subheader read_number q23 q24 parts_fit first_numbers third_numbers are_digits with_digits bytes_in same_bytes is_named value_of effective outcome every some within pick width_taken width_bytes standard takes tabulate band_bytes block_side q1 q3 q4
write-by_hand = refl
