-- Each digit gives a number of few digits.
use Rattle.std.proofs.Common.{◌<◌, arith, rules}
use Rattle.std.proofs.lemmas.Fn.{fold_same}
use Rattle.gdal_images.proofs.header.field.Goals as goal

pub returns : goal.returns
returns c =
    let ran = c.fold.ensures.ran in
    fold_same _ (λ xs n. n < 20000000000) _ (λ xs a x b f' j k. search rules) ran.0 _ _ ran.1 (omega arith) ran.3
