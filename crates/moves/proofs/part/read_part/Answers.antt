-- `moves::part::read_part` meets its contract.
-- Assumes nothing.
use Rattle.std.proofs.Common.{◌<◌, arith}
use Rattle.layout.specs.Bands.{bands_in, band_count}
use Rattle.layout.proofs.Places.{sample-size}
use Rattle.moves.proofs.Putting.{puts_none}
use Rattle.moves.proofs.Answers.{answer-done}
use Rattle.moves.proofs.Pieces.{planes-fit}
use Rattle.moves.proofs.part.read_part.Goals as goal

pub returns-then-band_count-eq0 : goal.returns-then-band_count-eq0
returns-then-band_count-eq0 c =
    let t = c.requires in
    answer-done _ _ _ _ _ _ (sample-size _ t.accepted).some t.to_rows t.to_columns
    (puts_none _ {some = λ k i j. ⊥} _ (λ k i j h. h))
    (λ k i j a. omega (arith, a.in_b, c.band_count.ensures, c.if-band_count-eq0.true))

pub in_planes-requires : goal.in_planes-requires
in_planes-requires c =
    let a = c.args in
    let some : 0 < band_count a.layout.bands (bands_in a.asked)
    = omega (arith, c.band_count.ensures, c.if-band_count-eq0.false) in
    rw c.sample_bytes.ensures (planes-fit _ _ _ _ _ _ _ c.requires (omega arith) some)
