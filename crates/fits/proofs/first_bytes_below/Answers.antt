-- Four rows at once, and the rest.
use Rattle.std.proofs.Common.{true, false, sym, ◌∙◌}
use Rattle.fits.proofs.FirstBytes.{fours_tell}
use Rattle.fits.proofs.first_bytes_below.Goals as goal

pub returns-then-fours_below : goal.returns-then-fours_below
returns-then-fours_below c =
    let a = c.args in
    let e = c.as_chunks.ensures in
    c.all_below-then-fours_below.ensures
    ∙ fours_tell a.size a.limit c.requires.0 c.if-size-ne0.false c.requires.1 a.dat.now true e.front_len e.front e.back (sym c.if-fours_below.true ∙ c.fours_below.ensures)

pub returns-else-fours_below : goal.returns-else-fours_below
returns-else-fours_below c =
    let a = c.args in
    let e = c.as_chunks.ensures in
    c.if-fours_below.false
    ∙ fours_tell a.size a.limit c.requires.0 c.if-size-ne0.false c.requires.1 a.dat.now false e.front_len e.front e.back (sym c.if-fours_below.false ∙ c.fours_below.ensures)
