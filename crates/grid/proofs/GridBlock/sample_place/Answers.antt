-- `grid::GridBlock::sample_place` meets its contract.
-- Assumes nothing.
use Rattle.std.proofs.Common.{sym, ◌∙◌}
use Rattle.grid.proofs.Accepted.{facts}
use Rattle.grid.proofs.BlockLayouts.{place_is, sound}
use Rattle.grid.proofs.GridBlock.sample_place.Goals as goal

pub sample_place-requires-clause-sound : goal.sample_place-requires-clause-sound
sample_place-requires-clause-sound c =
    let b = c.args.self in rw c.layout.ensures (sound _ (facts _ b.grid.accepted) _ _ b.inside)

pub returns : goal.returns
returns c =
    let t = c.requires in
    rw c.layout.ensures at c.sample_place.ensures ∙ sym (place_is _ _ _ _ _ _ t.in_r t.in_c)
