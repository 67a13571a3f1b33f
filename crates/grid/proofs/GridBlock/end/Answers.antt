-- `grid::GridBlock::end` meets its contract.
-- Assumes nothing.
use Rattle.std.proofs.Common.{sym, ◌∙◌}
use Rattle.grid.proofs.Accepted.{facts}
use Rattle.grid.proofs.BlockLayouts.{end_is, sound}
use Rattle.grid.proofs.GridBlock.end.Goals as goal

pub end-requires : goal.end-requires
end-requires c = let b = c.args.self in rw c.layout.ensures (sound _ (facts _ b.grid.accepted) _ _ b.inside)

pub returns : goal.returns
returns c =
    let b = c.args.self in
    rw c.layout.ensures at c.end.ensures ∙ sym (end_is _ (facts _ b.grid.accepted) _ _ b.inside)
