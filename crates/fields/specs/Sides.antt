-- A block's side in its field, where zero stands for the picture's own.
-- Assumes nothing.
use Rattle.std.specs.Prelude.{ℕ, [], ◌∷◌, leb, eqb}
use Rattle.common.specs.Tests.{every, pick}

-- the side of a block, from its field: zero with one block along the side stands for the picture's
unfoldable pub effective : ℕ → ℕ → ℕ → ℕ
effective size blocks side = pick (every (eqb size 0 ∷ eqb blocks 1 ∷ [])) side size

-- the field of a block's side: zero above 8,192
unfoldable pub written_side : ℕ → ℕ
written_side size = pick (leb size 8_192) size 0
