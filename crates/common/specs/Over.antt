-- A list with a run of its elements replaced: how a contract gives the whole content of a lent buffer.
-- Assumes nothing.
use Rattle.std.specs.Prelude.{List, ◌++◌, ℕ, ◌+◌, length, take, drop}

-- d with vs in the place of its elements from index o on
unfoldable pub over {ℓ} : {A : Type ℓ} → List A → ℕ → List A → List A
over d o vs = take o d ++ vs ++ drop (o + length vs) d
