-- Tests that go through a flag.
-- Assumes nothing.
use mathlib.Core.Path.{◌≡◌, sym, ◌∙◌}
use mathlib.Core.Bool.{Bool, true, false}

-- a result that is a definition's value, and the branch on it
pub no : {t u : Bool} → t ≡ u → t ≡ false → u ≡ false
no e h = sym e ∙ h

pub yes : {t u : Bool} → t ≡ u → t ≡ true → u ≡ true
yes e h = sym e ∙ h
