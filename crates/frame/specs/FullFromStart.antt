-- After a list with an accepted re-lay, grid, image and marks are as with full from the start.
-- Assumes nothing.
use Rattle.std.specs.Prelude.{◌≡◌, true, List, [], ◌∷◌}
use Rattle.grid.specs.declared.EdgeRule.TheVariants.{Full}
use Rattle.frame.specs.Call.{Call, write, skip, progress, finish, relay}
use Rattle.frame.specs.Calls.{Start, Accepts, after, is_relaid}
use Rattle.frame.specs.EitherRule.{start_under}

-- the other calls of a list
unfoldable pub without_relays : List Call → List Call
without_relays [] = []
without_relays (write ws n m row column bands rows columns dat ∷ cs) =
    write ws n m row column bands rows columns dat ∷ without_relays cs
without_relays (skip ws n m row column ∷ cs) = skip ws n m row column ∷ without_relays cs
without_relays (progress ws m ∷ cs) = progress ws m ∷ without_relays cs
without_relays (finish ws n m ∷ cs) = finish ws n m ∷ without_relays cs
without_relays (relay ws n m scratch ∷ cs) = without_relays cs

-- for every accepted start and list of calls: the grid, every byte of the image, surplus included, and every mark word;
-- so every window too
abbrev pub FullFromStart : Type 0
FullFromStart =
    (s : Start) (cs : List Call) → Accepts s → is_relaid s cs ≡ true
    → (after s cs).state ≡ (after (start_under Full s) (without_relays cs)).state
