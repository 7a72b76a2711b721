-- The places of a ring that an open edge enters or leaves: what is left when the others have left their loop.
-- Assumes nothing.
use Rattle.std.specs.Prelude.{List, [], ◌∷◌}
use Rattle.rules.specs.Ring.{Ring, shown}

abbrev pub shown_all : List Ring → List Ring
shown_all [] = []
shown_all (l ∷ ls) = shown l ∷ shown_all ls
