-- Runs of nodes in which no two neighbours are marked: a place between two marked edges has left its loop.
-- Assumes nothing.
use Rattle.std.specs.Prelude.{Bool, true, false, List, [], ◌∷◌}
use Rattle.rules.specs.Ring.{Node, opened, marked}

-- m tells whether the edge before the run is marked
abbrev pub Spaced : List Node → Bool → Type 0
Spaced [] m = Unit {0}
Spaced (opened v ∷ ps) m = Spaced ps false
Spaced (marked v ∷ ps) true = ⊥
Spaced (marked v ∷ ps) false = Spaced ps true
