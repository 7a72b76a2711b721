-- The vertices of the loops are below a number.
-- Assumes nothing.
use Rattle.std.specs.Prelude.{ℕ, ◌<◌, List, [], ◌∷◌}
use Rattle.rules.specs.Ring.{Node, Ring, vertex}

abbrev pub NodesBelow : ℕ → List Node → Type 0
NodesBelow u [] = Unit {0}
NodesBelow u (p ∷ ps) = (vertex p < u) × NodesBelow u ps

abbrev pub LoopsBelow : ℕ → List Ring → Type 0
LoopsBelow u [] = Unit {0}
LoopsBelow u (l ∷ ls) = NodesBelow u l × LoopsBelow u ls
