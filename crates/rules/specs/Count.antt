-- How often a vertex or a directed edge occurs, and how many different ones there are.
-- Assumes nothing.
use Rattle.std.specs.Prelude.{ℕ, ◌+◌, Bool, true, false, ◌&&◌, List, [], ◌∷◌, eqb}
use Rattle.rules.specs.declared.Triangle.{Triangle}
use Rattle.rules.specs.Triangle.{Edge, edges_of}

abbrev pub num : Bool → ℕ
num true = 1
num false = 0

-- 1 if the two numbers are equal, else 0
unfoldable pub same : ℕ → ℕ → ℕ
same v x = num (eqb v x)

-- 1 if the directed edges x→y and p→q are equal, else 0
unfoldable pub hit : ℕ → ℕ → ℕ → ℕ → ℕ
hit x y p q = num (eqb x p && eqb y q)

-- how often a number, or a directed edge, occurs
unfoldable pub occurs : ℕ → List ℕ → ℕ
occurs v [] = 0
occurs v (x ∷ xs) = same v x + occurs v xs

unfoldable pub count : ℕ → ℕ → List Edge → ℕ
count x y [] = 0
count x y (d ∷ ds) = hit x y d.from d.to + count x y ds

-- how often x→y is used by the triangles
abbrev pub uses : ℕ → ℕ → List Triangle → ℕ
uses x y ts = count x y (edges_of ts)

-- neither x→y nor its opposite is among the edges
abbrev pub unjoined : ℕ → ℕ → List Edge → Bool
unjoined x y ds = eqb (count x y ds) 0 && eqb (count y x ds) 0

-- the different numbers: each is counted where it stands last
unfoldable pub different : List ℕ → ℕ
different [] = 0
different (x ∷ xs) = num (eqb (occurs x xs) 0) + different xs

-- the pairs of vertices that are joined, either way round: each is counted where it stands last
unfoldable pub pairs : List Edge → ℕ
pairs [] = 0
pairs (d ∷ ds) = num (unjoined d.from d.to ds) + pairs ds
