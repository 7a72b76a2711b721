-- Loops (a term of the rules) as rings: lists of nodes, the node where the current edge starts first.
-- Assumes nothing.
use Rattle.std.specs.Prelude.{ℕ, zero, suc, ◌+◌, Bool, true, false, List, [], ◌∷◌, ◌++◌, length}

-- a place of a loop: its vertex, and whether the edge to the next place is open or marked as border
pub data Node : Type 0 where
  opened marked : ℕ → Node

abbrev pub Ring : Type 0
Ring = List Node

abbrev pub vertex : Node → ℕ
vertex (opened v) = v
vertex (marked v) = v

abbrev pub is_open : Node → Bool
is_open (opened v) = true
is_open (marked v) = false

-- the first edge is open; all of them are
abbrev pub first_open : List Node → Bool
first_open [] = false
first_open (p ∷ ps) = is_open p

unfoldable pub all_open : List Node → Bool
all_open [] = true
all_open (opened v ∷ ps) = all_open ps
all_open (marked v ∷ ps) = false

-- the vertex where a run of nodes starts, or else b
abbrev pub start_or : ℕ → List Node → ℕ
start_or b [] = b
start_or b (p ∷ ps) = vertex p

-- the vertex i nodes after the first
unfoldable pub vertex_at : List Node → ℕ → ℕ
vertex_at [] i = 0
vertex_at (p ∷ ps) zero = vertex p
vertex_at (p ∷ ps) (suc i) = vertex_at ps i

-- the last edge is open; the last vertex; the nodes before the last
unfoldable pub last_open : List Node → Bool
last_open [] = false
last_open (p ∷ []) = is_open p
last_open (p ∷ (q ∷ ps)) = last_open (q ∷ ps)

unfoldable pub last_vertex : List Node → ℕ
last_vertex [] = 0
last_vertex (p ∷ []) = vertex p
last_vertex (p ∷ (q ∷ ps)) = last_vertex (q ∷ ps)

unfoldable pub front : List Node → List Node
front [] = []
front (p ∷ []) = []
front (p ∷ (q ∷ ps)) = p ∷ front (q ∷ ps)

-- the ring ps ++ back, turned to the first open edge of ps; empty if none of ps is open
unfoldable pub onward : List Node → List Node → Ring
onward back [] = []
onward back (opened v ∷ ps) = opened v ∷ (ps ++ back)
onward back (marked v ∷ ps) = onward (back ++ (marked v ∷ [])) ps

-- of a run of nodes, where m tells whether the edge before them is marked: a place between two marked edges leaves its loop
unfoldable pub reached : List Node → Bool → List Node
reached [] m = []
reached (opened v ∷ ps) m = opened v ∷ reached ps false
reached (marked v ∷ ps) true = reached ps true
reached (marked v ∷ ps) false = marked v ∷ reached ps true

-- a ring whose first edge is open, without the places that no open edge enters or leaves: their neighbours are joined by a
-- marked link, which is no edge of the model
abbrev pub shown : Ring → Ring
shown [] = []
shown (p ∷ ps) = p ∷ reached ps false

-- all places of the loops
unfoldable pub places : List Ring → ℕ
places [] = 0
places (l ∷ ls) = length l + places ls

-- one of the waiting loops, counted from 0, the latest first; and the others
unfoldable pub loop_at : List Ring → ℕ → Ring
loop_at [] n = []
loop_at (w ∷ ws) zero = w
loop_at (w ∷ ws) (suc n) = loop_at ws n

unfoldable pub without : List Ring → ℕ → List Ring
without [] n = []
without (w ∷ ws) zero = ws
without (w ∷ ws) (suc n) = w ∷ without ws n
