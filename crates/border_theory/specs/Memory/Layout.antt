-- The one memory of a building with n places: a list of numbers. The record of place p stands at 4p: its vertex, the place before, the
-- place after, and 1 if its edge is open, else 0. From 4n on stands a stack of free places, and from 5n on the waiting loops, two numbers
-- each, the oldest first: the place where the loop's current edge starts, and how many places it has.
-- Assumes nothing.
use Rattle.std.specs.Prelude.{ℕ, zero, suc, ◌+◌, ◌*◌, List, [], ◌∷◌, get_or, set}
use Rattle.rules.specs.Count.{num, same}
use Rattle.border_theory.specs.Links.Held.{Memory, Arc}

abbrev pub at : List ℕ → ℕ → ℕ
at m i = get_or m i 0

abbrev pub vertex_of : List ℕ → ℕ → ℕ
vertex_of m p = at m (4 * p)

abbrev pub before_of : List ℕ → ℕ → ℕ
before_of m p = at m (4 * p + 1)

abbrev pub after_of : List ℕ → ℕ → ℕ
after_of m p = at m (4 * p + 2)

abbrev pub open_of : List ℕ → ℕ → ℕ
open_of m p = at m (4 * p + 3)

-- of n numbers, four apart, the first at k
unfoldable pub column : List ℕ → ℕ → ℕ → List ℕ
column m k zero = []
column m k (suc n) = at m k ∷ column m (4 + k) n

-- the n records as lists: the vertices, and the links
abbrev pub vertices_of : ℕ → List ℕ → List ℕ
vertices_of n m = column m 0 n

abbrev pub links_of : ℕ → List ℕ → Memory
links_of n m = record { afters = column m 2 n; befores = column m 1 n; opens = column m 3 n }

-- an edge from place x to place y stored, open if o is 1
unfoldable pub edge_stored : List ℕ → ℕ → ℕ → ℕ → List ℕ
edge_stored m x y o = set (set (set m (4 * x + 2) y) (4 * y + 1) x) (4 * x + 3) o

-- edges stored, the last of the list first
unfoldable pub edges_stored : List Arc → List ℕ → List ℕ
edges_stored [] m = m
edges_stored (d ∷ ds) m = edge_stored (edges_stored ds m) d.from d.to (num d.live)

-- how often x is among the first k of the stack of free places
unfoldable pub stacked : ℕ → List ℕ → ℕ → ℕ → ℕ
stacked n m zero x = 0
stacked n m (suc k) x = same x (at m (4 * n + k)) + stacked n m k x

-- a place put on the stack, which has k
abbrev pub freed : ℕ → List ℕ → ℕ → ℕ → List ℕ
freed n m k p = set m (4 * n + k) p

-- j places put on it: place p and those after it
unfoldable pub released : ℕ → List ℕ → ℕ → ℕ → ℕ → List ℕ
released n m k zero p = m
released n m k (suc j) p = released n (freed n m k p) (k + 1) j (after_of m p)

-- the place i places after p
unfoldable pub walked : List ℕ → ℕ → ℕ → ℕ
walked m zero p = p
walked m (suc i) p = walked m i (after_of m p)

-- a waiting loop put at l; and k of them moved down by one, to l and on
abbrev pub waits : ℕ → List ℕ → ℕ → ℕ → ℕ → List ℕ
waits n m l p k = set (set m (5 * n + 2 * l) p) (5 * n + 2 * l + 1) k

unfoldable pub moved_down : ℕ → List ℕ → ℕ → ℕ → List ℕ
moved_down n m l zero = m
moved_down n m l (suc k) = moved_down n (waits n m l (at m (5 * n + 2 * (l + 1))) (at m (5 * n + 2 * (l + 1) + 1))) (l + 1) k
