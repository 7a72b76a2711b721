-- Which triangle was built: the input numbers of the built triangles, in building order.
-- Assumes nothing.
use Rattle.std.specs.Prelude.{ℕ, zero, suc, List, [], ◌∷◌, ◌++◌}
use Rattle.rules.specs.declared.Triangle.{Triangle}
use Rattle.rules.specs.Across.{Across}
use Rattle.rules.specs.Across.{Found, Nothing}
use Rattle.rules.specs.Across.{across}
use Rattle.rules.specs.Ring.{Ring, vertex, start_or}
use Rattle.rules.specs.Choice.{Packing, ended, refuses, takes, choose}

-- the number of the triangle found, if there is one
abbrev pub number_found : Across → List ℕ
number_found Nothing = []
number_found (Found n k c) = n ∷ []

-- the number of the triangle that is built next, from the triangles listed, the loops and the triangles left: a start builds the first of
-- those left, known by its edge p→q, which no other triangle has in a list that passes 5; any other operation but border the triangle
-- across the current edge
abbrev pub next_number_in : List Triangle → List Ring → List Triangle → List ℕ
next_number_in mesh [] [] = []
next_number_in mesh [] (t ∷ ts) = number_found (across t.p t.q mesh)
next_number_in mesh ([] ∷ ws) ts = []
next_number_in mesh ((e ∷ ps) ∷ ws) ts = number_found (across (start_or (vertex e) ps) (vertex e) mesh)

abbrev pub next_number : Packing → List ℕ
next_number s = next_number_in s.mesh s.loops s.left

-- those of at most n operations, the first of them first
unfoldable pub order_by : ℕ → Packing → List ℕ
order_by zero s = []
order_by (suc n) s =
    elim (choose s) [ ended ↦ [] | refuses k ↦ [] | takes o s' ↦ next_number s ++ order_by n s' ]
