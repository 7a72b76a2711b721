-- A builder's state and lent buffers read as the abstract machine.
-- Assumes nothing.
use Rattle.std.specs.Prelude.{ℕ, zero, suc, ◌+◌, ◌*◌, true, false, List, [], ◌∷◌, ◌++◌, get_or}
use Rattle.rules.specs.declared.Triangle.{Triangle}
use Rattle.rules.specs.declared.Place.{Place}
use Rattle.rules.specs.declared.Builder.{Builder}
use Rattle.rules.specs.Triangle.{tri}
use Rattle.rules.specs.Count.{hit}
use Rattle.rules.specs.Ring.{Node, opened, marked, Ring}
use Rattle.rules.specs.Machine.{Machine}
use Rattle.rules.specs.Buffer.{free_place}

-- a place's record
abbrev pub place_at : List Place → ℕ → Place
place_at ps i = get_or ps i free_place

-- n places on from place i, by the links: place i and those after it; and the place where that leads
unfoldable pub follow : List Place → ℕ → ℕ → List ℕ
follow ps zero i = []
follow ps (suc n) i = i ∷ follow ps n (place_at ps i).after

unfoldable pub followed : List Place → ℕ → ℕ → ℕ
followed ps zero i = i
followed ps (suc n) i = followed ps n (place_at ps i).after

abbrev pub node_of : Place → Node
node_of p = elim p.«open» [ true ↦ opened p.vertex | false ↦ marked p.vertex ]

unfoldable pub nodes : List Place → List ℕ → Ring
nodes ps [] = []
nodes ps (i ∷ is) = node_of (place_at ps i) ∷ nodes ps is

-- the loop at number n of the state: its places, the current edge's first
abbrev pub loop_places : Builder → List Place → ℕ → List ℕ
loop_places b ps n = follow ps (get_or b.sizes n 0) (get_or b.current n 0)

-- the places of the first n loops
unfoldable pub places_of : Builder → List Place → ℕ → List ℕ
places_of b ps zero = []
places_of b ps (suc n) = loop_places b ps n ++ places_of b ps n

-- at how many of these places x→y is recorded as open, from the place's vertex to the next one's
unfoldable pub open_among : List Place → ℕ → ℕ → List ℕ → ℕ
open_among ps x y [] = 0
open_among ps x y (i ∷ is) =
    let p = place_at ps i in
    elim p.«open» [ true ↦ hit x y p.vertex (place_at ps p.after).vertex | false ↦ 0 ] + open_among ps x y is

-- the builder's open edges: at how many of its live loops' places x→y is one
abbrev pub open_at : Builder → List Place → ℕ → ℕ → ℕ
open_at b ps x y = open_among ps x y (places_of b ps b.live)

-- the first n loops, the last of them, which is the current one, in front
unfoldable pub loops_of : Builder → List Place → ℕ → List Ring
loops_of b ps zero = []
loops_of b ps (suc n) = nodes ps (loop_places b ps n) ∷ loops_of b ps n

-- the same loops as rings of places: a place by its record's number, its edge open or marked
abbrev pub place_node : List Place → ℕ → Node
place_node ps i = elim (place_at ps i).«open» [ true ↦ opened i | false ↦ marked i ]

unfoldable pub place_nodes : List Place → List ℕ → Ring
place_nodes ps [] = []
place_nodes ps (i ∷ is) = place_node ps i ∷ place_nodes ps is

unfoldable pub place_rings : Builder → List Place → ℕ → List Ring
place_rings b ps zero = []
place_rings b ps (suc n) = place_nodes ps (loop_places b ps n) ∷ place_rings b ps n

-- the first n triangles of the triangle buffer, the latest first
unfoldable pub triangles_built : List ℕ → ℕ → List Triangle
triangles_built xs zero = []
triangles_built xs (suc n) = tri (get_or xs (3 * n) 0) (get_or xs (3 * n + 1) 0) (get_or xs (3 * n + 2) 0) ∷ triangles_built xs n

unfoldable pub view : Builder → List ℕ → List Place → Machine
view b xs ps = record {
  stated = b.stated;
  triangles = triangles_built xs b.built;
  loops = loops_of b ps b.live;
  used = b.used;
  most_places = b.peaks.places;
  most_loops = b.peaks.loops;
  edges = b.edges;
  starts = b.starts;
  unions = b.unions;
  rims = b.rims;
}
