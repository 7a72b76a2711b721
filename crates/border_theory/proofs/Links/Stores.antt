-- The table of operations on places: what each does to the rings of places and to the places' vertices, and which edges it stores.
-- The current edge starts at place e, ps are the places after it, ws wait, u is the next unused number, q is a free place.
-- Assumes nothing.
use Prim.Native.Nat.{ℕ, zero, suc, ◌-◌, ◌≤◌, ◌<◌}
use mathlib.Core.Bool.{true, false}
use mathlib.Core.List.{List, [], ◌∷◌, ◌++◌}
use mathlib.Core.Path.{◌≡◌}
use lib.ListN.{length, take, drop, get_or, set}
use lib.Dec.{eqb}
use Rattle.rules.specs.declared.Operation.{Operation}
use Rattle.rules.specs.declared.Operation.TheVariants.{New, Forward, Backward, Border, Split, Close, Union, Start}
use Rattle.rules.specs.Ring.{Node, opened, marked, Ring, is_open, start_or, vertex_at, last_open, last_vertex, front, onward, shown}
use Rattle.rules.specs.Ring.{loop_at}
use Rattle.rules.specs.Ring.{without}
use Rattle.rules.specs.Table.{Effect, not_allowed, builds, marks, shorter_first}
use Rattle.rules.specs.Places.{alive}
use Rattle.book.specs.Sums.{placed}
use Rattle.border_theory.specs.Links.Held.{Arc, arc}

-- the rings of places after an operation that is allowed at a live loop; a start never is. At a border these are the rings when its
-- edge is marked, before the places leave that no open edge enters or leaves
unfoldable pub places_after : Operation → ℕ → ℕ → List Node → List Ring → List Ring
places_after New q e ps ws = (opened q ∷ (ps ++ (opened e ∷ []))) ∷ ws
places_after Forward q e ps ws = (opened e ∷ drop 1 ps) ∷ ws
places_after Backward q e ps ws = (opened (last_vertex ps) ∷ front ps) ∷ ws
places_after Border q e ps ws = alive (onward [] (ps ++ (marked e ∷ []))) ws
places_after (Split i) q e ps ws = shorter_first (opened q ∷ take i ps) (opened e ∷ drop i ps) ws
places_after Close q e ps ws = ws
places_after (Union n j) q e ps ws =
    let w = loop_at ws (n - 1) in
    (opened q ∷ (ps ++ (opened e ∷ (drop j w ++ take j w)))) ∷ without ws (n - 1)
places_after Start q e ps ws = []

-- the rings of places after a border
abbrev pub after_border : ℕ → List Node → List Ring → List Ring
after_border e ps ws = alive (shown (onward [] (ps ++ (marked e ∷ [])))) ws

-- the places after the current one, without the next one if its edge is marked
abbrev pub cut_next : List Node → List Node
cut_next [] = []
cut_next (opened v ∷ ps) = opened v ∷ ps
cut_next (marked v ∷ ps) = ps

-- if there are places after the current one, the edge of the first of them is open
abbrev pub OpenNext : List Node → Type 0
OpenNext [] = Unit {0}
OpenNext (p ∷ ps) = is_open p ≡ true

-- the edges that it stores
unfoldable pub stores : Operation → ℕ → ℕ → List Node → List Ring → List Arc
stores New q e ps ws = arc e q true ∷ (arc q (start_or e ps) true ∷ [])
stores Forward q e ps ws = arc e (vertex_at ps 1) true ∷ []
stores Backward q e ps ws = arc (last_vertex ps) (start_or e ps) true ∷ []
stores Border q e ps ws = arc e (start_or e ps) false ∷ []
stores (Split i) q e ps ws =
    arc q (start_or e ps) true ∷ (arc (last_vertex (take i ps)) q (last_open (take i ps)) ∷ (arc e (vertex_at ps i) true ∷ []))
stores Close q e ps ws = []
stores (Union n j) q e ps ws =
    let w = loop_at ws (n - 1) in
    let l = drop j w ++ take j w in
    arc q (start_or e ps) true ∷ (arc (last_vertex l) q (last_open l) ∷ (arc e (vertex_at w j) true ∷ []))
stores Start q e ps ws = []

-- the places' vertices after it
unfoldable pub vertices_after : Operation → ℕ → ℕ → List ℕ → List Node → List Ring → List ℕ
vertices_after New u q vs ps ws = set vs q u
vertices_after Forward u q vs ps ws = vs
vertices_after Backward u q vs ps ws = vs
vertices_after Border u q vs ps ws = vs
vertices_after (Split i) u q vs ps ws = set vs q (get_or vs (vertex_at ps i) 0)
vertices_after Close u q vs ps ws = vs
vertices_after (Union n j) u q vs ps ws = set vs q (get_or vs (vertex_at (loop_at ws (n - 1)) j) 0)
vertices_after Start u q vs ps ws = vs

-- an effect's loops are these
abbrev pub HasLoops : List Ring → Effect → Type 0
HasLoops ls not_allowed = Unit {0}
HasLoops ls (builds x) = ls ≡ x.loops
HasLoops ls (marks x) = ls ≡ x.loops

-- a place that is in no loop, the highest one below k
unfoldable pub free_below : ℕ → List Ring → ℕ
free_below zero ls = 0
free_below (suc k) ls = elim (eqb (placed k ls) 0) [ true ↦ k | false ↦ free_below k ls ]

-- q is a free place of n
pub record Free (n : ℕ) (ls : List Ring) (q : ℕ) : Type 0 where
  pub inside : q < n
  pub unused : placed q ls ≡ 0

-- the operations that take a place
abbrev pub Takes : Operation → Type 0
Takes New = Unit {0}
Takes (Split i) = Unit {0}
Takes (Union n j) = Unit {0}
Takes Forward = ⊥
Takes Backward = ⊥
Takes Border = ⊥
Takes Close = ⊥
Takes Start = ⊥

-- the operations that leave the rings of places as their stores do
abbrev pub Whole : Operation → Type 0
Whole New = Unit {0}
Whole Forward = Unit {0}
Whole Backward = Unit {0}
Whole Border = ⊥
Whole (Split i) = Unit {0}
Whole Close = Unit {0}
Whole (Union n j) = Unit {0}
Whole Start = Unit {0}

-- what an operation needs of the rings of places
abbrev pub Fits : Operation → List Node → List Ring → Type 0
Fits New ps ws = Unit {0}
Fits Forward ps ws = 2 ≤ length ps
Fits Backward ps ws = last_open ps ≡ true
Fits Border ps ws = Unit {0}
Fits (Split i) ps ws = (1 ≤ i) × (i < length ps)
Fits Close ps ws = Unit {0}
Fits (Union n j) ps ws = (n - 1 < length ws) × (j < length (loop_at ws (n - 1)))
Fits Start ps ws = ⊥
