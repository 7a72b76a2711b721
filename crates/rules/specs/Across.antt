-- The triangle that has a directed edge.
-- Assumes nothing.
use Rattle.std.specs.Prelude.{ℕ, suc, Option, Some, None, true, false, ◌&&◌, List, [], ◌∷◌, eqb}
use Rattle.rules.specs.declared.Triangle.{Triangle}
use Rattle.rules.specs.declared.Opposite.{Opposite}

-- where a directed edge is: the number of the triangle, the corner that the edge does not touch, and the vertex there
pub data Across : Type 0 where
  Found : ℕ → ℕ → ℕ → Across
  Nothing : Across

-- what a result of the code stands for
abbrev pub across_of : Option Opposite → Across
across_of (Some x) = Found x.triangle x.corner x.vertex
across_of None = Nothing

-- x→y in one triangle, as the list's first
unfoldable pub in_triangle : ℕ → ℕ → Triangle → Across
in_triangle x y t =
    elim (eqb t.p x && eqb t.q y) [
      | true ↦ Found 0 2 t.r
      | false ↦ elim (eqb t.q x && eqb t.r y) [
        | true ↦ Found 0 0 t.p
        | false ↦ elim (eqb t.r x && eqb t.p y) [ true ↦ Found 0 1 t.q | false ↦ Nothing ]
      ]
    ]

-- the triangle that has x→y, by its number in the list: looked for from the last triangle to the first, so that of several it is the last
unfoldable pub across : ℕ → ℕ → List Triangle → Across
across x y [] = Nothing
across x y (t ∷ ts) = elim (across x y ts) [ Found n k z ↦ Found (suc n) k z | Nothing ↦ in_triangle x y t ]
