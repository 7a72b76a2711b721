-- Corners of a list of numbers: corner c is position c, of triangle c / 3. What is found by going down from a corner.
-- Assumes nothing.
use Rattle.std.specs.Prelude.{ℕ, zero, suc, ◌+◌, ◌*◌, ◌-◌, ◌/◌, ◌%◌, true, false, List, get_or, take, eqb}
use Rattle.rules.specs.declared.Triangle.{Triangle}
use Rattle.rules.specs.Across.{Across}
use Rattle.rules.specs.Across.{Found}
use Rattle.rules.specs.Triangle.{tri, triangles_of}

-- the corner after c in its triangle, and the one before
unfoldable pub corner_after : ℕ → ℕ
corner_after c = elim (eqb (c % 3) 2) [ true ↦ c - 2 | false ↦ c + 1 ]

unfoldable pub corner_before : ℕ → ℕ
corner_before c = elim (eqb (c % 3) 0) [ true ↦ c + 2 | false ↦ c - 1 ]

-- the first n triangles of a list of numbers, and triangle n
abbrev pub first_triangles : ℕ → List ℕ → List Triangle
first_triangles n xs = triangles_of (take (3 * n) xs)

abbrev pub triangle_at : List ℕ → ℕ → Triangle
triangle_at xs n = tri (get_or xs (3 * n) 0) (get_or xs (3 * n + 1) 0) (get_or xs (3 * n + 2) 0)

-- 1 more than the last corner below n that has vertex v, or 0 if there is none
unfoldable pub latest : ℕ → List ℕ → ℕ → ℕ
latest v xs zero = 0
latest v xs (suc c) = elim (eqb (get_or xs c 0) v) [ true ↦ suc c | false ↦ latest v xs c ]

-- how many corners below n have vertex v
unfoldable pub degree : ℕ → List ℕ → ℕ → ℕ
degree v xs zero = 0
degree v xs (suc c) = elim (eqb (get_or xs c 0) v) [ true ↦ suc (degree v xs c) | false ↦ degree v xs c ]

-- the triangle of corner c, seen across the directed edge that leaves that corner
unfoldable pub seen_from : List ℕ → ℕ → Across
seen_from xs c = Found (c / 3) (corner_before c % 3) (get_or xs (corner_before c) 0)
