-- What an operation does, by its parts in a row: for laws that speak of each of them.
-- Assumes nothing.
use Prim.Native.Nat.{ℕ}
use mathlib.Core.List.{List}
use Rattle.rules.specs.declared.Triangle.{Triangle}
use Rattle.rules.specs.Triangle.{Edge}
use Rattle.rules.specs.Ring.{Ring}
use Rattle.rules.specs.Table.{Side, Building, Marking}

-- the loops, the triangle, its three sides, the numbers, starts and unions added
abbrev pub building_of : List Ring → Triangle → Side → Side → Side → ℕ → ℕ → ℕ → Building
building_of ls t x y z n s k = record {
  loops = ls;
  triangle = t;
  sides = record { pq = x; qr = y; rp = z };
  added = record { vertices = n; starts = s; unions = k };
}

-- the loops, the edge, the rims
abbrev pub marking_of : List Ring → Edge → ℕ → Marking
marking_of ls d n = record { loops = ls; edge = d; rims = n }
