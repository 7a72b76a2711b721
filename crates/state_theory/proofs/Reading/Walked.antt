-- Walks over the records of the plain memory, by the places after them.
-- Assumes nothing.
use Prim.Native.Nat.{ℕ, zero, suc, ◌≤◌, ◌<◌}
use mathlib.Core.List.{List, [], ◌∷◌, ◌++◌}
use Rattle.rules.specs.Ring.{Ring, vertex}
use Rattle.border_theory.specs.Memory.Layout.{after_of, open_of}

-- the k places from e on are below n, and their openness is 0 or 1
abbrev pub Walk : ℕ → List ℕ → ℕ → ℕ → Type 0
Walk n m zero e = Unit {0}
Walk n m (suc k) e = (e < n) × (open_of m e ≤ 1) × Walk n m k (after_of m e)

-- the places of a ring of places
unfoldable pub ring_places : Ring → List ℕ
ring_places [] = []
ring_places (p ∷ ps) = vertex p ∷ ring_places ps

-- the places of rings of places, the first ring's first
unfoldable pub rings_places : List Ring → List ℕ
rings_places [] = []
rings_places (l ∷ ls) = ring_places l ++ rings_places ls
