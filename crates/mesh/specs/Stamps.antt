-- Stamps for the test of 5. The stamp of vertex y stands at y: 1 more than the vertex from which an edge to y was met last, or 0. The
-- vertices are gone through from 0 on.
-- Assumes nothing.
use Rattle.std.specs.Prelude.{ℕ, ◌+◌, ◌≤◌, Bool, true, false, List, ◌≡◌, length, get_or}
use Rattle.rules.specs.Limits.{max_vertices}
use Rattle.rules.specs.Triangle.{triangles_of, edges_of}
use Rattle.rules.specs.Count.{uses}
use Rattle.rules.specs.Check.{none_twice}

-- stamps for every vertex, all of vertices below u
pub record Stamped (ss : List ℕ) (u : ℕ) : Type 0 where
  pub long : length ss ≡ max_vertices
  pub most : (y : ℕ) → get_or ss y 0 ≤ u

-- b tells whether no directed edge leaves v twice
pub record LeavesOnce (xs : List ℕ) (v : ℕ) (b : Bool) (ss : List ℕ) : Type 0 where
  pub once : b ≡ true → (y : ℕ) → uses v y (triangles_of xs) ≤ 1
  pub twice : b ≡ false → none_twice (edges_of (triangles_of xs)) ≡ false
  pub stamps : Stamped ss (v + 1)
