-- C-12: what the search for the triangle with a directed edge tells, in 02's words. 5 is not asked: an edge may occur more than once.
-- Assumes nothing.
use Rattle.std.specs.Prelude.{ℕ, ◌+◌, ◌*◌, ◌≤◌, List, ◌↔◌, ◌≡◌, length}
use Rattle.rules.specs.Across.{Across}
use Rattle.rules.specs.Across.{Found, Nothing}
use Rattle.rules.specs.Triangle.{Rot}
use Rattle.mesh_theory.specs.Fans.Corner.{third}
use Rattle.mesh_theory.specs.Chains.Corner.{triangle_at}

-- triangle n of the list is x y z from one of its corners on, so that it has x→y, and z is its corner k
pub record HasEdge (xs : List ℕ) (x y n k z : ℕ) : Type 0 where
  pub within : 3 * n + 3 ≤ length xs
  pub seen : Rot (triangle_at xs n) x y z
  pub corner : third seen ≡ k

-- it is the last that has x→y
pub record IsLast (xs : List ℕ) (x y n k z : ℕ) : Type 0 where
  pub has : HasEdge xs x y n k z
  pub last : (m j w : ℕ) → HasEdge xs x y m j w → m ≤ n

-- "it gives the last with that edge, none exactly if none has it"
pub record Searched (xs : List ℕ) (x y : ℕ) (r : Across) : Type 0 where
  pub last : (n k z : ℕ) → r ≡ Found n k z → IsLast xs x y n k z
  pub none : (r ≡ Nothing) ↔ ((n k z : ℕ) → HasEdge xs x y n k z → ⊥)

-- "from the last triangle to the first": the answer where a triangle of number n is looked at before those of which a is the answer
abbrev pub looked_at_first : ℕ → Across → Across → Across
looked_at_first n (Found m k z) a = Found n k z
looked_at_first n Nothing a = a
