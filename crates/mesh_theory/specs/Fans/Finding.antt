-- What a look-up of a directed edge tells.
-- Assumes nothing.
use Rattle.std.specs.Prelude.{ℕ, List, ◌∷◌, ◌++◌, ◌≡◌, length}
use Rattle.rules.specs.declared.Triangle.{Triangle}
use Rattle.rules.specs.Across.{Across}
use Rattle.rules.specs.Across.{Found, Nothing}
use Rattle.rules.specs.Count.{uses}
use Rattle.rules.specs.Triangle.{Rot}
use Rattle.mesh_theory.specs.Fans.Corner.{third}

-- triangle n of the list is x y z, and z is its corner k; no later one has x→y
pub record FoundAt (x y : ℕ) (ts : List Triangle) (n k z : ℕ) : Type 0 where
  pub before : List Triangle
  pub triangle : Triangle
  pub after : List Triangle
  pub whole : ts ≡ before ++ (triangle ∷ after)
  pub place : length before ≡ n
  pub seen : Rot triangle x y z
  pub corner : third seen ≡ k
  pub none_later : uses x y after ≡ 0

abbrev pub Told : ℕ → ℕ → List Triangle → Across → Type 0
Told x y ts (Found n k z) = FoundAt x y ts n k z
Told x y ts Nothing = uses x y ts ≡ 0

-- two triangles found are the same: by place, by the corner across from the edge, and by that corner's vertex
pub record SameFound (m n k k' z z' : ℕ) : Type 0 where
  pub same_place : m ≡ n
  pub same_corner : k ≡ k'
  pub same_vertex : z ≡ z'
