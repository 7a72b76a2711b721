-- Notes for turning about a vertex. Note j has two numbers: at 2j, 1 more than the vertex v about which it was written last; at 2j + 1
-- the third vertex of the triangle that has an edge at v. Note 2y is of the edge v→y, note 2y + 1 of y→v.
-- Assumes nothing.
use Rattle.std.specs.Prelude.{ℕ, ◌+◌, ◌*◌, ◌≤◌, ◌<◌, true, List, ◌≡◌, length, get_or, set}
use Rattle.rules.specs.declared.Triangle.{Triangle}
use Rattle.rules.specs.Across.{Across}
use Rattle.rules.specs.Across.{Found, Nothing}
use Rattle.rules.specs.Limits.{max_vertices}
use Rattle.rules.specs.Triangle.{triangles_of}
use Rattle.rules.specs.Across.{across}
use Rattle.rules.specs.Fan.{about, one_run}
use Rattle.mesh_theory.specs.Chains.Linked.{CountsFrom}

-- z written into note j about v
abbrev pub noted : List ℕ → ℕ → ℕ → ℕ → List ℕ
noted ns v j z = set (set ns (2 * j) (v + 1)) (2 * j + 1) z

-- two notes for every vertex, none of them about a vertex below u
abbrev pub Fresh : List ℕ → ℕ → Type 0
Fresh ns u = (length ns ≡ 4 * max_vertices) × ((j w : ℕ) → get_or ns (2 * j) 0 ≡ w + 1 → u ≤ w)

-- the notes about v have vertices
abbrev pub Within : List ℕ → ℕ → Type 0
Within ns v = (j : ℕ) → get_or ns (2 * j) 0 ≡ v + 1 → get_or ns (2 * j + 1) 0 < max_vertices

-- note j about v is what the look-up across its edge finds
pub data Note (ns : List ℕ) (v j : ℕ) (a : Across) : Type 0 where
  absent : (get_or ns (2 * j) 0 ≡ v + 1 → ⊥) → a ≡ Nothing → Note ns v j a
  present : get_or ns (2 * j) 0 ≡ v + 1 → (n k : ℕ) → a ≡ Found n k (get_or ns (2 * j + 1) 0) → Note ns v j a

abbrev pub Noted : List Triangle → ℕ → List ℕ → Type 0
Noted ts v ns = (y : ℕ) → Note ns v (2 * y) (across v y ts) × Note ns v (2 * y + 1) (across y v ts)

-- the chain of v that begins at the entry c has k corners, and all its triangles are noted
pub record AllNoted (xs cs : List ℕ) (v c k : ℕ) (ns : List ℕ) : Type 0 where
  pub counts : CountsFrom cs c k
  pub notes : Noted (triangles_of xs) v ns
  pub within : Within ns v
  pub fresh : Fresh ns v

-- the triangles about u form one fan, if u is not met
abbrev pub UnmetAt : List ℕ → List ℕ → ℕ → Type 0
UnmetAt xs ks u = get_or ks u 0 ≡ 0 → one_run (about u (triangles_of xs)) ≡ true

-- of each vertex below v
abbrev pub Unmet : List ℕ → List ℕ → ℕ → Type 0
Unmet xs ks v = (u : ℕ) → u < v → UnmetAt xs ks u
