-- The fan test over arrays: the edges about a vertex in two arrays, fs of their starts and ts of their ends, the latest triangle's
-- last; and marks gs, not zero for an edge that is taken.
-- Assumes nothing.
use Rattle.std.specs.Prelude.{ℕ, zero, suc, ◌+◌, ◌≤◌, ◌<◌, Bool, true, false, Option, Some, None, List, [], ◌∷◌, ◌≡◌, length, get_or, set}
use Rattle.std.specs.Prelude.{eqb}
use Rattle.rules.specs.declared.Triangle.{Triangle}
use Rattle.rules.specs.Triangle.{Edge, edge}
use Rattle.rules.specs.Limits.{max_triangles}
use Rattle.rules.specs.Fan.{about}
use Rattle.rules.specs.View.{triangles_built}
use Rattle.mesh_theory.specs.Chains.Corner.{triangle_at}

abbrev pub edge_at : List ℕ → List ℕ → ℕ → Edge
edge_at fs ts i = edge (get_or fs i 0) (get_or ts i 0)

-- the first n edges, the latest first
unfoldable pub listed : List ℕ → List ℕ → ℕ → List Edge
listed fs ts zero = []
listed fs ts (suc n) = edge_at fs ts n ∷ listed fs ts n

-- edge i is not taken, and its end in the array is x
unfoldable pub is_left : List ℕ → List ℕ → ℕ → ℕ → Bool
is_left es gs i x = elim (eqb (get_or gs i 0) 0) [ true ↦ eqb (get_or es i 0) x | false ↦ false ]

-- the latest such edge below n
unfoldable pub latest_left : List ℕ → List ℕ → ℕ → ℕ → Option ℕ
latest_left es gs x zero = None
latest_left es gs x (suc n) = elim (is_left es gs n x) [ true ↦ Some n | false ↦ latest_left es gs x n ]

-- the marks after turning from x as far as it goes, by at most k of the first n edges, each taken from its end in the array near to
-- that in far
unfoldable pub turned : List ℕ → List ℕ → ℕ → ℕ → ℕ → List ℕ → List ℕ
turned near far n zero x gs = gs
turned near far n (suc k) x gs =
    elim (latest_left near gs x n) [ None ↦ gs | Some i ↦ turned near far n k (get_or far i 0) (set gs i 1) ]

-- all of the first n edges are taken
unfoldable pub all_taken : List ℕ → ℕ → Bool
all_taken gs zero = true
all_taken gs (suc n) = elim (eqb (get_or gs n 0) 0) [ true ↦ false | false ↦ all_taken gs n ]

-- Of k edges in the arrays, and k' in those after triangle t of the list is seen: the triangle's edge opposite v, if it has v, is added
pub record Adds (v : ℕ) (xs : List ℕ) (t : ℕ) (fs ts : List ℕ) (k : ℕ) (fs' ts' : List ℕ) (k' : ℕ) : Type 0 where
  pub few : k' ≤ k + 1
  pub starts : length fs' ≡ length fs
  pub ends : length ts' ≡ length ts
  pub added : k < length fs → k < length ts → (us : List Triangle) → listed fs ts k ≡ about v us
      → listed fs' ts' k' ≡ about v (triangle_at xs t ∷ us)

-- both arrays have room for an edge of each triangle
pub record Spacious (fs ts : List ℕ) : Type 0 where
  pub starts : length fs ≡ max_triangles
  pub ends : length ts ≡ max_triangles

-- the k edges in the arrays are those opposite v of the first n triangles
pub record Holds (v : ℕ) (xs : List ℕ) (n : ℕ) (fs ts : List ℕ) (k : ℕ) : Type 0 where
  pub few : k ≤ n
  pub room : Spacious fs ts
  pub edges : listed fs ts k ≡ about v (triangles_built xs n)
