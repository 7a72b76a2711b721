-- Corner chains: for each vertex its latest corner, and for each corner the one before it that has the same vertex. An
-- entry is 1 more than the corner, or 0 for none. The chains are one array: the entry of vertex v stands at v, that of corner c
-- at max_vertices + c.
-- Assumes nothing.
use Rattle.std.specs.Prelude.{ℕ, ◌+◌, ◌*◌, ◌/◌, ◌≤◌, ◌<◌, Bool, true, false, ◌&&◌, List, ◌≡◌, length, get_or, set, ltb}
use Rattle.rules.specs.Across.{Across}
use Rattle.rules.specs.Across.{Nothing}
use Rattle.rules.specs.Limits.{max_numbers, max_triangles, max_vertices}
use Rattle.rules.specs.Triangle.{triangles_of, edges_of}
use Rattle.rules.specs.Count.{unjoined}
use Rattle.rules.specs.Across.{across}
use Rattle.rules.specs.Check.{all_distinct, none_twice}
use Rattle.mesh_theory.specs.Fans.Passing.{PassesFour}
use Rattle.mesh_theory.specs.Fans.Search.{Searched}
use Rattle.mesh_theory.specs.Chains.Corner.{first_triangles, latest, degree}

-- how many entries the array has
abbrev pub room : ℕ
room = max_vertices + max_numbers

-- cs holds the chains of the first n corners of xs
pub record Chains (xs : List ℕ) (n : ℕ) (cs : List ℕ) : Type 0 where
  pub within : n ≤ length xs
  pub most : n ≤ max_numbers
  pub whole : length cs ≡ room
  pub below : (c : ℕ) → c < n → get_or xs c 0 < max_vertices
  pub heads : (v : ℕ) → v < max_vertices → get_or cs v 0 ≡ latest v xs n
  pub links : (c : ℕ) → c < n → get_or cs (max_vertices + c) 0 ≡ latest (get_or xs c 0) xs c

-- corner c, of vertex v, put at the front of its chain
abbrev pub linked : List ℕ → ℕ → ℕ → List ℕ
linked cs v c = set (set cs (max_vertices + c) (get_or cs v 0)) v (c + 1)

-- triangle n, its corners p q r linked one after the other
abbrev pub linked_triangle : List ℕ → ℕ → ℕ → ℕ → ℕ → List ℕ
linked_triangle cs n p q r = linked (linked (linked cs p (3 * n)) q (3 * n + 1)) r (3 * n + 2)

-- a triangle and its vertices that the array has room for
unfoldable pub linkable : ℕ → ℕ → ℕ → ℕ → Bool
linkable n p q r = ltb n max_triangles && (ltb p max_vertices && (ltb q max_vertices && ltb r max_vertices))

-- the chains after triangle n is linked; one that the array has no room for is passed over
unfoldable pub relinked : List ℕ → ℕ → ℕ → ℕ → ℕ → List ℕ
relinked cs n p q r = elim (linkable n p q r) [ true ↦ linked_triangle cs n p q r | false ↦ cs ]

-- r is where the chain of v begins, as an entry; the triangle of that corner is in the list
pub record Newest (xs cs : List ℕ) (v r : ℕ) : Type 0 where
  pub most : r ≤ max_numbers
  pub whole : 3 * ((r + 2) / 3) ≤ length xs
  pub newest : (n : ℕ) → Chains xs (3 * n) cs → r ≡ latest v xs (3 * n)

-- r is where the chain goes on from corner c, as an entry
pub record Older (cs : List ℕ) (c r : ℕ) : Type 0 where
  pub less : r ≤ c
  pub older : (xs : List ℕ) (n : ℕ) → Chains xs n cs → c < n → r ≡ latest (get_or xs c 0) xs c

-- r is the triangle that has x→y, of several the last, among the first triangles of the list, as many as the chains hold; none is
-- found from a vertex to itself. C-12: in a list that passes 1 to 4, all of it in the chains, r is what 02 says, for any x and y
pub record Finds (xs cs : List ℕ) (x y : ℕ) (r : Across) : Type 0 where
  pub itself : x ≡ y → r ≡ Nothing
  pub found : (n : ℕ) → Chains xs (3 * n) cs → (x ≡ y → ⊥) → r ≡ across x y (first_triangles n xs)
  pub searched : (v : ℕ) → PassesFour v xs → Chains xs (length xs) cs → Searched xs x y r

-- b tells, among the triangles that the chains hold, whether x and y are not joined
abbrev pub UnjoinedIs : List ℕ → List ℕ → ℕ → ℕ → Bool → Type 0
UnjoinedIs xs cs x y b = (n : ℕ) → Chains xs (3 * n) cs → (x ≡ y → ⊥) → b ≡ unjoined x y (edges_of (first_triangles n xs))

-- the chain that begins at the entry c has k corners
abbrev pub CountsFrom : List ℕ → ℕ → ℕ → Type 0
CountsFrom cs c k = (xs : List ℕ) (v n : ℕ) → Chains xs n cs → c ≡ latest v xs n → k ≡ degree v xs n

-- a list of whole triangles, each of three different vertices, that the array has room for
pub record Sound (xs : List ℕ) : Type 0 where
  pub long : length xs ≡ 3 * (length xs / 3)
  pub most : length xs ≤ max_numbers
  pub below : (c : ℕ) → c < length xs → get_or xs c 0 < max_vertices
  pub distinct : all_distinct (triangles_of xs) ≡ true

-- in such a list no directed edge occurs twice, and cs holds the chains of all its triangles
pub record Linked (xs cs : List ℕ) : Type 0 where
  pub sound : Sound xs
  pub once : none_twice (edges_of (triangles_of xs)) ≡ true
  pub chains : Chains xs (3 * (length xs / 3)) cs
