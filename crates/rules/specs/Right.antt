-- The right place for a triangle, in the words of the rules: in an accepted list there is one, and `choose_place` chooses its operation
-- (`one_place_is_right`, crate roundtrip).
-- Assumes nothing.
use Rattle.std.specs.Prelude.{ℕ, zero, suc, true, List, [], ◌∷◌, ◌≡◌}
use Rattle.rules.specs.declared.Triangle.{Triangle}
use Rattle.rules.specs.Triangle.{In}
use Rattle.rules.specs.Ring.{Node, Ring, vertex, is_open, start_or}
use Rattle.rules.specs.Choice.{size_of, following}

-- turning about c from x on to y through triangles of ts
pub data Links (c : ℕ) (ts : List Triangle) : ℕ → ℕ → Type 0 where
  stop : {x : ℕ} → Links c ts x x
  link : {x z y : ℕ} → In c x z ts → Links c ts z y → Links c ts x y

-- the open edge x→y starts at place i of the list, after whose last place comes first
abbrev pub EdgeIn : ℕ → List Node → ℕ → ℕ → ℕ → Type 0
EdgeIn first [] i x y = ⊥
EdgeIn first (p ∷ ps) zero x y = (is_open p ≡ true) × (vertex p ≡ x) × (start_or first ps ≡ y)
EdgeIn first (p ∷ ps) (suc i) x y = EdgeIn first ps i x y

-- the open edge x→y starts at place i of ring l
abbrev pub OpenAt : List Ring → ℕ → ℕ → ℕ → ℕ → Type 0
OpenAt [] l i x y = ⊥
OpenAt (w ∷ ws) zero i x y = EdgeIn (start_or 0 w) w i x y
OpenAt (w ∷ ws) (suc l) i x y = OpenAt ws l i x y

-- Place i of loop l is one of c, and from one of its open edges, the entering x→c or the leaving c→y, the triangle b a c is
-- reached by turning about c through triangles of ts: it leads from b to a as seen from c.
pub data RightPlace (ts : List Triangle) (ls : List Ring) (a b c l i : ℕ) : Type 0 where
  -- the edge x→c starts at place j, and the place after that is i
  by_entering : (x j : ℕ) → OpenAt ls l j x c → following (size_of ls l) j ≡ i → Links c ts x b → RightPlace ts ls a b c l i
  by_leaving : (y : ℕ) → OpenAt ls l i c y → Links c ts a y → RightPlace ts ls a b c l i
