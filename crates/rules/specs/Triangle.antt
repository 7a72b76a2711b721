-- Triangles, their directed edges, and the triangles of a list. Where triangles are being built, a list of them has the latest first.
-- Assumes nothing.
use Rattle.std.specs.Prelude.{ℕ, Bool, ◌&&◌, not, List, [], ◌∷◌, ◌≡◌, eqb}
use Rattle.rules.specs.declared.Triangle.{Triangle}

abbrev pub tri : ℕ → ℕ → ℕ → Triangle
tri x y z = record { p = x; q = y; r = z }

-- its three vertices differ
abbrev pub distinct : Triangle → Bool
distinct t = not (eqb t.p t.q) && not (eqb t.q t.r) && not (eqb t.r t.p)

-- a directed edge
pub record Edge : Type 0 where
  pub from : ℕ
  pub to : ℕ

abbrev pub edge : ℕ → ℕ → Edge
edge x y = record { from = x; to = y }

-- the triangles of a list of numbers, three for each
unfoldable pub triangles_of : List ℕ → List Triangle
triangles_of [] = []
triangles_of (x ∷ []) = []
triangles_of (x ∷ (y ∷ [])) = []
triangles_of (x ∷ (y ∷ (z ∷ xs))) = tri x y z ∷ triangles_of xs

-- the corners and the directed edges of the triangles, for counting; the latest first
unfoldable pub corners : List Triangle → List ℕ
corners [] = []
corners (t ∷ ts) = t.r ∷ (t.q ∷ (t.p ∷ corners ts))

unfoldable pub edges_of : List Triangle → List Edge
edges_of [] = []
edges_of (t ∷ ts) = edge t.r t.p ∷ (edge t.q t.r ∷ (edge t.p t.q ∷ edges_of ts))

-- t is the triangle x y z, from one of its three corners on
pub data Rot (t : Triangle) (x y z : ℕ) : Type 0 where
  at_p : t.p ≡ x → t.q ≡ y → t.r ≡ z → Rot t x y z
  at_q : t.q ≡ x → t.r ≡ y → t.p ≡ z → Rot t x y z
  at_r : t.r ≡ x → t.p ≡ y → t.q ≡ z → Rot t x y z

-- the triangle x y z is in the list
pub data In (x y z : ℕ) : List Triangle → Type 0 where
  here : {t : Triangle} {ts : List Triangle} → Rot t x y z → In x y z (t ∷ ts)
  there : {t : Triangle} {ts : List Triangle} → In x y z ts → In x y z (t ∷ ts)

-- the directed edge x→y is not used
abbrev pub Free : ℕ → ℕ → List Triangle → Type 0
Free x y ts = (z : ℕ) → In x y z ts → ⊥
