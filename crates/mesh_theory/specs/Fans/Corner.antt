-- More of a triangle seen from one of its corners, and of the triangles of a list; `Rot`, `In` and `Free` are the rules'.
-- Assumes nothing.
use Rattle.std.specs.Prelude.{ℕ, List, [], ◌∷◌, ◌≡◌}
use Rattle.rules.specs.declared.Triangle.{Triangle}
use Rattle.rules.specs.Triangle.{Rot, at_p, at_q, at_r, Free}

-- which corner of t then z is: 0 for p, 1 for q, 2 for r
abbrev pub third : {t : Triangle} {x y z : ℕ} → Rot t x y z → ℕ
third (at_p a b c) = 2
third (at_q a b c) = 0
third (at_r a b c) = 1

-- three different vertices
pub record Different (x y z : ℕ) : Type 0 where
  pub x_y : x ≡ y → ⊥
  pub y_z : y ≡ z → ⊥
  pub z_x : z ≡ x → ⊥

-- no directed edge twice, and no triangle has a vertex twice
abbrev pub Once : List Triangle → Type 0
Once [] = Unit {0}
Once (t ∷ ts) =
    (Free t.p t.q ts × Free t.q t.r ts × Free t.r t.p ts)
    × ((t.p ≡ t.q → ⊥) × (t.q ≡ t.r → ⊥) × (t.r ≡ t.p → ⊥))
    × Once ts
