-- Turning about a vertex by look-ups.
-- Assumes nothing.
use Rattle.std.specs.Prelude.{ℕ, zero, suc, true, false, List, eqb}
use Rattle.rules.specs.declared.Triangle.{Triangle}
use Rattle.rules.specs.Across.{Found, Nothing}
use Rattle.rules.specs.Across.{across}

-- how many of n triangles about v are left after turning back, from triangle to triangle, from the edge x→v
unfoldable pub left_back : List Triangle → ℕ → ℕ → ℕ → ℕ
left_back ts v x zero = 0
left_back ts v x (suc n) = elim (across x v ts) [ Found t k z ↦ left_back ts v z n | Nothing ↦ suc n ]

-- the same after turning on from v→y, until the turn comes round to x; where it ends before that, back from x→v
unfoldable pub left_on : List Triangle → ℕ → ℕ → ℕ → ℕ → ℕ
left_on ts v x y zero = 0
left_on ts v x y (suc n) =
    elim (eqb y x) [
      | true ↦ suc n
      | false ↦ elim (across v y ts) [ Found t k z ↦ left_on ts v x z n | Nothing ↦ left_back ts v x (suc n) ]
    ]
