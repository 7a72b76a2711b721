-- Six times the volume that triangles enclose: the sum of the determinants of their corners.
-- Assumes nothing.
use Rattle.std.specs.Prelude.{ℕ, ◌+◌, ◌*◌, List, [], ◌∷◌, ℤ, pos, ◌+ℤ◌, ◌-ℤ◌, ◌*ℤ◌, get_or}
use Rattle.rules.specs.declared.Point.{Point}
use Rattle.rules.specs.declared.Triangle.{Triangle}

-- where a vertex is, by a list of positions, three for each vertex
abbrev pub point_at : List ℤ → ℕ → Point
point_at zs v = record { x = get_or zs (3 * v) (pos 0); y = get_or zs (3 * v + 1) (pos 0); z = get_or zs (3 * v + 2) (pos 0) }

-- the determinant of three points: of its six products, three are added and three are taken away
unfoldable pub determinant : Point → Point → Point → ℤ
determinant p q r =
    (p.x *ℤ q.y *ℤ r.z +ℤ q.x *ℤ r.y *ℤ p.z +ℤ r.x *ℤ p.y *ℤ q.z)
    -ℤ (q.x *ℤ p.y *ℤ r.z +ℤ p.x *ℤ r.y *ℤ q.z +ℤ r.x *ℤ q.y *ℤ p.z)

unfoldable pub six_volumes : List ℤ → List Triangle → ℤ
six_volumes zs [] = pos 0
six_volumes zs (t ∷ ts) = determinant (point_at zs t.p) (point_at zs t.q) (point_at zs t.r) +ℤ six_volumes zs ts
