-- Positions by axis: where each vertex is along x, y and z. The volume over three axes, for laws of one axis at a time.
-- Assumes nothing.
use Rattle.std.specs.Prelude.{ℕ, List, [], ◌∷◌, ℤ, pos, ◌+ℤ◌, ◌-ℤ◌, ◌*ℤ◌}
use Rattle.rules.specs.declared.Triangle.{Triangle}
use Rattle.rules.specs.Volume.{point_at}

abbrev pub Axis : Type 0
Axis = ℕ → ℤ

-- the axes of a list of positions
abbrev pub along_x : List ℤ → Axis
along_x zs v = (point_at zs v).x

abbrev pub along_y : List ℤ → Axis
along_y zs v = (point_at zs v).y

abbrev pub along_z : List ℤ → Axis
along_z zs v = (point_at zs v).z

-- a product of a determinant, and the three that are added; the three that are taken away are these with p and q exchanged
abbrev pub term : Axis → Axis → Axis → ℕ → ℕ → ℕ → ℤ
term X Y Z p q r = X p *ℤ Y q *ℤ Z r

abbrev pub terms : Axis → Axis → Axis → ℕ → ℕ → ℕ → ℤ
terms X Y Z p q r = term X Y Z p q r +ℤ term X Y Z q r p +ℤ term X Y Z r p q

abbrev pub det : Axis → Axis → Axis → ℕ → ℕ → ℕ → ℤ
det X Y Z p q r = terms X Y Z p q r -ℤ terms X Y Z q p r

unfoldable pub volume : Axis → Axis → Axis → List Triangle → ℤ
volume X Y Z [] = pos 0
volume X Y Z (t ∷ ts) = det X Y Z t.p t.q t.r +ℤ volume X Y Z ts
