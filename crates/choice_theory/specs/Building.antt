-- The triangles that the packer builds, as they are built and in their order.
-- Assumes nothing.
use Rattle.std.specs.Prelude.{ℕ, zero, suc, List, [], ◌∷◌, ◌++◌}
use Rattle.rules.specs.declared.Triangle.{Triangle}
use Rattle.rules.specs.Across.{Found, Nothing}
use Rattle.rules.specs.Triangle.{tri}
use Rattle.rules.specs.Across.{across}
use Rattle.rules.specs.Ring.{Ring, vertex, start_or}
use Rattle.rules.specs.Choice.{Packing, ended, refuses, takes, choose}

-- the next one, or none: at border, and where nothing is left to do
unfoldable pub next_built : List Triangle → List Ring → List Triangle → List Triangle
next_built mesh [] [] = []
next_built mesh [] (t ∷ ts) = t ∷ []
next_built mesh ([] ∷ ws) ts = []
next_built mesh ((e ∷ ps) ∷ ws) ts =
    let a = vertex e in
    let b = start_or a ps in
    elim (across b a mesh) [ Nothing ↦ [] | Found n k c ↦ tri b a c ∷ [] ]

-- those of at most n operations
unfoldable pub built_by : ℕ → Packing → List Triangle
built_by zero s = []
built_by (suc n) s =
    elim (choose s) [ ended ↦ [] | refuses k ↦ [] | takes o s' ↦ next_built s.mesh s.loops s.left ++ built_by n s' ]
