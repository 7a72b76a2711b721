-- Directed edges: one that no triangle has, and open ones. Where an open edge stands in the rings is said by `OpenAt` of the rules.
-- Assumes nothing.
use Rattle.std.specs.Prelude.{ℕ, List, ◌≡◌}
use Rattle.rules.specs.declared.Triangle.{Triangle}
use Rattle.rules.specs.Ring.{Ring}
use Rattle.rules.specs.Triangle.{Free}
use Rattle.rules.specs.Right.{OpenAt}

-- the directed edge x→y is not used
abbrev pub Unused : ℕ → ℕ → List Triangle → Type 0
Unused x y ts = Free x y ts

-- each open edge stands at one place
abbrev pub Unique : List Ring → Type 0
Unique ls = (x y l i m j : ℕ) → OpenAt ls l i x y → OpenAt ls m j x y → (l ≡ m) × (i ≡ j)
