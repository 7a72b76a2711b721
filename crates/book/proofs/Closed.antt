-- A run of places none of whose edges is open.
-- Assumes nothing.
use Prim.Native.Nat.{ℕ}
use mathlib.Core.Bool.{false}
use mathlib.Core.List.{List, [], ◌∷◌, ◌++◌}
use mathlib.Core.Path.{◌≡◌, refl}
use Rattle.rules.specs.Ring.{Node, marked, is_open}

abbrev pub Closed : List Node → Type 0
Closed [] = Unit {0}
Closed (p ∷ ps) = (is_open p ≡ false) × Closed ps

pub closed_snoc : (us : List Node) (v : ℕ) → Closed us → Closed (us ++ (marked v ∷ []))
closed_snoc [] v c = (refl, tt)
closed_snoc (u ∷ us) v c = (c.0, closed_snoc us v c.1)
