-- What the packer sees of a place.
-- Assumes nothing.
use Prim.Native.Nat.{ℕ}
use mathlib.Core.Bool.{false}
use mathlib.Core.List.{List, ◌∷◌, ◌++◌}
use mathlib.Core.Path.{◌≡◌}
use mathlib.Core.Logic.{◌⊎◌}
use lib.ListN.{length}
use Rattle.rules.specs.declared.Triangle.{Triangle}
use Rattle.rules.specs.Ring.{Node, Ring, vertex, start_or, reached}
use Rattle.rules.specs.Choice.{size_of, following}
use Rattle.rules.specs.Right.{OpenAt}
use Rattle.book.proofs.Shown.{Stays}
use Rattle.choice_theory.specs.Spots.{Unused}
use Rattle.choice_theory.proofs.Places.Corners.{end_or}

-- place i of ring l is one of c, entered from x and left to y, each by an open edge or one that has no other side in M
pub record Site (M : List Triangle) (ls : List Ring) (l i c x y : ℕ) : Type 0 where
  pub from : ℕ
  pub enter : Unused c x M ⊎ OpenAt ls l from x c
  pub leave : Unused y c M ⊎ OpenAt ls l i c y
  pub next : following (size_of ls l) from ≡ i

-- place i of ring l is one of c, between vertices x and y: the parts of the rings about it; an open edge enters it or leaves it
pub record Spotted (ls : List Ring) (l i c x y : ℕ) : Type 0 where
  pub before : List Ring
  pub us : List Node
  pub p : Node
  pub vs : List Node
  pub behind : List Ring
  pub whole : ls ≡ before ++ ((us ++ (p ∷ vs)) ∷ behind)
  pub number : length before ≡ l
  pub position : length us ≡ i
  pub own : vertex p ≡ c
  pub enter : end_or (end_or (vertex p) vs) us ≡ x
  pub leave : start_or (start_or (vertex p) us) vs ≡ y
  pub stays : Stays us p

-- the number of the place in the rings shown
abbrev pub seat : {ls : List Ring} {l i c x y : ℕ} → Spotted ls l i c x y → ℕ
seat s = length (reached s.us false)
