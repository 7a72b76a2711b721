-- The state in which the packer chooses the place of c: what it keeps, and what must hold of it.
-- Assumes nothing.
use Rattle.std.specs.Prelude.{ℕ, suc, ◌≤◌, true, false, List, [], ◌∷◌, ◌≡◌, get_or, eqb}
use Rattle.rules.specs.declared.Triangle.{Triangle}
use Rattle.rules.specs.Across.{Found}
use Rattle.rules.specs.Limits.{max_places}
use Rattle.rules.specs.Triangle.{triangles_of}
use Rattle.rules.specs.Across.{across}
use Rattle.rules.specs.Right.{OpenAt}
use Rattle.choice_theory.specs.Spots.{Unused, Unique}
use Rattle.mesh_theory.specs.Chains.Linked.{Linked}
use Rattle.cutborder.specs.declared.Loops.{Loops}
use Rattle.border_theory.specs.Memory.Stands.{Stands, loops_in}

-- the flag of triangle i: 0 while it is not built
abbrev pub flag_of : List ℕ → ℕ → ℕ
flag_of flags i = get_or flags i 0

-- of the triangles ts, whose flags stand from i on, those that are not built, in the same order
unfoldable pub unbuilt : List ℕ → ℕ → List Triangle → List Triangle
unbuilt flags i [] = []
unbuilt flags i (t ∷ ts) = elim (eqb (flag_of flags i) 0) [ true ↦ t ∷ unbuilt flags (suc i) ts | false ↦ unbuilt flags (suc i) ts ]

-- those of a list of numbers
abbrev pub unbuilt_of : List ℕ → List ℕ → List Triangle
unbuilt_of flags xs = unbuilt flags 0 (triangles_of xs)

-- At an edge from a to b, with the triangle b a c: xs the list of numbers, cs its chains, flags those of its triangles, l and m
-- the loops, whose vertices are the list's own numbers.
pub record Choosable (xs cs flags m : List ℕ) (l : Loops) (a b c : ℕ) : Type 0 where
  -- no triangle has a vertex twice, no directed edge occurs twice
  pub linked : Linked xs cs
  pub stands : Stands max_places l m
  pub live : 1 ≤ l.live
  pub two : 2 ≤ l.size
  -- an open edge stands at one place, and it is an edge of the model
  pub unique : Unique (loops_in max_places l m)
  pub edges : (x y w i : ℕ) → OpenAt (loops_in max_places l m) w i x y → Unused x y (triangles_of xs) → ⊥
  -- b a c is triangle `number`, and its flag is set
  pub number : ℕ
  pub corner : ℕ
  pub found : across b a (triangles_of xs) ≡ Found number corner c
  pub built : flag_of flags number ≡ 0 → ⊥
