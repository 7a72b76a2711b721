use Prim.Native.Nat.{ℕ, ◌≤◌}
use mathlib.Core.List.{List}
use mathlib.Core.Path.{◌≡◌}
use Rattle.rules.specs.Check.{all_used}
use Rattle.rules.specs.Triangle.{triangles_of, corners}
use Rattle.mesh_theory.specs.Chains.Linked.{Linked}
use Rattle.mesh.proofs.all_used.Given as goal

abbrev pub invariant-loop-u : goal.invariant-loop-u
invariant-loop-u l = (l.u ≤ l.v)
    × ((xs : List ℕ) → Linked xs l.chains → all_used l.u (corners (triangles_of xs)) ≡ all_used l.v (corners (triangles_of xs)))
