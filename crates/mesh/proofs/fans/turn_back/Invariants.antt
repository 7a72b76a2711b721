use Prim.Native.Nat.{◌<◌, ◌-◌}
use mathlib.Core.List.{List}
use mathlib.Core.Path.{◌≡◌}
use Rattle.rules.specs.declared.Triangle.{Triangle}
use Rattle.rules.specs.Limits.{max_vertices}
use Rattle.mesh_theory.specs.Chains.Turn.{left_back}
use Rattle.mesh.specs.Turns.{Noted}
use Rattle.mesh.proofs.fans.turn_back.Given as goal

abbrev pub invariant-loop-reached : goal.invariant-loop-reached
invariant-loop-reached l = (l.from < max_vertices)
    × ((ts : List Triangle) → Noted ts l.v l.notes → left_back ts l.v l.from (l.n - l.reached) ≡ left_back ts l.v l.x l.n)
