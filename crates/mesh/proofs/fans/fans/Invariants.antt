use Prim.Native.Nat.{◌≤◌}
use mathlib.Core.Path.{◌≡◌}
use Rattle.rules.specs.Fan.{one_fan_each}
use Rattle.rules.specs.Triangle.{triangles_of}
use Rattle.mesh.specs.Turns.{Fresh}
use Rattle.mesh.proofs.fans.fans.Given as goal

abbrev pub invariant-loop-u : goal.invariant-loop-u
invariant-loop-u l = (l.u ≤ l.v) × (one_fan_each l.u (triangles_of l.list) ≡ one_fan_each l.v (triangles_of l.list)) × Fresh l.notes l.u
