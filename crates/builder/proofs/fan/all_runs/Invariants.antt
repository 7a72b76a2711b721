use Prim.Native.Nat.{◌≤◌}
use mathlib.Core.Path.{◌≡◌}
use Rattle.rules.specs.Fan.{one_fan_each}
use Rattle.rules.specs.View.{triangles_built}
use Rattle.builder.proofs.fan.all_runs.Given as goal

abbrev pub invariant-loop-u : goal.invariant-loop-u
invariant-loop-u l = (l.u ≤ l.v) × (one_fan_each l.u (triangles_built l.triangles l.n) ≡ one_fan_each l.v (triangles_built l.triangles l.n))
