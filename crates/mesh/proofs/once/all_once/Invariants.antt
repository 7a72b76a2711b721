use Prim.Native.Nat.{◌≤◌}
use Rattle.rules.specs.Limits.{max_vertices}
use Rattle.mesh.specs.Stamps.{Stamped}
use Rattle.mesh.proofs.Stamping.{OnceBelow}
use Rattle.mesh.proofs.once.all_once.Given as goal

abbrev pub invariant-loop-u : goal.invariant-loop-u
invariant-loop-u l = (l.v ≤ max_vertices) × OnceBelow l.list l.u × Stamped l.stamps l.u
