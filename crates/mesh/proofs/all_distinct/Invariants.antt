use Prim.Native.Nat.{◌≤◌, ◌*◌, ◌/◌}
use mathlib.Core.Path.{◌≡◌}
use lib.ListN.{length, drop}
use Rattle.rules.specs.Check.{all_distinct}
use Rattle.rules.specs.Triangle.{triangles_of}
use Rattle.mesh.proofs.all_distinct.Given as goal

abbrev pub invariant-loop-t : goal.invariant-loop-t
invariant-loop-t l = (l.t-end ≡ length l.list / 3) × (l.t ≤ l.t-end)
    × (all_distinct (triangles_of (drop (3 * l.t) l.list)) ≡ all_distinct (triangles_of l.list))
