use native.Mathlib.Omega.{arith}
use Prim.Native.Nat.{◌<◌}
use Rattle.rules.specs.Limits.{max_vertices}
use Rattle.mesh_theory.proofs.Chains.Walking.{newest_out, newest_over, newest_short}
use Rattle.corners.proofs.newest.Goals as goal
use Rattle.corners.proofs.newest.Goals.{then-c-gt-CORNERS-via-then-c-gt-CORNERS, then-c-gt-CORNERS-via-else-c-gt-CORNERS+then-list-c}

pub returns-then-from-ge-VERTICES : goal.returns-then-from-ge-VERTICES
returns-then-from-ge-VERTICES c = newest_out _ _ _ (omega (arith, c.from.ensures, c.if-from-ge-VERTICES.true))

pub returns-then-c-gt-CORNERS : goal.returns-then-c-gt-CORNERS
returns-then-c-gt-CORNERS c =
    let small : c.args.v < max_vertices = omega (arith, c.from.ensures, c.if-from-ge-VERTICES.false) in
    elim c.then-c-gt-CORNERS.branch [
      | then-c-gt-CORNERS-via-then-c-gt-CORNERS w ↦ newest_over _ _ _ _ c.from-c.ensures small w.if-c-gt-CORNERS.true
      | then-c-gt-CORNERS-via-else-c-gt-CORNERS+then-list-c w ↦
          newest_short _ _ _ _ c.from-c.ensures small w.if-list-c.true
    ]
