use Prim.Native.Nat.{◌≤◌, ◌+◌, ◌*◌, ◌/◌}
use lib.ListN.{length}
use Rattle.rules.specs.Limits.{max_numbers}
use Rattle.mesh_theory.proofs.Chains.Finding.{Walks}
use Rattle.corners.proofs.across.Given as goal

abbrev pub invariant-loop-c : goal.invariant-loop-c
invariant-loop-c l = (l.c ≤ max_numbers) × (3 * ((l.c + 2) / 3) ≤ length l.list) × Walks l.list l.chains l.p l.q l.c

abbrev pub decreases-loop-c : goal.decreases-loop-c
decreases-loop-c l = l.c
