use Prim.Native.Nat.{◌≤◌, ◌+◌, ◌*◌, ◌/◌}
use mathlib.Core.Path.{◌≡◌}
use lib.ListN.{length}
use Rattle.rules.specs.Limits.{max_numbers}
use Rattle.mesh_theory.proofs.Chains.Walking.{Counting}
use Rattle.mesh.proofs.Noting.{Noting}
use Rattle.mesh.proofs.fans.note_all.Given as goal

abbrev pub invariant-loop-c : goal.invariant-loop-c
invariant-loop-c l =
    let it = l.c-iterator in
    (it.chains.now ≡ l.fn.corners.chains.now) × (l.n + it.entry ≤ max_numbers) × (3 * ((it.entry + 2) / 3) ≤ length l.list)
    × Counting l.fn.corners.chains.now l.fn.corners.entry l.n it.entry × Noting l.list l.v l.notes it.entry
