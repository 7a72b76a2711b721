use Prim.Native.Nat.{◌≤◌, ◌+◌, ◌*◌, ◌/◌}
use mathlib.Core.Path.{◌≡◌}
use lib.ListN.{length}
use Rattle.mesh.proofs.Stamping.{Stamping}
use Rattle.mesh.proofs.once.leaves_once.Given as goal

abbrev pub invariant-loop-c : goal.invariant-loop-c
invariant-loop-c l =
    let it = l.c-iterator in
    (it.chains.now ≡ l.chains) × (3 * ((it.entry + 2) / 3) ≤ length l.list)
    × Stamping l.list (3 * (length l.list / 3)) l.v l.stamps it.entry
