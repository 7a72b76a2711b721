use Prim.Native.Nat.{◌≤◌, ◌+◌, ◌*◌, ◌/◌}
use mathlib.Core.Path.{◌≡◌}
use lib.ListN.{length}
use Rattle.corners.proofs.Joining.{Joins}
use Rattle.corners.proofs.is_unjoined.Given as goal

abbrev pub invariant-loop-c : goal.invariant-loop-c
invariant-loop-c l =
    let it = l.c-iterator in
    (it.chains.now ≡ l.chains) × (3 * ((it.entry + 2) / 3) ≤ length l.list) × Joins l.list l.chains l.x l.y it.entry
