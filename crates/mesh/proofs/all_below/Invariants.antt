use Prim.Native.Nat.{◌≤◌}
use lib.ListN.{length}
use Rattle.mesh_theory.proofs.Chains.Listing.{BelowTo}
use Rattle.mesh.proofs.all_below.Given as goal

abbrev pub invariant-loop-x : goal.invariant-loop-x
invariant-loop-x l = (l.x-index ≤ length l.list) × BelowTo l.v l.list l.x-index l.below
