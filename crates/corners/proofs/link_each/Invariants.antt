use Prim.Native.Nat.{◌/◌}
use mathlib.Core.Path.{◌≡◌}
use lib.ListN.{length}
use Rattle.mesh_theory.proofs.Chains.Listing.{LinkedUpTo}
use Rattle.corners.proofs.link_each.Given as goal

abbrev pub invariant-loop-t : goal.invariant-loop-t
invariant-loop-t l = (l.t-end ≡ length l.list / 3) × LinkedUpTo l.list l.t l.chains
