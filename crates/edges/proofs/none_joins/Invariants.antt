use Prim.Native.Nat.{◌≤◌}
use mathlib.Core.Path.{◌≡◌}
use Rattle.edges.specs.Joined.{none_joins}
use Rattle.edges.proofs.none_joins.Given as goal

abbrev pub invariant-loop-j : goal.invariant-loop-j
invariant-loop-j l = (l.j ≤ l.n) × (none_joins l.xs l.j l.x l.y ≡ none_joins l.xs l.n l.x l.y)
