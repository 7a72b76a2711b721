-- The records passed are cleared.
use Rattle.std.proofs.Common.{◌≡◌, ◌≤◌}
use Rattle.border_theory.specs.Records.Changes.{cleared_to}
use Rattle.places.proofs.clear.Given as goal

abbrev pub invariant-loop-i : goal.invariant-loop-i
invariant-loop-i l = (l.i ≤ l.n) × (l.s ≡ cleared_to l.i l.initial.s)
