-- The records passed are loaded.
use Rattle.std.proofs.Common.{◌≡◌, ◌≤◌}
use Rattle.border_theory.specs.Records.Plain.{loaded}
use Rattle.places.proofs.load.Given as goal

abbrev pub invariant-loop-i : goal.invariant-loop-i
invariant-loop-i l = (l.i ≤ l.n) × (l.m ≡ loaded l.i l.s l.initial.m)
