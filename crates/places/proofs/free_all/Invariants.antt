-- The records passed are free.
use Rattle.std.proofs.Common.{◌-◌, ◌≡◌, ◌≤◌}
use Rattle.border_theory.specs.Records.Notes.{freed_to, freed_start, freed_end}
use Rattle.places.proofs.free_all.Given as goal

abbrev pub invariant-loop-k : goal.invariant-loop-k
invariant-loop-k l =
    (freed_start l.m ≤ l.k) × (l.k - freed_start l.m ≤ freed_end l.m - freed_start l.m)
    × (l.s ≡ freed_to (l.k - freed_start l.m) (freed_start l.m) l.m l.initial.s)
