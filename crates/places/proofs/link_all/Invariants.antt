-- The records passed are linked.
use Rattle.std.proofs.Common.{◌≡◌, ◌≤◌}
use Rattle.border_theory.specs.Records.Notes.{linked_to}
use Rattle.places.proofs.link_all.Given as goal

abbrev pub invariant-loop-k : goal.invariant-loop-k
invariant-loop-k l = (l.k ≤ l.k-end) × (l.s ≡ linked_to l.k l.m l.initial.s)
