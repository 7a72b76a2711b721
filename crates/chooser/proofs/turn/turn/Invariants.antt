use Prim.Native.Nat.{◌-◌, ◌/◌}
use mathlib.Core.Path.{◌≡◌}
use lib.ListN.{length}
use Rattle.chooser.proofs.Turning.{Turns}
use Rattle.chooser.proofs.turn.turn.Given as goal

abbrev pub invariant-loop : goal.invariant-loop
invariant-loop l = (l.end ≡ length l.list / 3) × Turns l.way l.list l.built l.c l.first l.last (l.end - l.counter)
