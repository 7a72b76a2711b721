-- The last numbers of the records passed are 0 or 1.
use Rattle.border_theory.proofs.Records.Settling.{Settled}
use Rattle.places.proofs.settle.Given as goal

abbrev pub invariant-loop-i : goal.invariant-loop-i
invariant-loop-i l = Settled l.initial.m l.m l.i
