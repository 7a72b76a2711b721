use Rattle.state_theory.specs.Opening.Front.{FreedBelow}
use Rattle.state.proofs.front.free_rest.Given as goal

abbrev pub invariant-loop-i : goal.invariant-loop-i
invariant-loop-i l = FreedBelow l.flags l.initial.m l.i l.free l.m
