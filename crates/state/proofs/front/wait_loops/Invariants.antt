use Rattle.state_theory.specs.Opening.Front.{Waited}
use Rattle.state.proofs.front.wait_loops.Given as goal

abbrev pub invariant-loop-w : goal.invariant-loop-w
invariant-loop-w l = Waited l.b l.initial.m l.w l.m
