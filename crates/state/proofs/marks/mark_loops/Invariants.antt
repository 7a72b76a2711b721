use Rattle.rules.specs.Limits.{max_places}
use Rattle.border_theory.specs.Records.Plain.{records}
use Rattle.state_theory.proofs.Opening.Walking.{Looping}
use Rattle.state.proofs.marks.mark_loops.Given as goal

abbrev pub invariant-loop-w : goal.invariant-loop-w
invariant-loop-w l = Looping l.b (records max_places l.m) l.initial.flags l.b.live l.flags l.w
