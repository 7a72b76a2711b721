use Rattle.std.proofs.Common.{◌-◌}
use Rattle.rules.specs.Limits.{max_places}
use Rattle.border_theory.specs.Records.Plain.{records}
use Rattle.state_theory.proofs.Opening.Walking.{Walking}
use Rattle.state.proofs.marks.mark_walk.Given as goal

abbrev pub invariant-loop : goal.invariant-loop
invariant-loop l = Walking (records max_places l.m) l.v l.initial.flags l.k l.e l.flags (l.k - l.counter) l.at
