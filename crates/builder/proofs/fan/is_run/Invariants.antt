use Rattle.state_theory.specs.Finishing.Turning.{Holds}
use Rattle.builder.proofs.fan.is_run.Given as goal

abbrev pub invariant-loop-t : goal.invariant-loop-t
invariant-loop-t l = Holds l.v l.triangles l.t l.edges.from l.edges.to l.edges.count
