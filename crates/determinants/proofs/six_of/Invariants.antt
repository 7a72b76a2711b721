use Rattle.rules.specs.Grid.{positions_from}
use Rattle.volume_theory.proofs.Measuring.{Summed}
use Rattle.determinants.proofs.six_of.Given as goal

abbrev pub invariant-loop-t : goal.invariant-loop-t
invariant-loop-t l = Summed l.n (positions_from l.field) l.triangles l.t l.sum
