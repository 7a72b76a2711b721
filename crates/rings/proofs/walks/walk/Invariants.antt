use Rattle.std.specs.Prelude.{◌≡◌, ◌≤◌}
use Rattle.border_theory.specs.Memory.Layout.{walked}
use Rattle.rings.proofs.walks.walk.Given as goal

abbrev pub invariant-loop : goal.invariant-loop
invariant-loop g l = (l.counter ≤ l.i) × (l.at ≡ walked (g.M.LoopMemory.numbers l.m) l.counter l.p)
