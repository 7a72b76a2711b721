use Prim.Native.Nat.{◌≤◌}
use mathlib.Core.Path.{◌≡◌}
use Rattle.state_theory.specs.Finishing.Turning.{all_taken}
use Rattle.builder.proofs.fan.all_taken.Given as goal

abbrev pub invariant-loop-i : goal.invariant-loop-i
invariant-loop-i l = (l.i ≤ l.n) × (all_taken l.gone l.i ≡ all_taken l.gone l.n)
