use Rattle.std.proofs.Common.{◌≡◌}
use Rattle.state_theory.specs.Finishing.Turning.{latest_left}
use Rattle.builder.proofs.fan.latest_left.Given as goal

abbrev pub invariant-loop-i : goal.invariant-loop-i
invariant-loop-i l = latest_left l.ends l.gone l.x l.i ≡ latest_left l.ends l.gone l.x l.n
