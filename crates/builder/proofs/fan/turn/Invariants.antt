use Rattle.std.proofs.Common.{◌≡◌, ◌-◌}
use Rattle.state_theory.specs.Finishing.Turning.{turned}
use Rattle.builder.proofs.fan.turn.Given as goal

abbrev pub invariant-loop : goal.invariant-loop
invariant-loop l = turned l.near l.far l.n (l.n - l.counter) l.at l.gone ≡ turned l.near l.far l.n l.n l.x l.initial.gone
