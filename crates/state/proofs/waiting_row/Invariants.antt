use Rattle.std.proofs.Common.{◌≡◌}
use Rattle.state_theory.specs.Reading.Closing.{waiting_row}
use Rattle.state.proofs.waiting_row.Given as goal

abbrev pub invariant-loop-w : goal.invariant-loop-w
invariant-loop-w l = l.row ≡ waiting_row l.m l.a l.w
