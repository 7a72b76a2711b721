-- The reading goes on from the counts stated: as many operations may be read as turns are left, which are more than the bits.
use Rattle.std.proofs.Common.{◌≡◌, ◌+◌, ◌*◌, ◌-◌, ◌≤◌, length}
use Rattle.melting_theory.specs.Runs.{GoingOn}
use Rattle.melting.proofs.run.run.Given as goal

abbrev pub invariant-loop : goal.invariant-loop
invariant-loop l = record {
  left : l.counter ≤ 8 * length l.ops + 1;
  going : GoingOn l.ops l.field (8 * length l.ops + 1 - l.counter) l.p l.m;
  stated : l.p.front.stated ≡ l.initial.p.front.stated;
}
