-- The turns passed come to the state, and leave what lies past the triangles stated; the reader has the bytes.
use Rattle.std.proofs.Common.{◌≡◌, ◌-◌, ◌≤◌}
use Rattle.unpack_theory.specs.Runs.{Beyond, ComesFrom}
use Rattle.unpacker.proofs.step.run.Given as goal

abbrev pub invariant-loop : goal.invariant-loop
invariant-loop g l = record {
  bytes : l.r.bytes.now ≡ l.ops;
  left : l.counter ≤ l.budget;
  comes : ComesFrom l.ops l.budget l.initial.s l.initial.triangles (g.M.LoopMemory.numbers l.initial.m) l.initial.chains l.initial.met
      (l.budget - l.counter) l.s
      l.r.at
      l.triangles (g.M.LoopMemory.numbers l.m) l.chains l.met;
  kept : (g.M.LoopMemory.places l.m ≡ g.M.LoopMemory.places l.initial.m)
      × (g.M.LoopMemory.records l.m ≡ g.M.LoopMemory.records l.initial.m)
      × (g.M.LoopMemory.lender l.m ≡ g.M.LoopMemory.lender l.initial.m);
  beyond : Beyond l.initial.s.stated l.initial.triangles l.triangles;
}
