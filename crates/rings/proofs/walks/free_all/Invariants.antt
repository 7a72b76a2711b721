use Rattle.std.specs.Prelude.{◌≡◌}
use Rattle.border_theory.proofs.Ways.Stacking.{Frees}
use Rattle.rings.proofs.walks.free_all.Given as goal

abbrev pub invariant-loop-i : goal.invariant-loop-i
invariant-loop-i g l =
    let m = g.M.LoopMemory in
    Frees (m.places l.initial.m) (m.numbers l.initial.m) (m.numbers l.m) l.i × (m.places l.m ≡ m.places l.initial.m)
    × (m.records l.m ≡ m.records l.initial.m) × (m.lender l.m ≡ m.lender l.initial.m)
