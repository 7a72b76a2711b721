use Rattle.std.specs.Prelude.{◌≡◌, ◌+◌, ◌-◌}
use Rattle.border_theory.proofs.Ways.Stacking.{Releases}
use Rattle.rings.proofs.walks.release.Given as goal

abbrev pub invariant-loop-i : goal.invariant-loop-i
invariant-loop-i g l =
    let m = g.M.LoopMemory in
    Releases (m.places l.initial.m) (m.numbers l.initial.m) l.k l.j l.p (m.numbers l.m) (l.k + l.i) (l.j - l.i) l.at
    × (m.places l.m ≡ m.places l.initial.m) × (m.records l.m ≡ m.records l.initial.m) × (m.lender l.m ≡ m.lender l.initial.m)
