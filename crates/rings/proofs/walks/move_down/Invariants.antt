use Rattle.std.specs.Prelude.{◌≡◌, ◌+◌, ◌-◌}
use Rattle.border_theory.proofs.Ways.Stacking.{Moves}
use Rattle.rings.proofs.walks.move_down.Given as goal

abbrev pub invariant-loop-to : goal.invariant-loop-to
invariant-loop-to g l =
    let m = g.M.LoopMemory in
    Moves (m.places l.initial.m) (m.numbers l.initial.m) l.l l.k (m.numbers l.m) l.to (l.l + l.k - l.to)
    × (m.places l.m ≡ m.places l.initial.m) × (m.records l.m ≡ m.records l.initial.m) × (m.lender l.m ≡ m.lender l.initial.m)
