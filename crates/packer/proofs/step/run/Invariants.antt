use Prim.Native.Nat.{◌-◌, ◌≤◌}
use Rattle.pack_theory.proofs.Packing.Running.{Loop}
use Rattle.pack_theory.proofs.Packing.Order.{OrderLoop}
use Rattle.packer.proofs.step.run.Given as goal

abbrev pub invariant-loop : goal.invariant-loop
invariant-loop l = (l.counter ≤ l.budget)
    × Loop l.list l.chains l.budget l.initial.t l.initial.built l.initial.numbering l.initial.buffer l.initial.m (l.budget - l.counter)
    l.t l.at l.built l.numbering l.buffer l.m
    × OrderLoop l.list l.budget l.initial.t l.initial.built l.initial.numbering l.initial.m l.initial.order (l.budget - l.counter) l.t
    l.built
    l.numbering l.m l.order
