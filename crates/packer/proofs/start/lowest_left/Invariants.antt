use Rattle.pack_theory.proofs.Packing.Ways.{Seeking}
use Rattle.packer.proofs.start.lowest_left.Given as goal

abbrev pub invariant-loop-i : goal.invariant-loop-i
invariant-loop-i l = Seeking l.built l.k l.n l.i
