use Rattle.chooser.proofs.Counting.{Counting}
use Rattle.chooser.proofs.seek.count_to.Given as goal

abbrev pub invariant-loop-i : goal.invariant-loop-i
invariant-loop-i l = Counting l.m l.k l.p l.x l.y l.i l.at
