use Prim.Native.Nat.{◌-◌}
use Rattle.chooser.proofs.Looking.{Looking}
use Rattle.chooser.proofs.seek.waiting_seat.Given as goal

abbrev pub invariant-loop-w : goal.invariant-loop-w
invariant-loop-w l = Looking l.m l.x l.y (l.l.live - 1) 1 (l.l.live - l.w) l.w
