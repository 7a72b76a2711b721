use Prim.Native.Nat.{◌*◌}
use lib.ListN.{length}
use Rattle.wire_theory.proofs.Grid.{InGridFrom}
use Rattle.positions.proofs.writing.are_positions.Given as goal

abbrev pub invariant-loop-i : goal.invariant-loop-i
invariant-loop-i l = InGridFrom (length l.positions) (3 * l.v) l.positions l.i
