use Prim.Native.Nat.{◌*◌}
use lib.ListN.{length}
use Rattle.rules.specs.Grid.{positions_from}
use Rattle.wire_theory.proofs.Grid.{InGridFrom}
use Rattle.positions.proofs.field.is_field.Given as goal

abbrev pub invariant-loop-i : goal.invariant-loop-i
invariant-loop-i l = InGridFrom (length l.field) (6 * l.v) (positions_from l.field) l.i
