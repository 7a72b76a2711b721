use Prim.Native.Nat.{◌≤◌}
use lib.ListN.{length}
use Rattle.positions_theory.specs.Filling.{Filled, place_of, word_of}
use Rattle.positions.proofs.writing.put_positions.Given as goal

abbrev pub invariant-loop-i : goal.invariant-loop-i
invariant-loop-i l = (l.i ≤ length l.positions)
    × Filled l.initial.buffer l.from (length l.positions) (place_of l.numbering) (word_of l.positions) l.i l.buffer
