-- `grid::put_positions`: the first i positions are those of the numbers.
-- Assumes nothing.
use Rattle.std.proofs.Common.{length, ◌≡◌}
use Rattle.pack.specs.Texts.{StandFor}
use Rattle.pack.proofs.grid.put_positions.Given as goal

abbrev pub invariant-loop-i : goal.invariant-loop-i
invariant-loop-i l = StandFor l.numbers l.i l.positions × (length l.positions ≡ length l.initial.positions)
