use Prim.Native.Nat.{◌-◌}
use Rattle.wire_theory.proofs.Grid.{one_outside, all_tested}
use Rattle.positions_theory.proofs.Words.{test_told}
use Rattle.positions.proofs.writing.are_positions.Goals as goal

pub returns-then-not-is_position : goal.returns-then-not-is_position
returns-then-not-is_position c = one_outside _ _ _ _ c.loop-i.invariant _
    (test_told _ c.args.positions.now (c.loop-i.i - 1) c.is_position-arg-1.given c.is_position.ensures)
    c.if-not-is_position.true

pub returns : goal.returns
returns c = all_tested _ _ _ _ c.loop-i.invariant c.loop-i-test.false
