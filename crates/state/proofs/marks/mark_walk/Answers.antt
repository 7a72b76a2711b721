use Rattle.std.proofs.Common.{arith}
use Rattle.state_theory.proofs.Opening.Walking.{walk_stop, walk_more, walk_done}
use Rattle.state.proofs.marks.mark_walk.Goals as goal

pub returns-then-not-mark_place : goal.returns-then-not-mark_place
returns-then-not-mark_place c =
    walk_stop _ _ _ _ _ _ _ _ _ _ _ c.loop.invariant (omega arith) c.mark_place.ensures c.if-not-mark_place.true

pub loop-preserved : goal.loop-preserved
loop-preserved c =
    walk_more _ _ _ _ _ _ _ _ _ _ _ _ c.loop.invariant (omega arith) c.mark_place.ensures c.if-not-mark_place.false c.place_at-at.ensures

pub returns : goal.returns
returns c = walk_done _ _ _ _ _ _ _ _ c.loop.invariant (omega arith)
