use mathlib.Core.Path.{refl}
use Rattle.state_theory.proofs.Opening.Walking.{loops_stop, loops_more, loops_done}
use Rattle.state.proofs.marks.mark_loops.Goals as goal

pub returns-then-not-mark_loop : goal.returns-then-not-mark_loop
returns-then-not-mark_loop c = loops_stop _ _ _ _ _ _ _ _ _ _ _ c.loop-w.invariant c.loop-w-test.true refl refl c.mark_loop.ensures
    c.if-not-mark_loop.true

pub loop-w-preserved : goal.loop-w-preserved
loop-w-preserved c = loops_more _ _ _ _ _ _ _ _ _ _ c.loop-w.invariant c.loop-w-test.true refl refl c.mark_loop.ensures
    c.if-not-mark_loop.false

pub returns : goal.returns
returns c = loops_done _ _ _ _ _ _ c.loop-w.invariant c.loop-w-test.false
