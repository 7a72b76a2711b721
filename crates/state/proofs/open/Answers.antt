-- The tests in their order, and what is made of a state that passes.
use Rattle.std.proofs.Common.{rules}
use Rattle.state_theory.proofs.Opening.Passed.{fails_first, fails_second, live_few, opens}
use Rattle.state.proofs.open.Goals as goal

pub returns-then-not-numbers_fit : goal.returns-then-not-numbers_fit
returns-then-not-numbers_fit c = fails_first _ _ _ _ _ c.numbers_fit.ensures c.if-not-numbers_fit.true

pub mark_loops-requires : goal.mark_loops-requires
mark_loops-requires c = live_few c.args.b c.args.triangles.now c.args.n _ c.numbers_fit.ensures c.if-not-numbers_fit.false

pub returns-then-not-mark_loops : goal.returns-then-not-mark_loops
returns-then-not-mark_loops c = fails_second _ _ _ _ _ _ _ _ c.requires.0 c.numbers_fit.ensures c.if-not-numbers_fit.false
    c.mark_loops.ensures c.if-not-mark_loops.true

pub wait_loops-requires : goal.wait_loops-requires
wait_loops-requires c =
    (live_few c.args.b c.args.triangles.now c.args.n _ c.numbers_fit.ensures c.if-not-numbers_fit.false, search rules)

pub front_of-requires : goal.front_of-requires
front_of-requires c = live_few c.args.b c.args.triangles.now c.args.n _ c.numbers_fit.ensures c.if-not-numbers_fit.false

pub returns : goal.returns
returns c = opens c.args.b c.args.triangles.now c.args.n c.args.m.now _ _ _ _ _ _ _ c.requires.0 c.requires.1
    c.numbers_fit.ensures c.if-not-numbers_fit.false c.mark_loops.ensures
    c.if-not-mark_loops.false c.free_rest-free.ensures c.wait_loops.ensures (search rules) c.front_of.ensures
