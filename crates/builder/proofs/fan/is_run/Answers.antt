use Rattle.std.proofs.Common.{arith, rules, ◌≡◌}
use Rattle.rules.specs.Limits.{max_triangles}
use Rattle.state_theory.proofs.Finishing.Turning.{holds_none, holds_more, no_run, is_run}
use Rattle.builder.proofs.fan.is_run.Goals as goal

pub loop-t-init : goal.loop-t-init
loop-t-init c = holds_none _ _ _ _ (search rules)

pub loop-t-preserved : goal.loop-t-preserved
loop-t-preserved c = holds_more _ _ _ _ _ _ _ _ _ (omega (arith, c.requires.0)) c.loop-t.invariant c.see.ensures

pub returns-in_default : goal.returns-in_default
returns-in_default c =
    let e : c.loop-t.t ≡ c.args.n = omega arith in
    no_run _ _ _ _ (search rules) (rw e at c.loop-t.invariant.edges)

pub returns : goal.returns
returns c =
    let e : c.loop-t.t ≡ c.args.n = omega arith in
    is_run _ _ max_triangles _ (search rules) _ (search rules) _ (rw e at c.loop-t.invariant.edges) _ _ c.turn.ensures c.turn-2.ensures _
    c.all_taken.ensures
