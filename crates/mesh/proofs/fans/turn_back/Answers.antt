use Rattle.std.proofs.Common.{arith, ap, ◌≡◌, ◌-◌, ◌+◌, ◌∙◌}
use Rattle.mesh_theory.specs.Chains.Turn.{left_back}
use Rattle.mesh_theory.proofs.Chains.Fans.{back_none}
use Rattle.mesh.proofs.Noting.{turned_back, start_met}
use Rattle.mesh.proofs.fans.turn_back.Goals as goal

pub returns-then-notes-j : goal.returns-then-notes-j
returns-then-notes-j c = λ ts h.
    start_met _ _ _ _ (omega (arith, c.loop-reached-test.true)) ts h c.if-notes-j.true ∙ c.loop-reached.invariant.1 ts h

pub loop-reached-preserved : goal.loop-reached-preserved
loop-reached-preserved c =
    let e : c.args.n - (c.loop-reached.reached + 1) ≡ c.args.n - c.loop-reached.reached - 1 = omega arith in (
      c.requires.2 _ c.if-notes-j.false,
      λ ts h. ap (left_back ts c.args.v _) e ∙ turned_back _ _ _ _ (omega (arith, c.loop-reached-test.true)) ts h c.if-notes-j.false
          ∙ c.loop-reached.invariant.1 ts h,
    )

pub returns : goal.returns
returns c =
    let e : 0 ≡ c.args.n - c.loop-reached.reached = omega (arith, c.loop-reached-test.false) in
    λ ts h. e ∙ back_none ts _ _ _ (omega (arith, e)) ∙ c.loop-reached.invariant.1 ts h
