use Rattle.std.proofs.Common.{arith, ap, ◌≡◌, ◌-◌, ◌+◌, ◌∙◌}
use Rattle.mesh_theory.specs.Chains.Turn.{left_on}
use Rattle.mesh_theory.proofs.Chains.Fans.{on_none, on_stop}
use Rattle.mesh.proofs.Noting.{turned_on, end_met}
use Rattle.mesh.proofs.fans.turn_on.Goals as goal

pub returns-then-to-x : goal.returns-then-to-x
returns-then-to-x c = λ ts h.
    on_stop ts _ _ _ _ (omega (arith, c.loop-reached-test.true)) c.if-to-x.true ∙ c.loop-reached.invariant.1 ts h

pub returns-then-notes-j : goal.returns-then-notes-j
returns-then-notes-j c = λ ts h.
    end_met _ _ _ _ (omega (arith, c.loop-reached-test.true)) ts h _ _ c.if-to-x.false c.if-notes-j.true (c.turn_back.ensures ts h)
    ∙ c.loop-reached.invariant.1 ts h

pub loop-reached-preserved : goal.loop-reached-preserved
loop-reached-preserved c =
    let e : c.args.n - (c.loop-reached.reached + 1) ≡ c.args.n - c.loop-reached.reached - 1 = omega arith in (
      c.requires.3 _ c.if-notes-j.false,
      λ ts h. ap (left_on ts c.args.v c.args.x _) e
          ∙ turned_on _ _ _ _ (omega (arith, c.loop-reached-test.true)) ts h _ c.if-to-x.false c.if-notes-j.false
          ∙ c.loop-reached.invariant.1 ts h,
    )

pub returns : goal.returns
returns c =
    let e : 0 ≡ c.args.n - c.loop-reached.reached = omega (arith, c.loop-reached-test.false) in
    λ ts h. e ∙ on_none ts _ _ _ _ (omega (arith, e)) ∙ c.loop-reached.invariant.1 ts h
