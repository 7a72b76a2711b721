use Rattle.std.proofs.Common.{arith, sym, ap, ◌≡◌, ◌-◌, ◌∙◌, subst}
use Rattle.mesh_theory.specs.Chains.Corner.{corner_after}
use Rattle.mesh_theory.specs.Chains.Linked.{Older}
use Rattle.mesh.proofs.Stamping.{stamping_start, stamping_more, stamping_twice, stamping_all}
use Rattle.mesh.proofs.once.leaves_once.Goals as goal

pub loop-c-init : goal.loop-c-init
loop-c-init c =
    let k = c.corners_of-c-items.ensures.entry in
    rw c.into_iter-c-iterator.ensures.into_iter_gives (
      c.corners_of-c-items.ensures.chains,
      k.whole,
      stamping_start c.requires.sound.0 c.requires.sound.1 c.args.v _ k _ c.requires.v_lt_max_vertices.1,
    )

pub returns-then-stamps-y : goal.returns-then-stamps-y
returns-then-stamps-y c =
    let s = c.in-Some.ensures.steps in
    let e : c.loop-c.c-iterator.entry - 1 ≡ c.in-Some.c = omega (arith, s.0) in
    stamping_twice c.requires.sound.0 c.requires.sound.1 c.args.v _ _ _ c.loop-c.invariant.2 (omega (arith, s.0))
    (c.corner_after.ensures.0 ∙ ap corner_after (sym e)) c.if-stamps-y.true

pub loop-c-preserved : goal.loop-c-preserved
loop-c-preserved c =
    let s = c.in-Some.ensures.steps in
    let e : c.loop-c.c-iterator.entry - 1 ≡ c.in-Some.c = omega (arith, s.0) in
    let older = subst (λ cs. Older cs c.in-Some.c c.next.new.self.entry) c.loop-c.invariant.0 s.1 in (
      ap (λ r. r.now) s.2 ∙ c.loop-c.invariant.0,
      omega (arith, s.0, older.less, c.loop-c.invariant.1),
      stamping_more c.requires.sound.0 c.requires.sound.1 c.args.v _ _ _ _ c.loop-c.invariant.2 (omega (arith, s.0))
          (c.corner_after.ensures.0 ∙ ap corner_after (sym e)) (omega arith) c.if-stamps-y.false
          (subst (λ d. Older c.args.chains.now d c.next.new.self.entry) (sym e) older),
    )

pub returns : goal.returns
returns c = stamping_all c.requires.sound.0 c.requires.sound.1 c.args.v _ _ c.loop-c.invariant.2 (omega (arith, c.in-None.ensures.steps))
