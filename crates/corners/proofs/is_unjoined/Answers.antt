use Rattle.std.proofs.Common.{arith, sym, ap, ◌≡◌, ◌-◌, ◌∙◌, subst}
use Rattle.mesh_theory.specs.Chains.Corner.{corner_after, corner_before}
use Rattle.mesh_theory.specs.Chains.Linked.{Older}
use Rattle.corners.proofs.Joining.{join_start, join_more, join_after, join_before, join_none}
use Rattle.corners.proofs.is_unjoined.Goals as goal
use Rattle.corners.proofs.is_unjoined.Goals.{then-list-corner_after-via-then-list-corner_after}
use Rattle.corners.proofs.is_unjoined.Goals.{then-list-corner_after-via-else-list-corner_after+then-list-corner_before}

pub loop-c-init : goal.loop-c-init
loop-c-init c =
    let k = c.corners_of-c-items.ensures.entry in
    rw c.into_iter-c-iterator.ensures.into_iter_gives (c.corners_of-c-items.ensures.chains, k.whole, join_start _ k)

pub returns-then-list-corner_after : goal.returns-then-list-corner_after
returns-then-list-corner_after c =
    let s = c.in-Some.ensures.steps in
    let e : c.loop-c.c-iterator.entry - 1 ≡ c.in-Some.c = omega (arith, s.0) in
    elim c.then-list-corner_after.branch [
      | then-list-corner_after-via-then-list-corner_after w ↦
          join_after _ _ c.loop-c.invariant.2 (omega (arith, s.0)) (c.corner_after.ensures.0 ∙ ap corner_after (sym e))
          w.if-list-corner_after.true
      | then-list-corner_after-via-else-list-corner_after+then-list-corner_before w ↦
          join_before _ _ c.loop-c.invariant.2 (omega (arith, s.0)) (w.corner_before.ensures.0 ∙ ap corner_before (sym e))
          w.if-list-corner_before.true
    ]

pub loop-c-preserved : goal.loop-c-preserved
loop-c-preserved c =
    let s = c.in-Some.ensures.steps in
    let e : c.loop-c.c-iterator.entry - 1 ≡ c.in-Some.c = omega (arith, s.0) in
    let older = subst (λ cs. Older cs c.in-Some.c c.next.new.self.entry) c.loop-c.invariant.0 s.1 in (
      ap (λ r. r.now) s.2 ∙ c.loop-c.invariant.0,
      omega (arith, s.0, older.less, c.loop-c.invariant.1),
      join_more _ _ _ _ c.loop-c.invariant.2 (omega (arith, s.0))
          (c.corner_after.ensures.0 ∙ ap corner_after (sym e)) c.if-list-corner_after.false
          (c.corner_before.ensures.0 ∙ ap corner_before (sym e)) c.if-list-corner_before.false
          (subst (λ d. Older c.args.chains.now d c.next.new.self.entry) (sym e) older),
    )

pub returns : goal.returns
returns c = join_none _ c.loop-c.invariant.2 (omega (arith, c.in-None.ensures.steps))
