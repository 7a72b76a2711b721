use Rattle.std.proofs.Common.{arith, refl, sym, ap, ◌≡◌, ◌-◌, ◌∙◌, subst}
use Rattle.mesh_theory.specs.Chains.Corner.{corner_after, corner_before}
use Rattle.mesh_theory.specs.Chains.Linked.{Older}
use Rattle.mesh_theory.proofs.Chains.Walking.{counting_start, counting_more}
use Rattle.mesh.proofs.Noting.{noting_start, noting_next, noting_all}
use Rattle.mesh.proofs.fans.note_all.Goals as goal

pub loop-c-init : goal.loop-c-init
loop-c-init c = rw c.into_iter-c-iterator.ensures.into_iter_gives (
  refl,
  omega (arith, c.requires.newest.0.most),
  c.requires.newest.0.whole,
  counting_start,
  noting_start c.args.list.now c.args.corners.chains.now c.requires.linked.0 c.args.v c.args.corners.entry c.requires.newest.0
      c.args.notes.now c.requires.newest.1,
)

pub loop-c-preserved : goal.loop-c-preserved
loop-c-preserved c =
    let s = c.in-Some.ensures.steps in
    let i = c.loop-c.invariant in
    let e : c.loop-c.c-iterator.entry - 1 ≡ c.in-Some.c = omega (arith, s.0) in
    let some = subst (λ cs. Older cs c.in-Some.c c.next.new.self.entry) i.0 s.1 in
    let older = subst (λ d. Older c.args.corners.chains.now d c.next.new.self.entry) (sym e) some in (
      ap (λ r. r.now) s.2 ∙ i.0,
      omega (arith, s.0, some.less, i.1),
      omega (arith, s.0, some.less, i.2),
      counting_more _ _ _ i.3 (omega (arith, s.0)) older,
      noting_next c.args.list.now c.args.corners.chains.now c.requires.linked.0 c.args.v c.loop-c.c-iterator.entry c.args.corners.entry
          c.corner_after.result c.next.new.self.entry c.corner_before.result c.loop-c.n c.loop-c.notes _ _ c.requires.newest.0 i.3
          i.4 (omega (arith, s.0)) (c.corner_after.ensures.0 ∙ ap corner_after (sym e)) (omega arith)
          (c.corner_before.ensures.0 ∙ ap corner_before (sym e)) (omega arith) c.note.ensures c.note-in-loop-c.ensures older,
    )

pub returns : goal.returns
returns c = noting_all c.args.list.now c.args.corners.chains.now c.requires.linked.0 c.args.v c.args.corners.entry
    c.loop-c.c-iterator.entry c.loop-c.n c.loop-c.notes c.loop-c.invariant.3 c.loop-c.invariant.4
    (omega (arith, c.in-None.ensures.steps))
