use Rattle.std.proofs.Common.{subst}
use Rattle.mesh_theory.specs.Chains.Linked.{CountsFrom}
use Rattle.mesh_theory.proofs.Chains.Fans.{fan_empty, fan_some, fan_test}
use Rattle.mesh.proofs.Noting.{fresh_before}
use Rattle.mesh.proofs.fans.is_fan.Goals as goal

pub returns-then-c-eq0-clause-fan : goal.returns-then-c-eq0-clause-fan
returns-then-c-eq0-clause-fan c = fan_empty _ _ c.requires.0 _ _ c.corners_of-corners.ensures.entry c.if-c-eq0.true

pub returns-then-c-eq0-clause-fresh : goal.returns-then-c-eq0-clause-fresh
returns-then-c-eq0-clause-fresh c = fresh_before c.args.notes.now c.args.v c.requires.2

pub overflow_sub-n : goal.overflow_sub-n
overflow_sub-n c = fan_some _ _ c.requires.0 _ _ c.corners_of-corners.ensures.entry c.if-c-eq0.false _
    (subst (λ cs. CountsFrom cs c.corners_of-corners.result.entry c.note_all-n.result) c.corners_of-corners.ensures.chains
    c.note_all-n.ensures.counts)

pub returns-clause-fan : goal.returns-clause-fan
returns-clause-fan c = fan_test _ _ c.requires.0 _ _ c.corners_of-corners.ensures.entry c.if-c-eq0.false _
    (subst (λ cs. CountsFrom cs c.corners_of-corners.result.entry c.note_all-n.result) c.corners_of-corners.ensures.chains
    c.note_all-n.ensures.counts)
    _ _ c.corner_after.ensures.0 c.corner_before.ensures.0 _ (c.turn_on.ensures _ c.note_all-n.ensures.notes)
