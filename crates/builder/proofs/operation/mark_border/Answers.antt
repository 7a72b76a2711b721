use Rattle.border_theory.proofs.Memory.Ready.{ready_near}
use Rattle.state_theory.proofs.Performing.Operating.{marked_given}
use Rattle.builder.proofs.operation.mark_border.Goals as goal

pub by_border-places-requires : goal.by_border-places-requires
by_border-places-requires c = ready_near _ c.args.f _ c.requires.0 c.requires.1.0

pub returns : goal.returns
returns c = marked_given c.args.f c.args.m.now _ _ _ _ _ c.mark-marked.ensures.state c.mark-marked.ensures.memory c.close.ensures
    c.by_border-places.ensures c.note.ensures
