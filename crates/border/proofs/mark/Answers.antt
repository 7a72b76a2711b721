use Rattle.border_theory.proofs.Memory.Ready.{ready_borders}
use Rattle.border_theory.proofs.Memory.Done.{marked_counts}
use Rattle.border.proofs.mark.Goals as goal

pub mark_border-l-requires : goal.mark_border-l-requires
mark_border-l-requires g c = ready_borders _ _ _ c.requires.0 c.requires.1

pub count_marked-requires : goal.count_marked-requires
count_marked-requires g c =
    rw (c.capacity.ensures, c.mark_border-l.ensures.kept.0) (marked_counts _ _ _ _ c.requires c.mark_border-l.ensures.loops)
