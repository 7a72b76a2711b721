use Rattle.border_theory.proofs.Memory.Near.{near_marked}
use Rattle.rings.proofs.surgery.mark_edge.Goals as goal

pub close-requires : goal.close-requires
close-requires g c = rw c.store_edge.ensures.kept.0
    (near_marked _ _ _ _ _ _ c.requires c.next-f.ensures.value (rw c.current-e.ensures.value at c.store_edge.ensures.value))
