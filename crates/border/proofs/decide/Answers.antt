use Rattle.border_theory.proofs.Memory.Ready.{ready_proposes, ready_free}
use Rattle.border.proofs.decide.Goals as goal

pub propose-requires : goal.propose-requires
propose-requires g c = ready_proposes _ _ _ c.requires

pub test_room-requires : goal.test_room-requires
test_room-requires g c = rw c.capacity.ensures (ready_free _ _ _ c.requires)
