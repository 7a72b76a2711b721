-- What the tests before the run come to, one law for each way through: the check finds them by this set, whatever a condition is called.
-- Assumes nothing.
use Rattle.mesh_theory.proofs.Chains.Checking.{answers_no}
use Rattle.pack_theory.proofs.Packing.Rooms.{rooms_short, rooms_order, rooms_pass}

pub ruleset rooms = (answers_no, rooms_short, rooms_order, rooms_pass)
