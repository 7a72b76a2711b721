-- The operations passed have been done.
use Rattle.std.proofs.Common.{◌≤◌, length, take}
use Rattle.rehearsal.proofs.Laws.{Reached}
use Rattle.rehearsal.proofs.rehearse.Given as goal

abbrev pub invariant-loop-op : goal.invariant-loop-op
invariant-loop-op l =
    (l.op-index ≤ length l.ops) × Reached l.fn.stated (take l.op-index l.ops) l.fn.triangles l.fn.places l.state l.triangles l.places
