-- What the core promises, carried to the lent list of place records.
use Rattle.state_theory.proofs.Finishing.Lifting.{begins_fit}
use Rattle.service.proofs.Laws.{begins_as}
use Rattle.service.proofs.begin.Goals as goal

pub clear-requires : goal.clear-requires
clear-requires c = rw c.cleared.ensures (begins_fit _ _ _ _ _ (rw c.count-n.ensures at c.begin_on-r.ensures))

pub returns : goal.returns
returns c = begins_as _ _ _ _ _ (rw c.count-n.ensures at c.begin_on-r.ensures) _ (rw c.cleared.ensures at c.clear.ensures)
