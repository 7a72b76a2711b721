-- What the core promises, carried to the lent list of place records.
use Rattle.service.proofs.Laws.{measures, measures_fit}
use Rattle.service.proofs.volume.Goals as goal

pub clear-requires : goal.clear-requires
clear-requires c = rw c.cleared.ensures (measures_fit _ _ _ _ _ (rw c.count-n.ensures at c.volume_on-r.ensures))

pub returns : goal.returns
returns c = measures _ _ _ _ _ (rw c.count-n.ensures at c.volume_on-r.ensures) _ (rw c.cleared.ensures at c.clear.ensures)
