-- What the core promises, carried to the lent list of place records.
use Rattle.service.proofs.Laws.{unpacks, unpacks_fit}
use Rattle.service.proofs.unpack.Goals as goal

pub clear-requires : goal.clear-requires
clear-requires c = rw c.cleared.ensures (unpacks_fit _ _ _ _ _ (rw c.count-n.ensures at c.unpack_noted_on-r.ensures))

pub returns : goal.returns
returns c = unpacks _ _ _ _ _ (rw c.count-n.ensures at c.unpack_noted_on-r.ensures) _ (rw c.cleared.ensures at c.clear.ensures)
