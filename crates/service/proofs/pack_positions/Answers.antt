-- What the core promises, carried to the lent list of place records.
use Rattle.service.proofs.PackLaws.{packs, packs_fit}
use Rattle.service.proofs.pack_positions.Goals as goal

pub clear-requires : goal.clear-requires
clear-requires c = rw c.cleared.ensures (packs_fit _ _ _ _ _ _ _ _ _ _ _ (rw c.count-n.ensures at c.pack_positions_on-r.ensures))

pub returns : goal.returns
returns c = packs _ _ _ _ _ _ _ _ _ _ _ (rw c.count-n.ensures at c.pack_positions_on-r.ensures) _ (rw c.cleared.ensures at c.clear.ensures)
