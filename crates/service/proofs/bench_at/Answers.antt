-- What the core promises, carried to the lent list of place records.
use Rattle.service.proofs.Laws.{tells, tells_fit}
use Rattle.service.proofs.bench_at.Goals as goal

pub clear-requires : goal.clear-requires
clear-requires c = rw c.cleared.ensures (tells_fit _ _ _ _ _ (rw c.count-n.ensures at c.bench_on-r.ensures.told))

pub returns-clause-told : goal.returns-clause-told
returns-clause-told c = tells _ _ _ _ _ (rw c.count-n.ensures at c.bench_on-r.ensures.told) _ (rw c.cleared.ensures at c.clear.ensures)
