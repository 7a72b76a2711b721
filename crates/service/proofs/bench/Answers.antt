-- The note that it tells of, as a part of the pack.
use Rattle.service.proofs.Laws.{note_within, hands_back}
use Rattle.service.proofs.bench.Goals as goal

pub part-requires : goal.part-requires
part-requires c = note_within _ _ _ _ _ _ (rw c.in-Ok.is at c.bench_at.ensures.told)

pub returns-in-Ok : goal.returns-in-Ok
returns-in-Ok c = hands_back _ _ _ _ _ _ (rw c.in-Ok.is at c.bench_at.ensures.told) _ _ _ c.part.ensures
