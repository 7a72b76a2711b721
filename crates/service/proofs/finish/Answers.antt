-- What the core promises of the memory that the list is read into, carried to the list.
use Rattle.border_theory.proofs.Records.Counting.{count_within}
use Rattle.service.proofs.Laws.{loaded_fits, finishes_as}
use Rattle.service.proofs.finish.Goals as goal

pub load-requires : goal.load-requires
load-requires c = rw c.count-n.ensures (count_within _)

pub finish_on-requires : goal.finish_on-requires
finish_on-requires c = rw (c.load.ensures, c.count-n.ensures, c.empty-m.ensures) (loaded_fits c.args.places.now)

pub returns : goal.returns
returns c = finishes_as _ _ _ _ _ (rw (c.load.ensures, c.count-n.ensures, c.empty-m.ensures) at c.finish_on.ensures)
