use Rattle.chooser.proofs.Looking.{walked_here, walked_on}
use Rattle.chooser.proofs.seek.walked_seat.Goals as goal

pub returns-then-index-l : goal.returns-then-index-l
returns-then-index-l c = walked_here _ _ _ _ _ c.count_to-index.ensures c.if-index-l.true

pub returns : goal.returns
returns c = walked_on _ _ _ _ _ _ c.count_to-index.ensures c.if-index-l.false c.waiting_seat.ensures
