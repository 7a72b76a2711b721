use Rattle.chooser.proofs.Looking.{current_long, seat_after, seat_before, seat_second}
use Rattle.chooser.proofs.Looking.{seat_walked}
use Rattle.chooser.proofs.seek.seat_of.Goals as goal

pub after_of-f-requires : goal.after_of-f-requires
after_of-f-requires c = current_long _ _ c.requires

pub returns-then-is_start : goal.returns-then-is_start
returns-then-is_start c = seat_after _ _ _ _ _ c.after_of-f.ensures _ c.is_start.ensures c.if-is_start.true

pub before_of-g-requires : goal.before_of-g-requires
before_of-g-requires c = current_long _ _ c.requires

pub returns-then-is_start-2 : goal.returns-then-is_start-2
returns-then-is_start-2 c = seat_before _ _ _ _ _ c.after_of-f.ensures _ c.is_start.ensures c.if-is_start.false _
    c.before_of-g.ensures _
    c.is_start-2.ensures c.if-is_start-2.true

pub returns-then-is_start-3 : goal.returns-then-is_start-3
returns-then-is_start-3 c = seat_second _ _ _ _ _ c.after_of-f.ensures _ c.is_start.ensures c.if-is_start.false _
    c.before_of-g.ensures _
    c.is_start-2.ensures c.if-is_start-2.false _ c.before_of-h.ensures _ c.is_start-3.ensures
    c.if-is_start-3.true

pub returns : goal.returns
returns c = seat_walked _ _ _ _ _ c.after_of-f.ensures _ c.is_start.ensures c.if-is_start.false _
    c.before_of-g.ensures _
    c.is_start-2.ensures c.if-is_start-2.false _ c.before_of-h.ensures _ c.is_start-3.ensures _
    c.if-is_start-3.false
    c.walked_seat.ensures
