use Rattle.std.proofs.Common.{arith, ◌≡◌, ◌-◌, ◌+◌, subst}
use Rattle.chooser.proofs.Looking.{Looking, looking_found, looking_more, looking_done}
use Rattle.chooser.proofs.seek.waiting_seat.Goals as goal

pub returns-then-index-size : goal.returns-then-index-size
returns-then-index-size c = looking_found _ _ _ _ _ _ _ c.loop-w.invariant _ _ _ (omega (arith, c.loop-w-test.true))
    c.size_at-size.ensures c.place_at-first.ensures c.count_to-index.ensures c.if-index-size.true

pub loop-w-preserved : goal.loop-w-preserved
loop-w-preserved c =
    let e : c.args.l.live - c.loop-w.w - 1 ≡ c.args.l.live - (c.loop-w.w + 1) = omega arith in
    subst (λ j. Looking c.args.m.now c.args.x c.args.y (c.args.l.live - 1) 1 j (c.loop-w.w + 1)) e
    (looking_more _ _ _ _ _ _ _ c.loop-w.invariant _ _ _ (omega (arith, c.loop-w-test.true))
    c.size_at-size.ensures c.place_at-first.ensures c.count_to-index.ensures c.if-index-size.false)

pub returns : goal.returns
returns c = looking_done _ _ _ _ _ _ _ c.loop-w.invariant (omega (arith, c.loop-w-test.false))
