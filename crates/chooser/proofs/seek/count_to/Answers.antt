use Rattle.std.proofs.Common.{arith, ◌≡◌, ◌∙◌}
use Rattle.chooser.proofs.Counting.{counting_here, counting_found, counting_more, counting_done}
use Rattle.chooser.proofs.seek.count_to.Goals as goal

pub is_start-requires : goal.is_start-requires
is_start-requires c = counting_here _ _ _ _ _ _ _ c.loop-i.invariant c.loop-i-test.true

pub returns-then-is_start : goal.returns-then-is_start
returns-then-is_start c = counting_found _ _ _ _ _ _ _ c.loop-i.invariant _ c.loop-i-test.true
    c.is_start.ensures c.if-is_start.true

pub after_of-at-requires : goal.after_of-at-requires
after_of-at-requires c = (counting_here _ _ _ _ _ _ _ c.loop-i.invariant c.loop-i-test.true).0

pub loop-i-preserved : goal.loop-i-preserved
loop-i-preserved c = counting_more _ _ _ _ _ _ _ c.loop-i.invariant _ _ c.loop-i-test.true
    c.is_start.ensures c.if-is_start.false c.after_of-at.ensures

pub returns : goal.returns
returns c =
    let e : c.args.k ≡ c.loop-i.i = omega (arith, c.loop-i.invariant.within, c.loop-i-test.false) in
    e ∙ counting_done _ _ _ _ _ _ _ c.loop-i.invariant c.loop-i-test.false
