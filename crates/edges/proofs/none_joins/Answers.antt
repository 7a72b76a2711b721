use Rattle.edges.proofs.Joining.{none_here, none_before, none_left}
use borrow.Author.Rules.{rules}
use Rattle.edges.proofs.none_joins.Goals as goal

pub returns-then-joins : goal.returns-then-joins
returns-then-joins c = none_here _ _ _ _ _ _ c.loop-j-test.true c.loop-j.invariant.1
    c.joins.ensures c.if-joins.true

pub loop-j-preserved : goal.loop-j-preserved
loop-j-preserved c = (
  search rules,
  none_before _ _ _ _ _ _ c.loop-j-test.true c.loop-j.invariant.1
      c.joins.ensures c.if-joins.false,
)

pub returns : goal.returns
returns c = none_left _ _ _ _ _ c.loop-j-test.false c.loop-j.invariant.1
