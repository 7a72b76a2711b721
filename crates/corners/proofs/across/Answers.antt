use borrow.Author.Rules.{rules}
use Rattle.mesh_theory.proofs.Chains.Finding.{walk_start, walk_more, walk_found, walk_none, finds_itself}
use Rattle.corners.proofs.across.Goals as goal

pub loop-c-init : goal.loop-c-init
loop-c-init c = let k = c.newest-c.ensures in (k.most, k.whole, walk_start _ k)

pub returns-then-p-q : goal.returns-then-p-q
returns-then-p-q c = finds_itself c.if-p-q.true

pub returns-then-list-corner_after : goal.returns-then-list-corner_after
returns-then-list-corner_after c = walk_found _ _ _ c.if-p-q.false c.loop-c.invariant.2 c.loop-c-test.true
    c.corner_after.ensures.0 c.if-list-corner_after.true c.seen_from.ensures

pub loop-c-preserved : goal.loop-c-preserved
loop-c-preserved c = (
  search rules,
  search rules,
  walk_more _ _ _ c.loop-c.invariant.2 c.loop-c-test.true c.corner_after.ensures.0
      c.if-list-corner_after.false c.older-c.ensures,
)

pub returns : goal.returns
returns c = walk_none _ c.loop-c.invariant.2 c.loop-c-test.false
