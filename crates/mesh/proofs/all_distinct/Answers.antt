use borrow.Author.Rules.{rules}
use Rattle.mesh_theory.proofs.Chains.Listing.{distinct_more, distinct_not, distinct_all}
use Rattle.std.proofs.lemmas.Bool.{not_from_false, not_from_true}
use Rattle.mesh.proofs.all_distinct.Goals as goal

pub returns-then-not-is_distinct : goal.returns-then-not-is_distinct
returns-then-not-is_distinct c =
    distinct_not _ _ c.loop-t.invariant.2 _ (search rules) c.is_distinct.ensures (not_from_false _ c.if-not-is_distinct.true)

pub loop-t-preserved : goal.loop-t-preserved
loop-t-preserved c = (
  c.loop-t.invariant.0,
  search rules,
  distinct_more _ _ c.loop-t.invariant.2 _ (search rules)
      c.is_distinct.ensures (not_from_true _ c.if-not-is_distinct.false),
)

pub returns : goal.returns
returns c = distinct_all c.args.list.now c.loop-t.t c.loop-t.invariant.2 (search rules)
