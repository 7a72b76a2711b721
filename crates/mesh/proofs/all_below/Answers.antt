use mathlib.Core.Path.{refl}
use borrow.Author.Rules.{rules}
use Rattle.mesh_theory.proofs.Chains.Listing.{below_from, below_more, below_not, below_all}
use Rattle.mesh.proofs.all_below.Goals as goal
use Rattle.mesh.proofs.all_below.Goals.{then-v-x, else-v-x}

pub loop-x-init : goal.loop-x-init
loop-x-init c = (search rules, below_from _ _)

pub loop-x-preserved : goal.loop-x-preserved
loop-x-preserved c = (
  search rules,
  elim c.if-v-x.branch [
    | then-v-x w ↦ below_not _ _ _ _ _ c.loop-x.invariant.1 _ refl c.loop-x-test.true w.if-v-x.true w.below-is
    | else-v-x w ↦ below_more _ _ _ _ _ c.loop-x.invariant.1 _ refl c.loop-x-test.true w.if-v-x.false w.below-is
  ],
)

pub returns : goal.returns
returns c = below_all _ _ _ _ c.loop-x.invariant.1 c.loop-x-test.false
