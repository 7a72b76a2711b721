use borrow.Author.Rules.{rules}
use Rattle.mesh_theory.proofs.Chains.Listing.{up_to_more}
use Rattle.corners.proofs.link_each.Goals as goal

pub loop-t-preserved : goal.loop-t-preserved
loop-t-preserved c = let i = c.loop-t.invariant in
    (i.0, up_to_more _ i.1 (search rules) _ c.link.ensures)
