use Rattle.std.proofs.Common.{rules}
use Rattle.state_theory.proofs.Opening.Writing.{freed_none, freed_more}
use Rattle.state.proofs.front.free_rest.Goals as goal

pub loop-i-init : goal.loop-i-init
loop-i-init c = freed_none _ _

pub loop-i-preserved : goal.loop-i-preserved
loop-i-preserved c = freed_more _ _ _ _ _ c.loop-i.invariant c.loop-i-test.true (search rules) _ (search rules)
