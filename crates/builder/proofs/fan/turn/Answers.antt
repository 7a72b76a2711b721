use Rattle.std.proofs.Common.{arith, ◌∙◌, sym}
use Rattle.state_theory.proofs.Finishing.Turning.{turned_more}
use Rattle.builder.proofs.fan.turn.Goals as goal

pub loop-preserved : goal.loop-preserved
loop-preserved c =
    turned_more _ _ _ _ _ _ _ _ (omega arith) (sym c.latest_left.ensures.told ∙ c.in-Some.is) ∙ c.loop.invariant
