use native.Mathlib.Omega.{arith}
use Rattle.volume_theory.proofs.Measuring.{none_summed, more_summed}
use Rattle.determinants.proofs.six_of.Goals as goal

pub loop-t-init : goal.loop-t-init
loop-t-init c = none_summed _ _ _

pub loop-t-preserved : goal.loop-t-preserved
loop-t-preserved c = more_summed _ _ _ _ _ c.loop-t-test.true c.loop-t.invariant _ c.weigh-sum.result
    c.triangle_at.ensures (c.requires.each _ (omega (arith, c.loop-t-test.true, c.loop-t.invariant.within))).long
    (record { sfits = c.weigh-sum.type_inv }) c.weigh-sum.ensures
