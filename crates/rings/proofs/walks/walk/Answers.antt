use Rattle.std.proofs.Common.{arith, refl, sym, ap, ◌∙◌}
use Rattle.border_theory.specs.Memory.Layout.{after_of, walked}
use Rattle.rings.proofs.Steps.{walked-more}
use Rattle.rings.proofs.walks.walk.Goals as goal

pub loop-init : goal.loop-init
unfolding walked
loop-init g c = (omega arith, refl)

pub loop-preserved : goal.loop-preserved
loop-preserved g c =
    let m = g.M.LoopMemory.numbers c.args.m.now in
    (omega arith, c.after_of-at.ensures ∙ ap (after_of m) c.loop.invariant.1 ∙ sym (walked-more m c.loop.counter c.args.p))
