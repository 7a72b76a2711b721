use mathlib.Core.Path.{subst, sym}
use mir.Facts.{to_z-of_z}
use Rattle.melting_theory.specs.Runs.{WeighsTo}
use Rattle.melting_theory.proofs.Weighing.{weighs_nothing}
use Rattle.melting.proofs.run.weighed.Goals as goal

pub returns-then-field-eq0 : goal.returns-then-field-eq0
returns-then-field-eq0 c = subst (WeighsTo _ _ c.args.six) (sym (to_z-of_z c.ranges.six)) (weighs_nothing _ _ _ c.if-field-eq0.true)
