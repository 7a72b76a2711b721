use mathlib.Core.Path.{refl}
use Rattle.mesh_theory.proofs.Chains.Checking.{four_most}
use Rattle.mesh.proofs.Stamping.{once_below, once_all, zeros_stamped}
use Rattle.mesh.proofs.once.all_once.Goals as goal

pub loop-u-init : goal.loop-u-init
loop-u-init c = (four_most c.requires.0, once_below _, zeros_stamped 4096 refl)

pub returns : goal.returns
returns c = once_all _ _ c.requires.0 c.requires.1 c.loop-u.invariant.1 c.loop-u-test.false
