use mathlib.Core.Path.{refl}
use Rattle.mesh_theory.proofs.Chains.Linking.{zeros_none}
use Rattle.mesh.proofs.check.Goals as goal

pub check_into-requires : goal.check_into-requires
check_into-requires c = zeros_none _ _ refl
