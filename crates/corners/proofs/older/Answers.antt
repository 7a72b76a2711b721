use Rattle.mesh_theory.proofs.Chains.Walking.{older_over}
use Rattle.corners.proofs.older.Goals as goal

pub returns-then-c-d : goal.returns-then-c-d
returns-then-c-d c = older_over _ _ _ c.from-d.ensures c.if-c-d.true
