use Rattle.mesh.proofs.Noting.{fresh_before}
use Rattle.mesh.proofs.fans.is_fan_if_met.Goals as goal

pub returns-then-met-v-eq0-clause-fresh : goal.returns-then-met-v-eq0-clause-fresh
returns-then-met-v-eq0-clause-fresh c = fresh_before c.args.notes.now c.args.v c.requires.linked.2
