use Rattle.border_theory.proofs.Memory.Ready.{ready_proposes}
use Rattle.packer.proofs.operate.operate.Goals as goal

pub propose-proposed-requires : goal.propose-proposed-requires
propose-proposed-requires c = ready_proposes _ _ _ c.requires
