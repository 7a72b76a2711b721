use Rattle.chooser.proofs.Looking.{current_long}
use Rattle.chooser.proofs.name.place_operation.Goals as goal

pub after_of-requires : goal.after_of-requires
after_of-requires c = current_long _ _ c.requires

pub before_of-requires : goal.before_of-requires
before_of-requires c = current_long _ _ c.requires
