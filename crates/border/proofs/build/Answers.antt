use Rattle.std.proofs.Common.{arith}
use Rattle.border_theory.proofs.Memory.Performed.{performs}
use Rattle.border_theory.proofs.Memory.Done.{built_counts}
use Rattle.border.proofs.build.Goals as goal

pub alter-l-requires : goal.alter-l-requires
alter-l-requires g c =
    (performs _ _ _ _ _ c.requires.0 c.requires.1, omega (arith, c.requires.0.used, g.met.M.LoopMemory.fits c.args.m.now))

pub count_built-requires : goal.count_built-requires
count_built-requires g c = rw (c.capacity.ensures, c.alter-l.ensures.kept.0) (built_counts _ _ _ _ _ _ c.requires c.alter-l.ensures.loops)
