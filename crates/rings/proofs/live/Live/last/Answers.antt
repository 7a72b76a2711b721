use Rattle.std.proofs.Common.{arith}
use Rattle.rings.proofs.live.Live.last.Goals as goal

pub returns-clause-record : goal.returns-clause-record
returns-clause-record g c = rw (c.before_of.ensures, c.current.ensures.value)
    (omega (arith, c.args.self.now.near.behind, g.met.M.LoopMemory.fits c.args.self.now.memory.now))
