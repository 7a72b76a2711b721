use Rattle.std.proofs.Common.{arith}
use Rattle.border_theory.proofs.Memory.Near.{near_next}
use Rattle.rings.proofs.live.Live.second.Goals as goal

pub returns-clause-place : goal.returns-clause-place
returns-clause-place g c = near_next _ _ _ c.args.self.now.near _ _ c.next.ensures.value c.after_of.ensures

pub returns-clause-record : goal.returns-clause-record
returns-clause-record g c =
    omega (arith, returns-clause-place g c, g.met.M.LoopMemory.fits c.args.self.now.memory.now)
