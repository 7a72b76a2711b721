use Rattle.std.proofs.Common.{arith}
use Rattle.border_theory.proofs.Memory.Near.{near_e}
use Rattle.rings.proofs.live.Live.current.Goals as goal

pub returns-clause-place : goal.returns-clause-place
returns-clause-place g c = near_e _ _ _ c.args.self.now.near

pub returns-clause-record : goal.returns-clause-record
returns-clause-record g c =
    omega (arith, returns-clause-place g c, g.met.M.LoopMemory.fits c.args.self.now.memory.now)
