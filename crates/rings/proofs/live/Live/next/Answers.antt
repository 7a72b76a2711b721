use Rattle.std.proofs.Common.{arith}
use Rattle.border_theory.proofs.Memory.Near.{near_f}
use Rattle.rings.proofs.live.Live.next.Goals as goal

pub returns-clause-place : goal.returns-clause-place
returns-clause-place g c = rw (c.after_of.ensures, c.current.ensures.value) (near_f _ _ _ c.args.self.now.near)

pub returns-clause-record : goal.returns-clause-record
returns-clause-record g c =
    omega (arith, returns-clause-place g c, g.met.M.LoopMemory.fits c.args.self.now.memory.now)
