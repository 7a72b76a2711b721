use Rattle.std.proofs.Common.{suc, arith}
use Rattle.border_theory.specs.Memory.Layout.{walked}
use Rattle.rings.proofs.live.Live.along.Goals as goal

pub walk-requires : goal.walk-requires
unfolding walked
walk-requires g c = λ j h.
    let ahead = c.args.self.now.near.ahead (suc j) (omega (arith, c.requires, h)) in
    rw c.next.ensures.value (omega (arith, ahead, g.met.M.LoopMemory.fits c.args.self.now.memory.now))

pub returns-clause-place : goal.returns-clause-place
unfolding walked
returns-clause-place g c =
    rw (c.walk.ensures, c.next.ensures.value) (c.args.self.now.near.ahead (suc c.args.i) (omega (arith, c.requires)))

pub returns-clause-record : goal.returns-clause-record
returns-clause-record g c =
    omega (arith, returns-clause-place g c, g.met.M.LoopMemory.fits c.args.self.now.memory.now)
