use Rattle.rules.specs.Limits.{max_places}
use Rattle.border_theory.proofs.Memory.Performed.{performs}
use Rattle.border_theory.proofs.Memory.Done.{built_counts, built_state}
use Rattle.unpack_theory.proofs.Operating.{held_ready, operate_ruled, operate_room, operate_third, operate_beyond, operate_built}
use native.Mathlib.Omega.{arith}
use Rattle.unpacker.proofs.step.build_triangle.Goals as goal

pub returns-then-not-is_ruled-clause-turn : goal.returns-then-not-is_ruled-clause-turn
returns-then-not-is_ruled-clause-turn g c = λ next.
    operate_ruled c.args.o next c.args.s c.args.triangles.now (g.M.LoopMemory.numbers c.args.m.now) c.args.chains.now
    c.args.met.now c.args.p c.requires.held.1 _ c.is_ruled.ensures c.if-not-is_ruled.true

pub put_triangle-requires : goal.put_triangle-requires
put_triangle-requires g c = let r =
    operate_room c.args.o 0 c.args.s c.args.triangles.now (g.M.LoopMemory.numbers c.args.m.now) c.args.chains.now
    c.args.met.now c.args.p c.requires.held.1 _ c.is_ruled.ensures c.if-not-is_ruled.false c.requires.held.0 in
    (omega (arith, r.0, c.from-n.ensures), omega (arith, r.1, c.from-n.ensures))

pub meet-requires : goal.meet-requires
meet-requires g c = operate_third c.args.o 0 c.args.s c.args.triangles.now (g.M.LoopMemory.numbers c.args.m.now) c.args.chains.now
    c.args.met.now c.args.p c.requires.held.1 _ c.is_ruled.ensures c.if-not-is_ruled.false c.requires.held.0

pub alter-l-requires : goal.alter-l-requires
alter-l-requires g c =
    let ready = held_ready c.args.s c.args.triangles.now (g.M.LoopMemory.numbers c.args.m.now) c.args.chains.now c.args.met.now
    c.requires.held.0 in (
      rw c.requires.places (performs _ _ _ _ _ ready c.requires.held.1),
      omega (arith, ready.used, g.met.M.LoopMemory.fits c.args.m.now),
    )

pub count_built-requires : goal.count_built-requires
count_built-requires g c = built_counts _ _ _ _ _ _ (
  held_ready c.args.s c.args.triangles.now (g.M.LoopMemory.numbers c.args.m.now) c.args.chains.now c.args.met.now c.requires.held.0,
  c.requires.held.1,
) (rw c.requires.places at c.alter-l.ensures.loops)

pub returns-clause-turn : goal.returns-clause-turn
returns-clause-turn g c = λ next.
    let b = built_state max_places c.args.s (g.M.LoopMemory.numbers c.args.m.now) c.args.o c.args.p _ _ _
    (rw c.requires.places at c.alter-l.ensures.loops, rw c.requires.places at c.alter-l.ensures.memory)
    c.count_built.ensures in
    operate_built c.args.o next c.args.s c.args.triangles.now (g.M.LoopMemory.numbers c.args.m.now) c.args.chains.now
    c.args.met.now c.args.p c.requires.held.1 _ c.is_ruled.ensures c.if-not-is_ruled.false _ b.0 _
    (rw c.from-n.ensures at c.put_triangle.ensures) _ b.1
    _
    (rw c.from-n.ensures at c.link.ensures) _
    c.meet.ensures

pub returns-clause-beyond : goal.returns-clause-beyond
returns-clause-beyond g c =
    let b = built_state max_places c.args.s (g.M.LoopMemory.numbers c.args.m.now) c.args.o c.args.p _ _ _
    (rw c.requires.places at c.alter-l.ensures.loops, rw c.requires.places at c.alter-l.ensures.memory)
    c.count_built.ensures in
    operate_beyond c.args.o 0 c.args.s c.args.triangles.now (g.M.LoopMemory.numbers c.args.m.now) c.args.chains.now
    c.args.met.now c.args.p c.requires.held.1 _ c.is_ruled.ensures c.if-not-is_ruled.false c.requires.held.0 _
    (rw c.from-n.ensures at c.put_triangle.ensures)
