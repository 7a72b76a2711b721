use native.Mathlib.Omega.{arith}
use Rattle.pack_theory.proofs.Packing.Stepping.{start_near, start_gives, start_never, start_renames, start_goes}
use Rattle.pack_theory.proofs.Packing.Stepping.{start_notes}
use mathlib.Core.Path.{ap}
use Rattle.pack_theory.specs.Packing.Done.{done_from}
use Rattle.packer.proofs.start.start_at.Goals as goal

pub bounds-list-k : goal.bounds-list-k
bounds-list-k c = let n = start_near c.args.list.now c.args.t c.args.k c.args.built.now c.args.numbering.now c.args.m.now c.requires.0 in
    omega (arith, n.0, n.1)

pub bounds-list-k-2 : goal.bounds-list-k-2
bounds-list-k-2 c = let n = start_near c.args.list.now c.args.t c.args.k c.args.built.now c.args.numbering.now c.args.m.now c.requires.0 in
    omega (arith, n.0, n.1)

pub bounds-list-k-3 : goal.bounds-list-k-3
bounds-list-k-3 c = let n = start_near c.args.list.now c.args.t c.args.k c.args.built.now c.args.numbering.now c.args.m.now c.requires.0 in
    omega (arith, n.0, n.1)

pub returns-in_err-after-clause-step : goal.returns-in_err-after-clause-step
returns-in_err-after-clause-step c =
    absurd (start_never c.args.list.now c.args.t c.args.k c.args.built.now c.args.numbering.now c.args.m.now c.requires.0 _
    c.ready_for-s.ensures _
    c.operate.ensures.done _
    c.operate.ensures.memory _ (ap done_from c.in_err-after.was))

pub name_three-requires : goal.name_three-requires
name_three-requires c = start_renames c.args.list.now c.args.t c.args.k c.args.built.now c.args.numbering.now c.args.m.now c.requires.0 _
    c.ready_for-s.ensures _
    c.operate.ensures.done _
    c.operate.ensures.memory _
    (ap done_from c.in_ok-after.was)

pub give_three-requires : goal.give_three-requires
give_three-requires c = start_gives c.args.list.now c.args.t c.args.k c.args.built.now c.args.numbering.now c.args.m.now c.requires.0

pub returns-clause-step : goal.returns-clause-step
returns-clause-step c =
    let w = start_goes c.args.list.now c.args.t c.args.k c.args.built.now c.args.numbering.now c.args.m.now c.requires.0 _
    c.ready_for-s.ensures _
    c.operate.ensures.done _
    c.operate.ensures.memory _
    (ap done_from c.in_ok-after.was) _ c.name_three.ensures _
    c.give_three.ensures in
    w

pub returns-clause-order : goal.returns-clause-order
returns-clause-order c =
    let w = start_goes c.args.list.now c.args.t c.args.k c.args.built.now c.args.numbering.now c.args.m.now c.requires.0 _
    c.ready_for-s.ensures _
    c.operate.ensures.done _
    c.operate.ensures.memory _
    (ap done_from c.in_ok-after.was) _ c.name_three.ensures _
    c.give_three.ensures in
    start_notes c.args.list.now c.args.t c.args.k c.args.built.now c.args.numbering.now c.args.m.now c.requires.0 c.args.order.now _ _ _ _ w
