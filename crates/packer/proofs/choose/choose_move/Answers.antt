use Rattle.pack_theory.proofs.Packing.Ways.{chosen_none, chosen_flag, chosen_place, noted_none, noted_entry, noted_found, chosen_found}
use mathlib.Core.Path.{ap}
use Rattle.rules.specs.Across.{across_of}
use Rattle.packer.proofs.choose.choose_move.Goals as goal

pub returns-in_default-clause-taken : goal.returns-in_default-clause-taken
returns-in_default-clause-taken c =
    let w = chosen_none c.args.list.now c.args.chains.now c.args.built.now c.args.numbering.now c.args.m.now c.args.l c.requires.0 _ _ _
    c.after_of-f.ensures c.vertex_of-a.ensures.value
    c.vertex_of-b.ensures.value _ c.across.ensures (ap across_of c.in_default.is) in
    w.0

pub returns-in_default-clause-flags : goal.returns-in_default-clause-flags
returns-in_default-clause-flags c =
    let w = chosen_none c.args.list.now c.args.chains.now c.args.built.now c.args.numbering.now c.args.m.now c.args.l c.requires.0 _ _ _
    c.after_of-f.ensures c.vertex_of-a.ensures.value
    c.vertex_of-b.ensures.value _ c.across.ensures (ap across_of c.in_default.is) in
    w.1

pub returns-in_default-clause-order : goal.returns-in_default-clause-order
returns-in_default-clause-order c =
    let w = chosen_none c.args.list.now c.args.chains.now c.args.built.now c.args.numbering.now c.args.m.now c.args.l c.requires.0 _ _ _
    c.after_of-f.ensures c.vertex_of-a.ensures.value
    c.vertex_of-b.ensures.value _ c.across.ensures (ap across_of c.in_default.is) in
    noted_none c.args.list.now c.args.chains.now c.args.built.now c.args.numbering.now c.args.m.now c.args.l c.requires.0 _ _ _
    c.after_of-f.ensures c.vertex_of-a.ensures.value
    c.vertex_of-b.ensures.value _ c.across.ensures c.args.order.now c.args.k
    (ap across_of c.in_default.is)

pub bounds-built-found : goal.bounds-built-found
bounds-built-found c = chosen_flag c.args.list.now c.args.chains.now c.args.built.now c.args.numbering.now c.args.m.now c.args.l
    c.requires.0 _
    _ _
    c.after_of-f.ensures
    c.vertex_of-a.ensures.value c.vertex_of-b.ensures.value _
    c.across.ensures _ _ _ (ap across_of c.in-Some.is)

pub bounds-order-k : goal.bounds-order-k
bounds-order-k c = noted_entry c.args.list.now c.args.chains.now c.args.built.now c.args.numbering.now c.args.m.now c.args.l c.requires.0 _
    _ _
    c.after_of-f.ensures
    c.vertex_of-a.ensures.value c.vertex_of-b.ensures.value _
    c.across.ensures c.args.order.now c.args.k c.requires.1 _ _ _ (ap across_of c.in-Some.is)

pub place_move-requires : goal.place_move-requires
place_move-requires c = chosen_place c.args.list.now c.args.chains.now c.args.built.now c.args.numbering.now c.args.m.now c.args.l
    c.requires.0 _ _ _
    c.after_of-f.ensures
    c.vertex_of-a.ensures.value
    c.vertex_of-b.ensures.value _ c.across.ensures _ _
    _ (ap across_of c.in-Some.is)

pub returns-clause-taken : goal.returns-clause-taken
returns-clause-taken c =
    let w = chosen_found c.args.list.now c.args.chains.now c.args.built.now c.args.numbering.now c.args.m.now c.args.l c.requires.0 _ _ _
    c.after_of-f.ensures
    c.vertex_of-a.ensures.value
    c.vertex_of-b.ensures.value _
    c.across.ensures _ _ _ (ap across_of c.in-Some.is) _
    c.place_move.ensures in
    w.0

pub returns-clause-flags : goal.returns-clause-flags
returns-clause-flags c =
    let w = chosen_found c.args.list.now c.args.chains.now c.args.built.now c.args.numbering.now c.args.m.now c.args.l c.requires.0 _ _ _
    c.after_of-f.ensures
    c.vertex_of-a.ensures.value
    c.vertex_of-b.ensures.value _
    c.across.ensures _ _ _ (ap across_of c.in-Some.is) _
    c.place_move.ensures in
    w.1

pub returns-clause-order : goal.returns-clause-order
returns-clause-order c =
    let w = chosen_found c.args.list.now c.args.chains.now c.args.built.now c.args.numbering.now c.args.m.now c.args.l c.requires.0 _ _ _
    c.after_of-f.ensures
    c.vertex_of-a.ensures.value
    c.vertex_of-b.ensures.value _
    c.across.ensures _ _ _ (ap across_of c.in-Some.is) _
    c.place_move.ensures in
    noted_found c.args.list.now c.args.chains.now c.args.built.now c.args.numbering.now c.args.m.now c.args.l c.requires.0 _ _ _
    c.after_of-f.ensures
    c.vertex_of-a.ensures.value
    c.vertex_of-b.ensures.value _
    c.across.ensures c.args.order.now c.args.k _ _ _
    (ap across_of c.in-Some.is)
