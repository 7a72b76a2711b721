use Rattle.pack_theory.proofs.Packing.Stepping.{alive_chooses, alive_ready, alive_gives, alive_refused, alive_goes}
use Rattle.pack_theory.proofs.Packing.Stepping.{alive_notable, alive_notes_refused, alive_notes}
use mathlib.Core.Path.{ap}
use Rattle.std.proofs.lemmas.Result.{err_from_is_err_and}
use Rattle.pack_theory.specs.Packing.Done.{done_from}
use Rattle.packer.proofs.step.go_on.Goals as goal

pub choose_move-next-requires : goal.choose_move-next-requires
choose_move-next-requires c = (
  alive_chooses c.args.list.now c.args.chains.now c.args.t c.args.built.now c.args.numbering.now c.args.m.now c.requires.0,
  alive_notable
      c.args.list.now c.args.chains.now c.args.t c.args.built.now c.args.numbering.now c.args.m.now c.requires.0 c.args.order.now
      c.requires.1,
)

pub operate-requires : goal.operate-requires
operate-requires c = alive_ready c.args.list.now c.args.chains.now c.args.t c.args.built.now c.args.numbering.now c.args.m.now
    c.requires.0 _
    c.choose_move-next.ensures.taken _ c.ready_for-s.ensures

pub returns-in_err-front-clause-step : goal.returns-in_err-front-clause-step
returns-in_err-front-clause-step c =
    let p = err_from_is_err_and c.from_residual.result c.from_residual.ensures.1 in
    rw (p.1, p.2)
    (alive_refused c.args.list.now c.args.chains.now c.args.t c.args.built.now c.args.numbering.now c.args.m.now c.requires.0 _
    c.choose_move-next.ensures.taken _ c.choose_move-next.ensures.flags
    _
    c.ready_for-s.ensures _
    c.operate.ensures.done _
    c.operate.ensures.memory _ (ap done_from c.in_err-front.was))

pub returns-in_err-front-clause-order : goal.returns-in_err-front-clause-order
returns-in_err-front-clause-order c =
    let p = err_from_is_err_and c.from_residual.result c.from_residual.ensures.1 in
    rw (p.1)
    (alive_notes_refused c.args.list.now c.args.chains.now c.args.t c.args.built.now c.args.numbering.now
    c.args.m.now c.requires.0 c.args.order.now c.requires.1 _ c.choose_move-next.ensures.order 0)

pub give-given-requires : goal.give-given-requires
give-given-requires c = alive_gives c.args.list.now c.args.chains.now c.args.t c.args.built.now c.args.numbering.now c.args.m.now
    c.requires.0 _
    c.choose_move-next.ensures.taken

pub returns-clause-step : goal.returns-clause-step
returns-clause-step c =
    let w = alive_goes c.args.list.now c.args.chains.now c.args.t c.args.built.now c.args.numbering.now c.args.m.now c.requires.0 _
    c.choose_move-next.ensures.taken _
    c.choose_move-next.ensures.flags _ c.ready_for-s.ensures _
    c.operate.ensures.done _
    c.operate.ensures.memory _
    (ap done_from c.in_ok-front.was) _ c.give-given.ensures.count _
    c.give-given.ensures.numbers in
    w

pub returns-clause-order : goal.returns-clause-order
returns-clause-order c =
    let w = alive_goes c.args.list.now c.args.chains.now c.args.t c.args.built.now c.args.numbering.now c.args.m.now c.requires.0 _
    c.choose_move-next.ensures.taken _
    c.choose_move-next.ensures.flags _ c.ready_for-s.ensures _
    c.operate.ensures.done _
    c.operate.ensures.memory _
    (ap done_from c.in_ok-front.was) _ c.give-given.ensures.count _
    c.give-given.ensures.numbers in
    alive_notes c.args.list.now c.args.chains.now c.args.t c.args.built.now c.args.numbering.now c.args.m.now c.requires.0 c.args.order.now
    c.requires.1 _ c.choose_move-next.ensures.order _ _ _ _ _ c.choose_move-next.ensures.flags w
