use mathlib.Core.Path.{sym, ap, ◌∙◌}
use Rattle.std.specs.Prelude.{Ok}
use Rattle.std.proofs.lemmas.Result.{err_from_is_err_and}
use Rattle.border_theory.proofs.Memory.Ready.{ready_proposes, ready_free}
use Rattle.border_theory.proofs.Memory.Decided.{decided_by_lem}
use Rattle.unpack_theory.proofs.Operating.{held_ready, operate_refused, operate_live, operate_marked}
use Rattle.unpacker.proofs.step.operate.Goals as goal

pub propose-proposed-requires : goal.propose-proposed-requires
propose-proposed-requires g c =
    rw c.requires.places (ready_proposes _ _ _
    (held_ready c.args.s c.args.triangles.now (g.M.LoopMemory.numbers c.args.m.now) c.args.chains.now c.args.met.now
    c.requires.held))

pub test_room-requires : goal.test_room-requires
test_room-requires g c =
    ready_free _ _ _ (held_ready c.args.s c.args.triangles.now (g.M.LoopMemory.numbers c.args.m.now) c.args.chains.now c.args.met.now
    c.requires.held)

pub returns-in_err-p-clause-turn : goal.returns-in_err-p-clause-turn
returns-in_err-p-clause-turn g c = λ next.
    let p = err_from_is_err_and c.from_residual.result c.from_residual.ensures.1 in
    rw (p.1, p.2)
    (operate_refused c.args.o next c.args.s c.args.triangles.now (g.M.LoopMemory.numbers c.args.m.now) c.args.chains.now c.args.met.now _ _
    (decided_by_lem _ _ _ _ _ _ (rw c.requires.places at c.propose-proposed.ensures) c.test_room.ensures) c.in_err-p.was)

pub build_triangle-requires : goal.build_triangle-requires
build_triangle-requires g c = record {
  held = (
    c.requires.held,
    sym (decided_by_lem _ _ _ _ _ _ (rw c.requires.places at c.propose-proposed.ensures) c.test_room.ensures)
        ∙ c.in_ok-p.was ∙ ap Ok c.in-Builds.is,
  );
  places = c.requires.places;
}

pub mark-requires : goal.mark-requires
mark-requires g c = rw c.requires.places (
  held_ready c.args.s c.args.triangles.now (g.M.LoopMemory.numbers c.args.m.now) c.args.chains.now c.args.met.now c.requires.held,
  operate_live
      c.args.o 0 c.args.s c.args.triangles.now (g.M.LoopMemory.numbers c.args.m.now) c.args.chains.now c.args.met.now _
      _
      _ (decided_by_lem _ _ _ _ _ _ (rw c.requires.places at c.propose-proposed.ensures) c.test_room.ensures)
      (c.in_ok-p.was ∙ ap Ok c.in-Marks.is) c.requires.held,
)

pub returns-in-Marks-clause-turn : goal.returns-in-Marks-clause-turn
returns-in-Marks-clause-turn g c = λ next.
    operate_marked c.args.o next c.args.s c.args.triangles.now (g.M.LoopMemory.numbers c.args.m.now) c.args.chains.now
    c.args.met.now _ _ _
    (decided_by_lem _ _ _ _ _ _ (rw c.requires.places at c.propose-proposed.ensures) c.test_room.ensures)
    (c.in_ok-p.was ∙ ap Ok c.in-Marks.is) _ (rw c.requires.places at c.mark.ensures.state) _
    (rw c.requires.places at c.mark.ensures.memory)
