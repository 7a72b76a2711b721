use mathlib.Core.Path.{refl, sym, ap, ◌∙◌}
use Rattle.std.specs.Prelude.{Ok}
use Rattle.std.proofs.lemmas.Result.{err_from_is_err_and}
use Rattle.melting_theory.proofs.Stepping.{held_ready, turn_weighs, turn_live, turn_on_broken, turn_on_refused, turn_on_built}
use Rattle.melting_theory.proofs.Stepping.{turn_on_marked}
use Rattle.melting.proofs.run.turn.Goals as goal

pub decide-requires : goal.decide-requires
decide-requires c = held_ready _ _ _ c.requires.0

pub returns-in_default : goal.returns-in_default
returns-in_default c = turn_on_broken _ _ _ _ _ refl c.requires.2 (c.in_default.ensures c.requires.3)

pub returns-in_err-t : goal.returns-in_err-t
returns-in_err-t c =
    let p = err_from_is_err_and c.from_residual.result c.from_residual.ensures.1 in
    rw (p.1, p.2)
    (turn_on_refused _ _ _ _ _ refl c.requires.2 _ c.in-Some.next c.in-Some.ensures.reads _ (sym c.decide.ensures ∙ c.in_err-t.was))

pub weighed-six-requires : goal.weighed-six-requires
weighed-six-requires c =
    turn_weighs _ _ _ c.requires.0 c.requires.1 _ _ (sym c.decide.ensures ∙ c.in_ok-t.was ∙ ap Ok c.in-Builds.is)

pub build-requires : goal.build-requires
build-requires c = (held_ready _ _ _ c.requires.0, sym c.decide.ensures ∙ c.in_ok-t.was ∙ ap Ok c.in-Builds.is)

pub mark-requires : goal.mark-requires
mark-requires c = (
  held_ready _ _ _ c.requires.0,
  turn_live _ _ _ c.requires.0 _ _ _ (sym c.decide.ensures ∙ c.in_ok-t.was ∙ ap Ok c.in-Marks.is),
)

pub returns-in-Builds : goal.returns-in-Builds
returns-in-Builds c =
    turn_on_built _ _ _ _ _ refl c.requires.2 _ c.in-Some.next c.in-Some.ensures.reads c.in-Some.ensures.ahead c.in-Some.ensures.within _
    (sym c.decide.ensures ∙ c.in_ok-t.was ∙ ap Ok c.in-Builds.is) _ c.build.ensures.state _ c.build.ensures.memory c.build.array_long _
    (record { sfits = c.weighed-six.type_inv }) c.weighed-six.ensures

pub returns-in-Marks : goal.returns-in-Marks
returns-in-Marks c =
    turn_on_marked _ _ _ _ _ refl c.requires.2 _ c.in-Some.next c.in-Some.ensures.reads c.in-Some.ensures.ahead c.in-Some.ensures.within _ _
    (sym c.decide.ensures ∙ c.in_ok-t.was ∙ ap Ok c.in-Marks.is) _ c.mark.ensures.state _ c.mark.ensures.memory c.mark.array_long _ refl
