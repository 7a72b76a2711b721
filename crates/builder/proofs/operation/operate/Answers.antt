-- One law for each way through, over what the opening of the state left.
use Rattle.std.proofs.Common.{rules, Ok, ◌∙◌, ap, sym}
use Rattle.std.proofs.lemmas.Result.{err_from_is_err_and}
use Rattle.state_theory.proofs.Performing.Operating.{opens_failed, opens_passed, opened, from_open, decision_refused}
use Rattle.state_theory.proofs.Performing.Operating.{mark_live, marked_live, edge_marked}
use Rattle.builder.proofs.operation.operate.Goals as goal

pub returns-in_err-f : goal.returns-in_err-f
returns-in_err-f c =
    let p = err_from_is_err_and c.from_residual.result c.from_residual.ensures.1 in
    rw (p.1, p.2) (opens_failed _ _ _ _ _ _ _ _ c.open.ensures c.in_err-f.was)

pub returns-in_err-p : goal.returns-in_err-p
returns-in_err-p c =
    let p = err_from_is_err_and c.from_residual-in_err-p.result c.from_residual-in_err-p.ensures.1 in
    let h = opens_passed _ _ _ _ _ _ _ c.open.ensures c.in_ok-f.was in
    rw (p.1, p.2)
    (from_open _ _ _ _ _ _ _ h _ _ _ (decision_refused _ _ _ _ _ (opened _ _ _ _ _ _ h) _ _ c.decide.ensures c.in_err-p.was))

pub build_triangle-requires : goal.build_triangle-requires
build_triangle-requires c = (
  opened _ _ _ _ _ _ (opens_passed _ _ _ _ _ _ _ c.open.ensures c.in_ok-f.was),
  sym c.decide.ensures ∙ c.in_ok-p.was ∙ ap Ok c.in-Builds.is,
)

pub mark_border-requires : goal.mark_border-requires
mark_border-requires c =
    let w = opened _ _ _ _ _ _ (opens_passed _ _ _ _ _ _ _ c.open.ensures c.in_ok-f.was) in
    let e = c.in_ok-p.was ∙ ap Ok c.in-Marks.is in (
      w.ready,
      (mark_live _ _ _ _ _ w _ _ _ c.decide.ensures e, marked_live _ _ _ _ _ w _ _ _ c.decide.ensures e),
    )

pub returns-in-Builds : goal.returns-in-Builds
returns-in-Builds c =
    from_open _ _ _ _ _ _ _ (opens_passed _ _ _ _ _ _ _ c.open.ensures c.in_ok-f.was) _ _ _ c.build_triangle.ensures

pub returns-in-Marks : goal.returns-in-Marks
returns-in-Marks c =
    let h = opens_passed _ _ _ _ _ _ _ c.open.ensures c.in_ok-f.was in
    from_open _ _ _ _ _ _ _ h _ _ _
    (edge_marked _ _ _ _ _ (opened _ _ _ _ _ _ h) _ _ _ c.decide.ensures (c.in_ok-p.was ∙ ap Ok c.in-Marks.is) (search rules) _ _
    c.mark_border.ensures)
