use mathlib.Core.Path.{sym, ap, ◌∙◌}
use Rattle.std.proofs.lemmas.Result.{err_from_is_err_and}
use Rattle.rules.specs.Furnace.{melt_fields}
use Rattle.melting_theory.proofs.Concluding.{begins_run, too_large, run_refused, run_completes, run_answers}
use Rattle.melting.proofs.Fielding.{refused_fields}
use Rattle.melting.proofs.melt_fields.Goals as goal

pub returns-in_err-fields : goal.returns-in_err-fields
returns-in_err-fields c =
    let p = err_from_is_err_and c.from_residual.result c.from_residual.ensures.1 in
    rw (p.1, p.2) (refused_fields _ _ _ _ c.in_err-fields.ensures.refused)

pub returns-then-not-is_small : goal.returns-then-not-is_small
returns-then-not-is_small c =
    too_large _ _ _ _ c.in_ok-fields.ensures.range _ c.is_small.ensures c.if-not-is_small.true
    ∙ ap (melt_fields _ _) (sym c.in_ok-fields.ensures.found)

pub returns-in_err-end : goal.returns-in_err-end
returns-in_err-end c =
    let p = err_from_is_err_and c.from_residual-in_err-end.result c.from_residual-in_err-end.ensures.1 in
    rw (p.1, p.2)
    (run_refused _ _ _ _ c.in_ok-fields.ensures.range _ c.is_small.ensures c.if-not-is_small.false _ c.run.new.m
    c.weighed_part-field.ensures
    _ c.in_err-end.ensures ∙ ap (melt_fields _ _) (sym c.in_ok-fields.ensures.found))

pub returns : goal.returns
returns c =
    run_answers _ _ _ _ c.in_ok-fields.ensures.range _ c.is_small.ensures c.if-not-is_small.false _ c.run.new.m c.weighed_part-field.ensures
    _ c.in_ok-end.ensures _ c.conclude.ensures ∙ ap (melt_fields _ _) (sym c.in_ok-fields.ensures.found)
