use mathlib.Core.Path.{sym, ◌∙◌}
use Rattle.std.proofs.lemmas.Result.{err_from_is_err_and}
use Rattle.unpack_theory.proofs.Unpacking.{short_on, run_on}
use Rattle.unpacker.proofs.Fielding.{refused_on}
use Rattle.unpacker.proofs.unpack_on.Goals as goal

pub returns-in_err-fields : goal.returns-in_err-fields
returns-in_err-fields c =
    let p = err_from_is_err_and c.from_residual.result c.from_residual.ensures.1 in
    rw (p.1, p.2) (refused_on c.args.n c.args.triangles.now _ c.args.pack.now c.in_err-fields.ensures.refused)

pub returns-then-not-is_long_enough : goal.returns-then-not-is_long_enough
returns-then-not-is_long_enough c =
    short_on c.args.pack.now c.args.n c.args.triangles.now _ _ c.in_ok-fields.ensures.found c.in_ok-fields.ensures.range
    (sym c.is_long_enough.ensures ∙ c.if-not-is_long_enough.true)

pub returns : goal.returns
returns c =
    run_on c.args.pack.now c.args.n c.args.triangles.now _ _ c.in_ok-fields.ensures.found c.in_ok-fields.ensures.range
    (sym c.is_long_enough.ensures ∙ c.if-not-is_long_enough.false) _ _ c.unpack_operations.ensures
