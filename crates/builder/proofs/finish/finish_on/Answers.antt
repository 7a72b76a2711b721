use Rattle.std.proofs.lemmas.Result.{err_from_is_err_and}
use Rattle.state_theory.proofs.Finishing.Finish.{failed_on, passed_fits, passed_on}
use Rattle.builder.proofs.finish.finish_on.Goals as goal

pub returns-in_err-f : goal.returns-in_err-f
returns-in_err-f c =
    let p = err_from_is_err_and c.from_residual.result c.from_residual.ensures.1 in
    rw (p.1, p.2) (failed_on _ _ _ _ _ _ c.open.ensures _ c.in_err-f.was)

pub finish_front-requires : goal.finish_front-requires
finish_front-requires c = passed_fits c.args.b c.args.triangles.now c.args.m.now c.args.n _ _ c.open.ensures _ c.in_ok-f.was

pub returns : goal.returns
returns c = passed_on c.args.b c.args.triangles.now c.args.m.now c.args.n _ _ c.open.ensures _ c.in_ok-f.was _ c.finish_front.ensures
