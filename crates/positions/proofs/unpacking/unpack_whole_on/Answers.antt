use Rattle.std.proofs.lemmas.Result.{err_from_is_err_and}
use Rattle.positions_theory.proofs.Unpacking.{no_parts_on, parts_refused, parts_tested, model_long}
use Rattle.positions.proofs.unpacking.unpack_whole_on.Goals as goal

pub returns-in_default : goal.returns-in_default
returns-in_default c = no_parts_on _ _ _ c.in_default.ensures.told

pub returns-in_err-model : goal.returns-in_err-model
returns-in_err-model c =
    let p = err_from_is_err_and c.from_residual.result c.from_residual.ensures.1 in
    rw (p.1, p.2) (parts_refused _ _ _ _ _ c.in-Some.ensures.told _ _ c.in_err-model.ensures)

pub tested-requires : goal.tested-requires
tested-requires c = model_long _ _ _ _ _ c.in_ok-model.ensures c.unpack_on.auto.triangles

pub returns : goal.returns
returns c = parts_tested _ _ _ _ _ c.in-Some.ensures.told _ _ c.in_ok-model.ensures _ c.are_fit-passes.ensures _ _ c.tested.ensures.answer
    c.tested.ensures.triangles
