use Rattle.std.proofs.lemmas.Result.{err_from_is_err_and}
use Rattle.positions_theory.proofs.Unpacking.{whole_long}
use Rattle.notes_theory.proofs.Unpacking.{note_refused, note_tested}
use Rattle.notes.proofs.unpacking.unpack_noted_on.Goals as goal

pub returns-in_err-model : goal.returns-in_err-model
returns-in_err-model c =
    let p = err_from_is_err_and c.from_residual.result c.from_residual.ensures.1 in
    rw (p.1, p.2) (note_refused _ _ _ _ _ c.note_of-split.ensures.told _ _ c.in_err-model.ensures)

pub tested-requires : goal.tested-requires
tested-requires c = whole_long _ _ _ _ _ c.in_ok-model.ensures

pub returns : goal.returns
returns c = note_tested _ _ _ _ _ c.note_of-split.ensures.told _ _ c.in_ok-model.ensures _ c.is_fit-passes.ensures _ _
    c.tested.ensures.answer c.tested.ensures.triangles
