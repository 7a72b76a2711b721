use Rattle.std.proofs.lemmas.Result.{err_from_is_err_and}
use Rattle.notes_theory.proofs.Unpacking.{noted_fits, bench_refused, bench_model}
use Rattle.notes.proofs.reading.bench_on.Goals as goal

pub returns-in_err-model-clause-told : goal.returns-in_err-model-clause-told
returns-in_err-model-clause-told c =
    let p = err_from_is_err_and c.from_residual.result c.from_residual.ensures.1 in
    rw (p.1, p.2) (bench_refused _ _ _ _ _ c.in_err-model.ensures)

pub note_span-requires : goal.note_span-requires
note_span-requires c = noted_fits _ _ _ _ _ c.in_ok-model.ensures

pub returns-clause-told : goal.returns-clause-told
returns-clause-told c = bench_model _ _ _ _ _ c.note_span.result c.in_ok-model.ensures c.note_span.ensures.told
