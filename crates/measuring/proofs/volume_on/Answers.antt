use native.Mathlib.Omega.{arith}
use mathlib.Core.Path.{sym, ◌∙◌}
use mir.Syntax.{w64}
use mir.Facts.{to_z-of_z}
use Rattle.std.proofs.lemmas.Result.{err_from_is_err_and}
use Rattle.notes_theory.proofs.Measuring.{volume_refused, volume_long, volume_measurable, volume_none, volume_rim, volume_sum}
use Rattle.measuring.proofs.volume_on.Goals as goal
use Rattle.measuring.proofs.volume_on.Goals.{in_default-via-in-Some+else-model-eq0, in_default-via-in_default}

pub returns-in_err-model : goal.returns-in_err-model
returns-in_err-model c =
    let p = err_from_is_err_and c.from_residual.result c.from_residual.ensures.1 in
    rw (p.1, p.2) (volume_refused _ _ _ _ _ c.in_err-model.ensures)

pub six_of-six-requires : goal.six_of-six-requires
six_of-six-requires c = rw c.from.ensures (volume_measurable _ _ _ _ _ c.in_ok-model.ensures _ (sym c.in-Some.ensures))

pub clear-requires : goal.clear-requires
clear-requires c = omega (arith, volume_long _ _ _ _ _ c.in_ok-model.ensures, c.from-in_default.ensures)

pub returns-in-Some : goal.returns-in-Some
returns-in-Some c =
    volume_sum _ _ _ _ _ c.in_ok-model.ensures _ (sym c.in-Some.ensures) c.if-model-eq0.true _
    (to_z-of_z {w = w64} (record { sfits = c.six_of-six.type_inv }) ∙ (rw c.from.ensures at c.six_of-six.ensures))

pub returns-in_default : goal.returns-in_default
returns-in_default c =
    rw (rw c.from-in_default.ensures at c.clear.ensures)
    (elim c.in_default.branch [
      | in_default-via-in-Some+else-model-eq0 w ↦
          volume_rim _ _ _ _ _ c.in_ok-model.ensures _ (sym w.in-Some.ensures) w.if-model-eq0.false
      | in_default-via-in_default w ↦ volume_none _ _ _ _ _ c.in_ok-model.ensures (sym w.in_default.ensures)
    ])
