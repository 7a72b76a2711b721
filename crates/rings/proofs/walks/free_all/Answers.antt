use Rattle.std.proofs.Common.{arith, refl, ◌∙◌}
use Rattle.border_theory.proofs.Ways.Stacking.{frees_start, frees_more, frees_done}
use Rattle.rings.proofs.walks.free_all.Goals as goal

pub loop-i-init : goal.loop-i-init
loop-i-init g c = (frees_start _ _, refl, refl, refl)

pub loop-i-preserved : goal.loop-i-preserved
loop-i-preserved g c =
    let (frees, places, records, lender) = c.loop-i.invariant in (
      rw (c.free_place.ensures.value, places)
          (frees_more _ _ _ _ frees (omega (arith, c.loop-i-test.true, c.capacity-i-end.ensures))),
      c.free_place.ensures.kept.0 ∙ places,
      c.free_place.ensures.kept.1 ∙ records,
      c.free_place.ensures.kept.2 ∙ lender,
    )

pub returns-clause-value : goal.returns-clause-value
returns-clause-value g c =
    frees_done _ _ _ _ c.loop-i.invariant.0 (omega (arith, c.loop-i-test.false, c.capacity-i-end.ensures))
