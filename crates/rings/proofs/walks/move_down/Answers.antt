use Rattle.std.proofs.Common.{arith, ◌≡◌, ◌+◌, ◌-◌, ◌∙◌}
use Rattle.border_theory.proofs.Ways.Stacking.{moves_more, moves_done}
use Rattle.rings.proofs.walks.move_down.Goals as goal

pub loop-to-preserved : goal.loop-to-preserved
loop-to-preserved g c =
    let (moves, places, records, lender) = c.loop-to.invariant in
    let left : c.args.l + c.args.k - (c.loop-to.to + 1) ≡ c.args.l + c.args.k - c.loop-to.to - 1 = omega arith in (
      rw left (moves_more _ _ _ _ _ _ _ _ moves
          (rw (← places, ← c.place_at-p.ensures.value, ← c.size_at-z.ensures.value) c.wait_at.ensures.value)
          (omega (arith, c.loop-to-test.true))),
      c.wait_at.ensures.kept.0 ∙ places,
      c.wait_at.ensures.kept.1 ∙ records,
      c.wait_at.ensures.kept.2 ∙ lender,
    )

pub returns-clause-value : goal.returns-clause-value
returns-clause-value g c = moves_done _ _ _ _ _ _ _ c.loop-to.invariant.0 (omega (arith, c.loop-to-test.false))
