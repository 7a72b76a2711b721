use Rattle.std.proofs.Common.{arith, ◌≡◌, ◌+◌, ◌-◌, ◌∙◌}
use Rattle.border_theory.proofs.Ways.Stacking.{releases_here, releases_more, releases_done}
use Rattle.rings.proofs.walks.release.Goals as goal

pub after_of-next-requires : goal.after_of-next-requires
after_of-next-requires g c =
    let (gone, places, records, lender) = c.loop-i.invariant in
    omega (
      arith,
      releases_here _ _ _ _ gone.near (omega (arith, c.loop-i-test.true)),
      places,
      g.met.M.LoopMemory.fits c.loop-i.m,
    )

pub free_place-requires : goal.free_place-requires
free_place-requires g c =
    let (gone, places, records, lender) = c.loop-i.invariant in (
      omega (arith, c.requires.room.0, c.loop-i-test.true, places),
      rw places (releases_here _ _ _ _ gone.near (omega (arith, c.loop-i-test.true))),
      omega (arith, gone.long, c.requires.room.1, places),
    )

pub loop-i-preserved : goal.loop-i-preserved
loop-i-preserved g c =
    let (gone, places, records, lender) = c.loop-i.invariant in
    let top : c.args.k + (c.loop-i.i + 1) ≡ c.args.k + c.loop-i.i + 1 = omega arith in
    let left : c.args.j - (c.loop-i.i + 1) ≡ c.args.j - c.loop-i.i - 1 = omega arith in (
      rw (top, left) (releases_more _ _ _ _ _ _ _ _ _ _ _ gone c.after_of-next.ensures
          (rw (← places) c.free_place.ensures.value) (omega (arith, c.loop-i-test.true))),
      c.free_place.ensures.kept.0 ∙ places,
      c.free_place.ensures.kept.1 ∙ records,
      c.free_place.ensures.kept.2 ∙ lender,
    )

pub returns-clause-value : goal.returns-clause-value
returns-clause-value g c = releases_done _ _ _ _ _ _ _ _ _ c.loop-i.invariant.0 (omega (arith, c.loop-i-test.false))
