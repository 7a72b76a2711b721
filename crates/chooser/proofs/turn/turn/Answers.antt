use Rattle.std.proofs.Common.{arith, refl, ◌≡◌, ◌-◌, ◌+◌, ◌/◌, length, subst}
use Rattle.chooser.proofs.Turning.{finds_as, Turns, turn_flag, turn_none, turn_built, turn_more, turn_done}
use Rattle.chooser.proofs.turn.turn.Goals as goal

pub returns-in_err-next : goal.returns-in_err-next
returns-in_err-next c = rw c.from_residual.ensures
    (turn_none c.requires.0 _ c.loop.invariant.1 (finds_as c.edge-x.ensures.0 c.edge-x.ensures.1 c.in_err-next.ensures))

pub is_built-requires : goal.is_built-requires
is_built-requires c =
    turn_flag c.requires.0 _ c.loop.invariant.1 (finds_as c.edge-x.ensures.0 c.edge-x.ensures.1 c.in_ok-next.ensures)

pub returns-then-is_built : goal.returns-then-is_built
returns-then-is_built c =
    turn_built c.requires.0 _ c.loop.invariant.1 (finds_as c.edge-x.ensures.0 c.edge-x.ensures.1 c.in_ok-next.ensures)
    c.is_built.ensures c.if-is_built.true

pub loop-preserved : goal.loop-preserved
loop-preserved c =
    let n = length c.args.list.now / 3 in
    let e : n - c.loop.counter - 1 ≡ n - (c.loop.counter + 1) = omega arith in (
      refl,
      subst (Turns c.args.way c.args.list.now c.args.built.now c.args.c c.args.first c.in_ok-next.next.vertex) e
          (turn_more c.requires.0 _ c.loop.invariant.1 (omega (arith, c.loop-test.true))
          (finds_as c.edge-x.ensures.0 c.edge-x.ensures.1 c.in_ok-next.ensures) c.is_built.ensures c.if-is_built.false),
    )

pub returns : goal.returns
returns c = turn_done c.requires.0 _ c.loop.invariant.1 (omega (arith, c.loop-test.false))
