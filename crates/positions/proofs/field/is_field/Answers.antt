use Prim.Native.Nat.{◌*◌}
use native.Mathlib.Omega.{arith}
use Rattle.wire_theory.proofs.Positions.{length_from}
use Rattle.wire_theory.proofs.Grid.{none_tested, one_outside, all_tested}
use Rattle.positions.proofs.field.is_field.Goals as goal

pub loop-i-init : goal.loop-i-init
loop-i-init c =
    let l = length_from c.args.field.now (3 * c.args.v) (omega (arith, c.if-field-from.false, c.from.ensures)) in
    none_tested _ _ _ _ (omega (arith, c.if-field-from.false, c.from.ensures)) (omega (arith, l, c.from-i.ensures))

pub is_in_grid-requires : goal.is_in_grid-requires
is_in_grid-requires c = omega (
  arith,
  c.loop-i.invariant.long,
  c.loop-i.invariant.within,
  length_from c.args.field.now (3 * c.args.v)
      (omega (arith, c.loop-i.invariant.long)),
  c.loop-i-test.true,
)

pub returns-then-not-is_in_grid : goal.returns-then-not-is_in_grid
returns-then-not-is_in_grid c = one_outside _ _ _ _ c.loop-i.invariant _ c.is_in_grid.ensures c.if-not-is_in_grid.true

pub returns : goal.returns
returns c = all_tested _ _ _ _ c.loop-i.invariant c.loop-i-test.false
