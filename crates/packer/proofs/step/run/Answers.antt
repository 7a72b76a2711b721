use Prim.Native.Nat.{◌+◌, ◌-◌, ◌<◌}
use native.Mathlib.Omega.{arith}
use mathlib.Core.Path.{◌≡◌, sym, ap, ◌∙◌}
use Rattle.std.proofs.lemmas.Result.{err_from_is_err_and}
use Rattle.pack_theory.specs.Packing.Taken.{taken_of}
use Rattle.pack_theory.proofs.Packing.Running.{loop_first, loop_done, loop_out, loop_stopped, loop_room, loop_on}
use Rattle.pack_theory.proofs.Packing.Order.{order_first, order_done, order_out, order_stopped, order_on}
use Rattle.packer.proofs.Wiring.{written_position, written_buffer}
use Rattle.packer.proofs.step.run.Goals as goal

pub loop-init : goal.loop-init
loop-init c =
    let e : c.args.budget - 0 ≡ c.args.budget = omega arith in
    rw e (
      omega arith,
      loop_first c.args.list.now c.args.chains.now c.args.budget c.args.start c.args.built.now c.args.numbering.now c.args.buffer.now
          c.args.m.now
          c.requires.0,
      order_first c.args.list.now c.args.budget c.args.start c.args.built.now c.args.numbering.now c.args.m.now c.args.order.now
          c.requires.2,
    )

pub returns-then-is_complete-clause-run : goal.returns-then-is_complete-clause-run
returns-then-is_complete-clause-run c =
    loop_done _ _ _ _ _ _ _ _ _ _ _ _ _ _ _ c.loop.invariant.1
    (sym c.is_complete.ensures ∙ c.if-is_complete.true)

pub returns-then-is_complete-clause-order : goal.returns-then-is_complete-clause-order
returns-then-is_complete-clause-order c =
    order_done _ _ _ _ _ _ _ _ _ _ _ _ _ c.loop.invariant.2
    (sym c.is_complete.ensures ∙ c.if-is_complete.true) c.loop.at

pub returns-in_err-o-clause-run : goal.returns-in_err-o-clause-run
returns-in_err-o-clause-run c =
    let p = err_from_is_err_and c.from_residual.result c.from_residual.ensures.1 in
    rw (p.1, p.2)
    (loop_stopped _ _ _ _ _ _ _ _ _ _ _ _ _ _ _ c.loop.invariant.1 _ _ _ _ c.step.ensures.step
    (omega (arith, c.loop-test.true)) _ (ap taken_of c.in_err-o.was))

pub returns-in_err-o-clause-order : goal.returns-in_err-o-clause-order
returns-in_err-o-clause-order c =
    let p = err_from_is_err_and c.from_residual.result c.from_residual.ensures.1 in
    rw (p.1)
    (order_stopped _ _ _ _ _ _ _ _ _ _ _ _ _ c.loop.invariant.2 _ _ _ _ _ c.step.ensures.step c.step.ensures.order _
    (ap taken_of c.in_err-o.was))

pub loop-preserved : goal.loop-preserved
loop-preserved c =
    let e : c.args.budget - (c.loop.counter + 1) ≡ c.args.budget - c.loop.counter - 1 = omega arith in
    let l : 0 < c.args.budget - c.loop.counter = omega (arith, c.loop-test.true) in
    let q = ap taken_of c.in_ok-o.was in
    let n = loop_room _ _ _ _ _ _ _ _ _ _ _ _ _ _ _ c.loop.invariant.1 _ _ _ _ c.step.ensures.step _ _ q l in
    rw e (
      omega (arith, c.loop-test.true),
      loop_on _ _ _ _ _ _ _ _ _ _ _ _ _ _ _ c.loop.invariant.1 _ _ _ _ c.step.ensures.step _ _ q l _ _
          (written_position c.loop.at c.in_ok-o.o _ c.args.budget c.write_operation-at.ensures.next c.requires.1 n)
          c.write_operation-at.auto.pack
          (written_buffer c.loop.buffer _ c.loop.at c.in_ok-o.o c.write_operation-at.ensures.bytes),
      order_on _ _ _ _ _ _ _ _ _ _ _ _ _ c.loop.invariant.2 _ _ _ _ _ c.step.ensures.step c.step.ensures.order _ _ q l
          c.step.auto.order,
    )

pub returns-clause-run : goal.returns-clause-run
returns-clause-run c =
    loop_out _ _ _ _ _ _ _ _ _ _ _ _ _ _ _ c.loop.invariant.1 (omega (arith, c.loop-test.false))

pub returns-clause-order : goal.returns-clause-order
returns-clause-order c =
    order_out _ _ _ _ _ _ _ _ _ _ _ _ _ c.loop.invariant.2 (omega (arith, c.loop-test.false)) c.loop.at
