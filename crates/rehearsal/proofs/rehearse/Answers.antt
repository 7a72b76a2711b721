-- The promises of the calls, one after the other.
use Rattle.std.proofs.Common.{◌≡◌, length, arith, add-one}
use Rattle.rehearsal.proofs.Laws.{begun_state, reached_first, reached_more, reached_end}
use Rattle.rehearsal.proofs.rehearse.Goals as goal

pub loop-op-init : goal.loop-op-init
loop-op-init c = (
  omega arith,
  rw (begun_state c.begin.result c.empty.result _ c.empty.ensures c.unwrap_or-state.ensures) (reached_first _ _ _ _ _ _ c.begin.ensures),
)

pub loop-op-preserved : goal.loop-op-preserved
loop-op-preserved c = (
  omega arith,
  rw add-one (reached_more _ _ _ _ _ _ _ _ c.loop-op-test.true _ _ _ c.loop-op.invariant.1 c.operation-answer.ensures),
)

pub returns : goal.returns
returns c =
    let e : c.loop-op.op-index ≡ length c.args.ops.now = omega arith in
    reached_end _ _ _ _ _ _ _ _ (rw e at c.loop-op.invariant.1) c.finish.ensures
