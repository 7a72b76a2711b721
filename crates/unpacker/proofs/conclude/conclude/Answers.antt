use native.Mathlib.Omega.{arith}
use Rattle.unpack_theory.proofs.Concluding.{part_linked, part_unmet, used_most}
use Rattle.unpack_theory.proofs.Concluding.{concludes_fans, concludes_done}
use Rattle.unpacker.proofs.conclude.conclude.Goals as goal

pub met_fans-requires-clause-linked : goal.met_fans-requires-clause-linked
met_fans-requires-clause-linked c = (
  part_linked c.args.s _ _ _ c.requires _ (omega (arith, c.from-n.ensures)),
  omega (arith, used_most c.args.s _ _ _ c.requires, c.from.ensures),
)

pub met_fans-requires-clause-unmet : goal.met_fans-requires-clause-unmet
met_fans-requires-clause-unmet c = part_unmet c.args.s _ _ _ c.requires _ (omega (arith, c.from-n.ensures)) _

pub returns-then-not-met_fans : goal.returns-then-not-met_fans
returns-then-not-met_fans c = concludes_fans c.args.ops.now c.args.at c.args.s c.args.triangles.now c.args.chains.now c.args.met.now _
    c.is_rest_zero.ensures c.if-not-is_rest_zero.false _ c.is_as_stated.ensures c.if-not-is_as_stated.false _ _
    (omega (arith, c.from-n.ensures)) c.from.ensures _ c.met_fans.ensures c.if-not-met_fans.true

pub returns : goal.returns
returns c = concludes_done c.args.ops.now c.args.at c.args.s c.args.triangles.now c.args.chains.now c.args.met.now _
    c.is_rest_zero.ensures c.if-not-is_rest_zero.false _ c.is_as_stated.ensures c.if-not-is_as_stated.false _ _
    (omega (arith, c.from-n.ensures)) c.from.ensures _ c.met_fans.ensures c.if-not-met_fans.false _ c.model_of.ensures
