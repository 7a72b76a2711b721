use native.Mathlib.Omega.{arith}
use mathlib.Core.Path.{refl, ◌∙◌}
use borrow.Author.Rules.{rules}
use Rattle.mesh_theory.proofs.Chains.Fans.{fans_none, fans_here, fans_not}
use Rattle.mesh.proofs.Noting.{zeros_fresh, fresh_at}
use Rattle.std.proofs.lemmas.Bool.{not_from_false, not_from_true}
use Rattle.mesh.proofs.fans.fans.Goals as goal

pub loop-u-init : goal.loop-u-init
loop-u-init c = (search rules, refl, zeros_fresh 16384 _ refl)

pub is_fan_if_met-requires-clause-linked : goal.is_fan_if_met-requires-clause-linked
is_fan_if_met-requires-clause-linked c =
    (c.requires.linked.0, omega arith, fresh_at c.loop-u.notes c.loop-u.u c.loop-u-test.true c.loop-u.invariant.2)

pub returns-then-not-is_fan_if_met : goal.returns-then-not-is_fan_if_met
returns-then-not-is_fan_if_met c =
    fans_not _ _ _ c.loop-u-test.true c.is_fan_if_met.ensures.fan (not_from_false _ c.if-not-is_fan_if_met.true) ∙ c.loop-u.invariant.1

pub loop-u-preserved : goal.loop-u-preserved
loop-u-preserved c = (
  search rules,
  fans_here _ _ _ c.loop-u-test.true c.is_fan_if_met.ensures.fan (not_from_true _ c.if-not-is_fan_if_met.false) ∙ c.loop-u.invariant.1,
  c.is_fan_if_met.ensures.fresh,
)

pub returns : goal.returns
returns c = fans_none _ _ c.loop-u-test.false ∙ c.loop-u.invariant.1
