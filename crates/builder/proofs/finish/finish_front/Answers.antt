use Rattle.state_theory.proofs.Finishing.Finish.{front_15, front_19, front_20, front_done}
use Rattle.std.proofs.lemmas.Bool.{not_from_false, not_from_true}
use Rattle.builder.proofs.finish.finish_front.Goals as goal

pub returns-then-not-is_complete : goal.returns-then-not-is_complete
returns-then-not-is_complete c = front_15 c.args.f c.args.triangles.now _ c.is_complete.ensures (not_from_false _ c.if-not-is_complete.true)

pub returns-then-not-is_as_stated : goal.returns-then-not-is_as_stated
returns-then-not-is_as_stated c =
    front_19 c.args.f c.args.triangles.now _ c.is_complete.ensures (not_from_true _ c.if-not-is_complete.false) _ c.is_as_stated.ensures
    (not_from_false _ c.if-not-is_as_stated.true)

pub returns-then-not-one_fan_each : goal.returns-then-not-one_fan_each
returns-then-not-one_fan_each c =
    front_20 c.args.f c.args.triangles.now _ c.is_complete.ensures (not_from_true _ c.if-not-is_complete.false) _ c.is_as_stated.ensures
    (not_from_true _ c.if-not-is_as_stated.false) _ c.one_fan_each.ensures (not_from_false _ c.if-not-one_fan_each.true)

pub returns : goal.returns
returns c = front_done c.args.f c.args.triangles.now _ c.is_complete.ensures (not_from_true _ c.if-not-is_complete.false) _
    c.is_as_stated.ensures
    (not_from_true _ c.if-not-is_as_stated.false) _ c.one_fan_each.ensures (not_from_true _ c.if-not-one_fan_each.false) _
    c.totals_of.ensures
