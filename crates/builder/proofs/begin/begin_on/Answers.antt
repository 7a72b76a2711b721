use Rattle.std.proofs.Common.{rules}
use Rattle.state_theory.proofs.Finishing.Beginning.{begins_range, begins_short, begins_done}
use Rattle.std.proofs.lemmas.Bool.{not_from_false, not_from_true}
use Rattle.builder.proofs.begin.begin_on.Goals as goal

pub returns-then-not-is_in_range : goal.returns-then-not-is_in_range
returns-then-not-is_in_range c =
    begins_range c.args.stated c.args.triangles.now c.args.n _ c.is_in_range.ensures (not_from_false _ c.if-not-is_in_range.true)

pub returns-then-not-is_long_enough : goal.returns-then-not-is_long_enough
returns-then-not-is_long_enough c =
    begins_short c.args.stated c.args.triangles.now c.args.n _ c.is_in_range.ensures (not_from_true _ c.if-not-is_in_range.false) _
    c.is_long_enough.ensures (not_from_false _ c.if-not-is_long_enough.true)

pub returns : goal.returns
returns c = begins_done c.args.stated c.args.triangles.now c.args.n _ c.is_in_range.ensures (not_from_true _ c.if-not-is_in_range.false) _
    c.is_long_enough.ensures (not_from_true _ c.if-not-is_long_enough.false) _ (search rules)
