use Rattle.std.proofs.Common.{refl}
use Rattle.edges.proofs.Joining.{side_fresh}
use Rattle.edges.proofs.is_joined.Goals as goal

pub returns-then-side-ne0 : goal.returns-then-side-ne0
returns-then-side-ne0 c = side_fresh c.args.xs.now _ _ _ _ _ c.none_joins.result c.if-side-ne0.true c.none_joins.ensures refl
