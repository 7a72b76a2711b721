use Rattle.std.proofs.Common.{rules}
use Rattle.wire.proofs.Later.{third_back}
use Rattle.wire.proofs.fields.parts_of.Goals as goal

pub returns-clause-back : goal.returns-clause-back
returns-clause-back c =
    third_back _ _ _ _ _ _ _ c.in_ok-counts.ensures.some c.in_ok-operations.ensures.some c.in_ok-third.ensures.some (search rules) _
    (search rules)
