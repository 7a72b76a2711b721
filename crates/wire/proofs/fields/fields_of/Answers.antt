use Rattle.std.proofs.Common.{rules}
use Rattle.wire.proofs.Later.{operations_back}
use Rattle.wire.proofs.fields.fields_of.Goals as goal

pub returns-clause-back : goal.returns-clause-back
returns-clause-back c =
    operations_back _ _ _ _ _ c.in-Some.ensures.some (search rules) c.in-Some-take_field.ensures.some (search rules) c.in-Some.ensures.long
