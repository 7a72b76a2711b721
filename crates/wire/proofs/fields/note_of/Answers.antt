use Rattle.std.proofs.Common.{rules}
use Rattle.wire.proofs.Later.{note_back}
use Rattle.wire.proofs.fields.note_of.Goals as goal

pub returns-clause-back : goal.returns-clause-back
returns-clause-back c =
    search (rules, note_back _ _ _ _ _ _ c.past.ensures.rest c.past-2.ensures.rest c.past-more.ensures.rest c.in-Some.ensures.some)
