use Rattle.melting.proofs.Fielding.{melt_none, melt_some}
use Rattle.melting.proofs.melt_on.Goals as goal

pub returns-in_default : goal.returns-in_default
returns-in_default c = melt_none _ _ _ c.note_of-split.ensures.told c.in_default.ensures.told

pub returns : goal.returns
returns c = melt_some _ _ _ c.note_of-split.ensures.told _ _ c.in-Some.ensures.told _ c.melt_fields.ensures
