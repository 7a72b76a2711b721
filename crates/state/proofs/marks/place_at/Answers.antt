use Rattle.state_theory.proofs.Reading.Records.{place_none}
use Rattle.state_theory.proofs.Opening.Walking.{place_record}
use Rattle.state.proofs.marks.place_at.Goals as goal

pub returns-then-i-ge-PLACES : goal.returns-then-i-ge-PLACES
returns-then-i-ge-PLACES c = place_none _ _ c.if-i-ge-PLACES.true

pub returns : goal.returns
returns c = place_record _ _ _ c.if-i-ge-PLACES.false c.record_at.ensures
