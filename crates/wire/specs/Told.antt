-- The parts and the note of a pack that an answer tells, each a part of the bytes that were lent.
-- Assumes nothing.
use Rattle.std.specs.Prelude.{Option, Some, None, List, ℕ}
use Rattle.std.specs.Borrow.{Bor}
use Rattle.rules.specs.Later.{Given, not_given, given, no_parts, parts}
use Rattle.rules.specs.Later as R
use Rattle.rules.specs.Note.{NoteTaken}
use Rattle.wire.specs.declared.fields.Parts.{Parts}
use Rattle.wire.specs.declared.fields.NoteSplit.{NoteSplit}

-- a part that may be left out
abbrev pub lent : Option (Bor (List ℕ)) → Given (List ℕ)
lent None = not_given
lent (Some s) = given s.now

abbrev pub parts_told : Option Parts → R.Parts
parts_told None = no_parts
parts_told (Some p) = parts p.two.now (lent p.positions)

abbrev pub note_told : NoteSplit → NoteTaken
note_told n = record { before = n.before.now; note = lent n.note }
