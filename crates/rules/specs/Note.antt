-- The note that may follow the other fields of a pack: 25. What stands before it is read as if there were none.
-- Assumes nothing.
use Rattle.std.specs.Prelude.{ℕ, ◌-◌, Bool, true, List, [], ◌∷◌, ◌++◌, length, take}
use Rattle.rules.specs.Limits.{max_note, between}
use Rattle.rules.specs.Fields.{counts_tag, operations_tag, field_of, Field, no_field, field, take_field}
use Rattle.rules.specs.Later.{positions_tag, Given, not_given, given}

abbrev pub note_tag : ℕ
note_tag = 4

-- 25: a note has one to 64 bytes
abbrev pub note_fits : Given (List ℕ) → Bool
note_fits not_given = true
note_fits (given ns) = between 1 (length ns) max_note

-- some fields, and the note after them
abbrev pub with_note : Given (List ℕ) → List ℕ → List ℕ
with_note not_given bs = bs
with_note (given ns) bs = bs ++ field_of note_tag ns

-- a pack's bytes before its note, and the contents of the note
pub record NoteTaken : Type 0 where
  pub before : List ℕ
  pub note : Given (List ℕ)

-- the bytes after a field that was taken off bs; all of bs, if there was none
abbrev pub past_field : List ℕ → Field → List ℕ
past_field bs no_field = bs
past_field bs (field cs more) = more

-- the bytes after the field with this tag
abbrev pub past : ℕ → List ℕ → List ℕ
past tag bs = past_field bs (take_field tag bs)

-- nothing follows a note
abbrev pub last_note : List ℕ → List ℕ → Field → NoteTaken
last_note bytes front no_field = record { before = bytes; note = not_given }
last_note bytes front (field ns (b ∷ bs)) = record { before = bytes; note = not_given }
last_note bytes front (field ns []) = record { before = front; note = given ns }

-- the bytes after the fields of the other tags, as many as are there
abbrev pub past_others : List ℕ → List ℕ
past_others bytes = past positions_tag (past operations_tag (past counts_tag bytes))

-- the note, taken off the end of a pack
unfoldable pub take_note : List ℕ → NoteTaken
take_note bytes =
    let more = past_others bytes in last_note bytes (take (length bytes - length more) bytes) (take_field note_tag more)
