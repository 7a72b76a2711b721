-- The records that an operation notes in the plain memory, as lists: those to be linked, and those to be freed.
-- Assumes nothing.
use Rattle.std.specs.Prelude.{ℕ, zero, suc, ◌+◌, ◌-◌, List, [], ◌∷◌}
use Rattle.border_theory.specs.Records.Notes.{linked_count, linked_place, freed_start, freed_end, freed_place}

-- the first k records to be linked, the latest first; and of the stack the k records from a on
unfoldable pub linked_part : List ℕ → ℕ → List ℕ
linked_part m zero = []
linked_part m (suc k) = linked_place m k ∷ linked_part m k

unfoldable pub freed_part : List ℕ → ℕ → ℕ → List ℕ
freed_part m a zero = []
freed_part m a (suc k) = freed_place m (a + k) ∷ freed_part m a k

-- all that are noted
abbrev pub to_link : List ℕ → List ℕ
to_link m = linked_part m (linked_count m)

abbrev pub to_free : List ℕ → List ℕ
to_free m = freed_part m (freed_start m) (freed_end m - freed_start m)
