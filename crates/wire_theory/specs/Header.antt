-- What a pack has before its operations.
-- Assumes nothing.
use Rattle.std.specs.Prelude.{ℕ, List, ◌∷◌, ◌++◌}
use Rattle.rules.specs.declared.Counts.{Counts}
use Rattle.rules.specs.Fields.{counts_tag, operations_tag, word, counts_of}

-- the field of the counts, and the tag and the length of the field of n bytes of operations: 14 bytes
unfoldable pub header_of : Counts → ℕ → List ℕ
header_of s n = counts_tag ∷ (word 8 ++ (counts_of s ++ (operations_tag ∷ word n)))
