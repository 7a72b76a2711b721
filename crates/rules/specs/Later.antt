-- The first field that may follow the operations of a pack: grid positions. 12 counts it in its place, whole, at most once. A note is taken
-- off before (Note).
-- Assumes nothing.
use Rattle.std.specs.Prelude.{ℕ, ◌-◌, List, [], ◌∷◌, length, take}
use Rattle.rules.specs.Fields.{counts_tag, operations_tag, Field, no_field, field, take_field}

abbrev pub positions_tag : ℕ
positions_tag = 3

-- something that may be left out
pub data Given (A : Type 0) : Type 0 where
  not_given : Given A
  given : A → Given A

-- a pack's first two fields, as they stand, and the contents of the third, if there is one; 12 if the bytes are no such fields. That the
-- first has a length of 8 is told by `fields_of`.
pub data Parts : Type 0 where
  no_parts : Parts
  parts : List ℕ → Given (List ℕ) → Parts

-- nothing follows the third
abbrev pub last_part : List ℕ → Field → Parts
last_part two no_field = no_parts
last_part two (field ps []) = parts two (given ps)
last_part two (field ps (b ∷ bs)) = no_parts

unfoldable pub later_part : List ℕ → List ℕ → Parts
later_part two [] = parts two not_given
later_part two (b ∷ bs) = last_part two (take_field positions_tag (b ∷ bs))

abbrev pub after_operations : List ℕ → Field → Parts
after_operations bytes no_field = no_parts
after_operations bytes (field ops more) = later_part (take (length bytes - length more) bytes) more

abbrev pub after_counts : List ℕ → Field → Parts
after_counts bytes no_field = no_parts
after_counts bytes (field counts more) = after_operations bytes (take_field operations_tag more)

unfoldable pub parts_of : List ℕ → Parts
parts_of bytes = after_counts bytes (take_field counts_tag bytes)
