-- The tagged fields of a pack: 12. A length is below 65,536: no pack of a model comes near it.
-- Assumes nothing.
use Rattle.std.specs.Prelude.{ℕ, ◌+◌, ◌*◌, ◌/◌, ◌%◌, true, false, List, [], ◌∷◌, ◌++◌, length, take, drop, get_or, eqb, leb}
use Rattle.rules.specs.declared.Counts.{Counts}

abbrev pub counts_tag : ℕ
counts_tag = 1

abbrev pub operations_tag : ℕ
operations_tag = 2

-- a number in two bytes, the high one first, written and read
abbrev pub word : ℕ → List ℕ
word v = v / 256 % 256 ∷ (v % 256 ∷ [])

abbrev pub word_at : List ℕ → ℕ → ℕ
word_at bs i = 256 * get_or bs i 0 + get_or bs (i + 1) 0

-- a field: its tag, its length, its contents
abbrev pub field_of : ℕ → List ℕ → List ℕ
field_of tag bs = tag ∷ (word (length bs) ++ bs)

abbrev pub counts_of : Counts → List ℕ
counts_of s = word s.vertices ++ (word s.triangles ++ (word s.places ++ word s.loops))

-- the pack with these counts and operations
unfoldable pub pack_bytes : Counts → List ℕ → List ℕ
pack_bytes s ops = field_of counts_tag (counts_of s) ++ field_of operations_tag ops

-- the contents of the field with this tag at the front of some bytes, and the bytes after it; or there is no such field, whole
pub data Field : Type 0 where
  no_field : Field
  field : List ℕ → List ℕ → Field

unfoldable pub take_field : ℕ → List ℕ → Field
take_field tag [] = no_field
take_field tag (t ∷ []) = no_field
take_field tag (t ∷ (h ∷ [])) = no_field
take_field tag (t ∷ (h ∷ (l ∷ bs))) =
    let n = 256 * h + l in
    elim (eqb t tag) [ true ↦ elim (leb n (length bs)) [ true ↦ field (take n bs) (drop n bs) | false ↦ no_field ] | false ↦ no_field ]

-- the counts and the operations of a pack; 12 if the bytes are not the two fields, whole and in order
pub data Fields : Type 0 where
  no_pack : Fields
  fields : Counts → List ℕ → Fields

abbrev pub counts_from : List ℕ → Counts
counts_from bs = record { vertices = word_at bs 0; triangles = word_at bs 2; places = word_at bs 4; loops = word_at bs 6 }

-- nothing follows
abbrev pub last_field : List ℕ → Field → Fields
last_field counts no_field = no_pack
last_field counts (field ops []) = fields (counts_from counts) ops
last_field counts (field ops (b ∷ bs)) = no_pack

abbrev pub first_field : Field → Fields
first_field no_field = no_pack
first_field (field counts bs) = elim (eqb (length counts) 8) [ true ↦ last_field counts (take_field operations_tag bs) | false ↦ no_pack ]

unfoldable pub fields_of : List ℕ → Fields
fields_of bytes = first_field (take_field counts_tag bytes)
