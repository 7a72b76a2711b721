-- Unpacking a pack that may have positions, or of any pack what stands before its note: its first two fields are unpacked (12 to 20), then
-- 23 is tested.
-- Assumes nothing.
use Rattle.std.specs.Prelude.{ℕ, ◌*◌, Bool, true, false, ◌&&◌, List, length, eqb}
use Rattle.rules.specs.declared.Model.{Model}
use Rattle.rules.specs.Answer.{Answer, refusal, accepted, triangle, no_triangle, numbers, packed, unpacked}
use Rattle.rules.specs.Buffer.{zeroed, cleared, Buffers}
use Rattle.rules.specs.Unpack.{UnpackResult, turned_down, unpack}
use Rattle.rules.specs.Grid.{all_in_grid, positions_from}
use Rattle.rules.specs.Later.{Given, not_given, given, Parts, no_parts, parts, parts_of}

-- 23: a field of six bytes for each vertex, every position in range
abbrev pub field_fits : ℕ → Given (List ℕ) → Bool
field_fits v not_given = true
field_fits v (given bs) = eqb (length bs) (6 * v) && all_in_grid (positions_from bs)

-- the model of an unpacking that is accepted
abbrev pub model_in : Answer → Given Model
model_in (unpacked m) = given m
model_in (refusal n) = not_given
model_in accepted = not_given
model_in (triangle t) = not_given
model_in no_triangle = not_given
model_in (numbers x) = not_given
model_in (packed n) = not_given

-- what 20 leaves
abbrev pub left_by20 : Model → Buffers → Buffers
left_by20 m r = record { triangles = zeroed (3 * m.triangles) r.triangles; places = cleared r.places }

-- a test of what follows the operations of an accepted model, after an unpacking with the result u: refusal k leaves what 20 leaves
unfoldable pub then_tested : ℕ → (Model → Bool) → Buffers → UnpackResult → Given Model → UnpackResult
then_tested k fits r u not_given = u
then_tested k fits r u (given m) = elim (fits m) [ true ↦ u | false ↦ record { answer = refusal k; buffers = left_by20 m r } ]

unfoldable pub unpack_parts : Buffers → Parts → UnpackResult
unpack_parts r no_parts = turned_down 12 r
unpack_parts r (parts two ps) = let u = unpack two r in then_tested 23 (λ m. field_fits m.vertices ps) r u (model_in u.answer)

abbrev pub unpack_whole : List ℕ → Buffers → UnpackResult
unpack_whole bytes r = unpack_parts r (parts_of bytes)
