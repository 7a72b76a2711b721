-- What is claimed of packs with positions.
-- Assumes nothing.
use Rattle.std.specs.Prelude.{ℕ, ◌+◌, ◌*◌, ◌≤◌, ◌<◌, true, false, List, ◌++◌, ◌≡◌, ℤ, length, take}
use Rattle.rules.specs.declared.Counts.{Counts}
use Rattle.rules.specs.declared.Model.{Model}
use Rattle.rules.specs.Checked.{Accepted}
use Rattle.rules.specs.Triangle.{triangles_of}
use Rattle.rules.specs.Check.{check}
use Rattle.rules.specs.Answer.{refusal, packed, unpacked}
use Rattle.rules.specs.Buffer.{over, Buffers}
use Rattle.rules.specs.Fields.{field_of, fields, fields_of}
use Rattle.rules.specs.Pack.{PackBuffers, PackResult, turned_down, pack_refused, pack_long_enough, order_long_enough, pack}
use Rattle.rules.specs.Unpack.{UnpackResult, unpack}
use Rattle.rules.specs.Grid.{all_in_grid, position_bytes, positions_from}
use Rattle.rules.specs.Volume.{point_at, six_volumes}
use Rattle.rules.specs.Later.{positions_tag, Given, not_given, given, parts, parts_of}
use Rattle.rules.specs.PackWhole.{Extras, extras, positions_fit, pack_whole}
use Rattle.rules.specs.UnpackWhole.{unpack_whole}
use Rattle.rules.specs.Reading.{unpack_noted, VolumeResult, positions_in, volume}
use Rattle.wire_theory.specs.Shape.{Bytes}
use Rattle.roundtrip.specs.Claims.{new_number, LongEnoughFor, Gives, list_in}

-- given neither positions nor a note, packing is that of the list
abbrev pub GivenNeitherPacksTheList : Type 0
GivenNeitherPacksTheList = (v : ℕ) (xs : List ℕ) (r : PackBuffers) → pack_whole v xs (extras not_given not_given) r ≡ pack v xs r

-- how many bytes the field of positions takes
abbrev pub field_length : ℕ → ℕ
field_length v = 3 + 6 * v

-- a list and buffers that pass 1 to 8 and 22
pub record PassesRooms (v : ℕ) (xs : List ℕ) (r : PackBuffers) : Type 0 where
  pub list : check v xs ≡ Accepted
  pub rooms : pack_long_enough v r ≡ true
  pub order : order_long_enough (triangles_of xs) r ≡ true

-- "the pack is compared as the old pack followed by the positions, lent by old vertex, in new numbering": q is the packing of the list
-- alone, its pack of n bytes, p that with the positions zs, in the same buffers r
pub record Followed (v n : ℕ) (zs : List ℤ) (r : PackBuffers) (p q : PackResult) : Type 0 where
  pub positions : List ℤ
  pub count : length positions ≡ 3 * v
  pub range : all_in_grid positions ≡ true
  pub points : (x : ℕ) → x < v → point_at positions (new_number q x) ≡ point_at zs x
  pub answer : p.answer ≡ packed (n + field_length v)
  pub bytes : p.buffers.pack ≡ over (take n q.buffers.pack ++ field_of positions_tag (position_bytes positions)) r.pack
  pub numbering : p.buffers.numbering ≡ q.buffers.numbering
  pub order : p.buffers.order ≡ q.buffers.order
  pub places : p.buffers.places ≡ q.buffers.places

-- what packing with positions does, beside packing the same list without
pub record Beside (v : ℕ) (xs : List ℕ) (zs : List ℤ) (r : PackBuffers) (p q : PackResult) : Type 0 where
  -- 23 stands after 22 and before 9
  pub earlier : (PassesRooms v xs r → ⊥) → p ≡ q
  pub unfit : positions_fit v zs ≡ false → PassesRooms v xs r → p ≡ turned_down 23 r
  -- positions that fit
  pub refused : positions_fit v zs ≡ true → (k : ℕ) → q.answer ≡ refusal k → p ≡ q
  pub too_long : positions_fit v zs ≡ true → (n : ℕ) → q.answer ≡ packed n → length r.pack < n + field_length v
      → p ≡ pack_refused 11 v (triangles_of xs) r
  pub follows : positions_fit v zs ≡ true → (n : ℕ) → q.answer ≡ packed n → n + field_length v ≤ length r.pack → Followed v n zs r p q

abbrev pub PositionsFollowThePack : Type 0
PositionsFollowThePack = (v : ℕ) (xs : List ℕ) (zs : List ℤ) (r : PackBuffers)
    → Beside v xs zs r (pack_whole v xs (extras (given zs) not_given) r) (pack v xs r)

-- "Packs without the field read as before"
abbrev pub PacksOfTwoFieldsReadAsBefore : Type 0
PacksOfTwoFieldsReadAsBefore = (bytes : List ℕ) (s : Counts) (ops : List ℕ) → fields_of bytes ≡ fields s ops → (r : Buffers)
    → unpack_noted bytes r ≡ unpack bytes r

-- packs without a note read as before there were any, and so does what stands before a note: the claims below are of these
abbrev pub PacksWithoutANoteReadAsBefore : Type 0
PacksWithoutANoteReadAsBefore = (bytes two : List ℕ) (g : Given (List ℕ)) → parts_of bytes ≡ parts two g → (r : Buffers)
    → unpack_noted bytes r ≡ unpack_whole bytes r

-- a pack with positions is unpacked as that without, which is the pack of the list alone; the volume call, on a model with no rim, gives
-- the volume of the list
pub record Unpacked (v : ℕ) (xs : List ℕ) (zs : List ℤ) (n : ℕ) (q : PackResult) (u : UnpackResult) (w : VolumeResult) (r : Buffers) : Type
    0
  where
    pub same : u ≡ unpack (take n q.buffers.pack) r
    pub model : Model
    pub accepted : u.answer ≡ unpacked model
    pub six : model.totals.rims ≡ 0 → w.six ≡ given (six_volumes zs (triangles_of xs))
    pub answer : model.totals.rims ≡ 0 → w.answer ≡ unpacked model
    pub buffers : model.totals.rims ≡ 0 → w.buffers ≡ u.buffers

abbrev pub PackWithPositionsUnpacks : Type 0
PackWithPositionsUnpacks = (v : ℕ) (xs : List ℕ) (zs : List ℤ) (r : PackBuffers) (k : ℕ)
    → (pack_whole v xs (extras (given zs) not_given) r).answer ≡ packed k → (r' : Buffers) → LongEnoughFor (length (triangles_of xs)) r'
    → (n : ℕ) × (k ≡ n + field_length v) × ((pack v xs r).answer ≡ packed n)
    × Unpacked v xs zs n (pack v xs r) (unpack_whole (take k (pack_whole v xs (extras (given zs) not_given) r).buffers.pack) r')
    (volume (take k (pack_whole v xs (extras (given zs) not_given) r).buffers.pack) r') r'

-- the positions of a pack, if it has any
abbrev pub positions_given : Given (List ℕ) → Given (List ℤ)
positions_given not_given = not_given
positions_given (given bs) = given (positions_from bs)

abbrev pub positions_of_pack : List ℕ → Given (List ℤ)
positions_of_pack bytes = positions_given (positions_in (parts_of bytes))

-- the bytes are the pack of the list xs, with what is given besides
pub record WholePackOf (bytes : List ℕ) (m : Model) (xs : List ℕ) (e : Extras) : Type 0 where
  pub accepted : check m.vertices xs ≡ Accepted
  pub count : length (triangles_of xs) ≡ m.triangles
  pub packs : (r : PackBuffers) → pack_long_enough m.vertices r ≡ true → order_long_enough (triangles_of xs) r ≡ true
      → length bytes ≤ length r.pack → Gives bytes m.vertices m.triangles (pack_whole m.vertices xs e r)

-- every accepted pack without a note is the pack of its list and its positions, and the only one (of all packs: notes_theory)
abbrev pub EveryAcceptedPackIsThePackOfItsListAndPositions : Type 0
EveryAcceptedPackIsThePackOfItsListAndPositions = (bytes : List ℕ) → Bytes bytes → (r : Buffers) (m : Model)
    → (unpack_whole bytes r).answer ≡ unpacked m
    → WholePackOf bytes m (list_in m (unpack_whole bytes r)) (extras (positions_of_pack bytes) not_given)

abbrev pub NoTwoPacksOfOneListAndPositions : Type 0
NoTwoPacksOfOneListAndPositions = (bytes bytes' : List ℕ) → Bytes bytes → Bytes bytes' → (r r' : Buffers) (m m' : Model)
    → (unpack_whole bytes r).answer ≡ unpacked m → (unpack_whole bytes' r').answer ≡ unpacked m'
    → list_in m (unpack_whole bytes r) ≡ list_in m' (unpack_whole bytes' r') → positions_of_pack bytes ≡ positions_of_pack bytes'
    → bytes ≡ bytes'
