-- What is claimed of packs with a note, and of the volume call on packs with a note and without, each proved under the same name in
-- snake case.
-- Assumes nothing.
use Rattle.std.specs.Prelude.{ℕ, ◌+◌, ◌*◌, ◌≤◌, ◌<◌, true, false, List, [], ◌++◌, ◌↔◌, ◌≡◌, ℤ, pos, neg_ℤ, nat_abs, ◌-ℤ◌, length, take}
use Rattle.std.specs.Prelude.{drop, get_or, set}
use Rattle.rules.specs.declared.Model.{Model}
use Rattle.rules.specs.Triangle.{triangles_of, In}
use Rattle.rules.specs.Fan.{about}
use Rattle.rules.specs.Answer.{refusal, packed, unpacked}
use Rattle.rules.specs.Buffer.{over, Buffers}
use Rattle.rules.specs.Fields.{field_of}
use Rattle.rules.specs.Pack.{PackBuffers, PackResult, turned_down, pack_refused}
use Rattle.rules.specs.Later.{Given, not_given, given, parts, parts_of}
use Rattle.rules.specs.Note.{note_tag, note_fits, with_note, take_note}
use Rattle.rules.specs.PackWhole.{Extras, extras, given_fit, pack_whole}
use Rattle.rules.specs.Reading.{unpack_noted, volume, BenchResult, bench}
use Rattle.rules.specs.Furnace.{melt}
use Rattle.wire_theory.specs.Shape.{Bytes}
use Rattle.roundtrip.specs.Claims.{LongEnoughFor, list_in}
use Rattle.volume_theory.specs.Whole.{PassesRooms, positions_of_pack, WholePackOf}

-- how many bytes the field of a note takes
abbrev pub note_length : List ℕ → ℕ
note_length ns = 3 + length ns

-- "A field tag 04 .. may follow the others, if packing is given a note": q is the packing without the note, its pack of n bytes, p that
-- with it, in the same buffers r
pub record NoteFollowed (n : ℕ) (ns : List ℕ) (r : PackBuffers) (p q : PackResult) : Type 0 where
  pub answer : p.answer ≡ packed (n + note_length ns)
  pub bytes : p.buffers.pack ≡ over (take n q.buffers.pack ++ field_of note_tag ns) r.pack
  pub numbering : p.buffers.numbering ≡ q.buffers.numbering
  pub order : p.buffers.order ≡ q.buffers.order
  pub places : p.buffers.places ≡ q.buffers.places

-- a list, positions and buffers that pass 1 to 8, 22 and 23
pub record PassesTo25 (v : ℕ) (xs : List ℕ) (g : Given (List ℤ)) (r : PackBuffers) : Type 0 where
  pub rooms : PassesRooms v xs r
  pub positions : given_fit v g ≡ true

-- what packing with a note does, beside packing the same without
pub record BesideNote (v : ℕ) (xs : List ℕ) (g : Given (List ℤ)) (ns : List ℕ) (r : PackBuffers) (p q : PackResult) : Type 0 where
  -- 25 stands after 23 and before 9
  pub earlier : (PassesTo25 v xs g r → ⊥) → p ≡ q
  pub unfit : note_fits (given ns) ≡ false → PassesTo25 v xs g r → p ≡ turned_down 25 r
  -- a note that fits
  pub refused : note_fits (given ns) ≡ true → (k : ℕ) → q.answer ≡ refusal k → p ≡ q
  pub too_long : note_fits (given ns) ≡ true → (n : ℕ) → q.answer ≡ packed n → length r.pack < n + note_length ns
      → p ≡ pack_refused 11 v (triangles_of xs) r
  pub follows : note_fits (given ns) ≡ true → (n : ℕ) → q.answer ≡ packed n → n + note_length ns ≤ length r.pack
      → NoteFollowed n ns r p q

abbrev pub NoteFollowsThePack : Type 0
NoteFollowsThePack = (v : ℕ) (xs : List ℕ) (g : Given (List ℤ)) (ns : List ℕ) (r : PackBuffers)
    → BesideNote v xs g ns r (pack_whole v xs (extras g (given ns)) r) (pack_whole v xs (extras g not_given) r)

-- two packs that differ only in the contents or presence of a sound note: the fields before it are the same
pub record SameButNote (bytes bytes' : List ℕ) : Type 0 where
  pub front : List ℕ
  pub two : List ℕ
  pub positions : Given (List ℕ)
  pub fields : parts_of front ≡ parts two positions
  pub note : Given (List ℕ)
  pub note' : Given (List ℕ)
  pub sound : note_fits note ≡ true
  pub sound' : note_fits note' ≡ true
  pub is : bytes ≡ with_note note front
  pub is' : bytes' ≡ with_note note' front

-- they are read alike, by each call that reads a pack but the bench reader: a line for each
pub record ReadAlike (bytes bytes' : List ℕ) : Type 0 where
  pub unpacking : (r : Buffers) → unpack_noted bytes r ≡ unpack_noted bytes' r
  pub measuring : (r : Buffers) → volume bytes r ≡ volume bytes' r
  pub melting : melt bytes ≡ melt bytes'

-- "Every other call that reads a pack gives equal answers for any two packs that differ only in .. a sound note"
abbrev pub NotesMakeNoDifference : Type 0
NotesMakeNoDifference = (bytes bytes' : List ℕ) → SameButNote bytes bytes' → ReadAlike bytes bytes'

-- "The bench reader hands back the note as the very bytes in the pack": the note is the part of the pack that is told
pub record PartOf (bytes : List ℕ) (start : ℕ) (note : List ℕ) : Type 0 where
  pub within : start + length note ≤ length bytes
  pub bytes_there : take (length note) (drop start bytes) ≡ note

abbrev pub TheNoteIsAPartOfThePack : Type 0
TheNoteIsAPartOfThePack = (bytes : List ℕ) (r : Buffers) → PartOf bytes (bench bytes r).start (bench bytes r).note

abbrev pub NoPart : BenchResult → Type 0
NoPart b = (b.note ≡ []) × (b.start ≡ 0)

-- what the bench reader gives, of any bytes
pub record BenchReads (bytes : List ℕ) (r : Buffers) : Type 0 where
  -- "it answers and writes as unpacking, refusals too"
  pub answer : (bench bytes r).answer ≡ (unpack_noted bytes r).answer
  pub buffers : (bench bytes r).buffers ≡ (unpack_noted bytes r).buffers
  -- "an empty part if there is none or unpacking refuses the pack"
  pub refused : (k : ℕ) → (unpack_noted bytes r).answer ≡ refusal k → NoPart (bench bytes r)
  pub none : (two : List ℕ) (g : Given (List ℕ)) → parts_of bytes ≡ parts two g → NoPart (bench bytes r)
  -- else the contents of the field, which stand after its tag and length
  pub contents : (front two ns : List ℕ) (g : Given (List ℕ)) → parts_of front ≡ parts two g → note_fits (given ns) ≡ true
      → bytes ≡ with_note (given ns) front → (m : Model) → (unpack_noted bytes r).answer ≡ unpacked m
      → ((bench bytes r).note ≡ ns) × ((bench bytes r).start ≡ length front + 3)

abbrev pub TheBenchReadsThePack : Type 0
TheBenchReadsThePack = (bytes : List ℕ) (r : Buffers) → BenchReads bytes r

-- a pack with a note is read as that without, and the bench reader hands the note back
pub record ReadBack (ns bytes front : List ℕ) (r : Buffers) : Type 0 where
  pub same : unpack_noted bytes r ≡ unpack_noted front r
  pub model : Model
  pub accepted : (unpack_noted bytes r).answer ≡ unpacked model
  pub note : (bench bytes r).note ≡ ns

abbrev pub PackWithNoteIsReadBack : Type 0
PackWithNoteIsReadBack = (v : ℕ) (xs : List ℕ) (g : Given (List ℤ)) (ns : List ℕ) (r : PackBuffers) (k : ℕ)
    → (pack_whole v xs (extras g (given ns)) r).answer ≡ packed k → (r' : Buffers) → LongEnoughFor (length (triangles_of xs)) r'
    → (n : ℕ) × (k ≡ n + note_length ns) × ((pack_whole v xs (extras g not_given) r).answer ≡ packed n)
    × ReadBack ns (take k (pack_whole v xs (extras g (given ns)) r).buffers.pack)
    (take n (pack_whole v xs (extras g not_given) r).buffers.pack) r'

-- the positions and the note of a pack, if it has any
abbrev pub extras_of_pack : List ℕ → Extras
extras_of_pack bytes = extras (positions_of_pack (take_note bytes).before) (take_note bytes).note

-- every accepted pack is the pack of its list, its positions and its note
abbrev pub EveryAcceptedPackIsThePackOfTheThree : Type 0
EveryAcceptedPackIsThePackOfTheThree = (bytes : List ℕ) → Bytes bytes → (r : Buffers) (m : Model)
    → (unpack_noted bytes r).answer ≡ unpacked m → WholePackOf bytes m (list_in m (unpack_noted bytes r)) (extras_of_pack bytes)

-- "A pack is then unique for a model, its positions and its note"
abbrev pub NoTwoPacksOfTheThree : Type 0
NoTwoPacksOfTheThree = (bytes bytes' : List ℕ) → Bytes bytes → Bytes bytes' → (r r' : Buffers) (m m' : Model)
    → (unpack_noted bytes r).answer ≡ unpacked m → (unpack_noted bytes' r').answer ≡ unpacked m'
    → list_in m (unpack_noted bytes r) ≡ list_in m' (unpack_noted bytes' r') → extras_of_pack bytes ≡ extras_of_pack bytes' → bytes ≡ bytes'

-- the list xs is packed with the positions zs, and any note or none, in some buffers, and the volume call gives s for its pack, in some
-- buffers that are long enough
pub record PackedAndMeasured (v : ℕ) (xs : List ℕ) (zs : List ℤ) (s : ℤ) : Type 0 where
  pub note : Given (List ℕ)
  pub packing : PackBuffers
  pub size : ℕ
  pub packs : (pack_whole v xs (extras (given zs) note) packing).answer ≡ packed size
  pub measuring : Buffers
  pub long : LongEnoughFor (length (triangles_of xs)) measuring
  pub six : (volume (take size (pack_whole v xs (extras (given zs) note) packing).buffers.pack) measuring).six ≡ given s

-- "A model turned inside out, if accepted too, gives the same amount with the other sign"
abbrev pub TheCallInsideOut : Type 0
TheCallInsideOut = (v : ℕ) (xs ys : List ℕ) (zs : List ℤ) (s t : ℤ) → PackedAndMeasured v xs zs s → PackedAndMeasured v ys zs t
    → ((x y z : ℕ) → In x y z (triangles_of xs) ↔ In y x z (triangles_of ys)) → t ≡ neg_ℤ s

-- "Moving one of a vertex's three positions by d steps, within the range, moves the result by at most .."
abbrev pub TheCallMovedByAtMost : Type 0
TheCallMovedByAtMost = (v : ℕ) (xs : List ℕ) (zs : List ℤ) (w k : ℕ) (z : ℤ) (s t : ℤ) → k < 3
    → PackedAndMeasured v xs zs s → PackedAndMeasured v xs (set zs (3 * w + k) z) t
    → nat_abs (t -ℤ s) ≤ 8388608 * (nat_abs (z -ℤ get_or zs (3 * w + k) (pos 0)) * length (about w (triangles_of xs)))
