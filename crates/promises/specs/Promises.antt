-- What the service's calls promise, on one page: the functions of the crate service cite these, and demand 3 rests on the last
-- three. Each says the answer, and what every lent buffer holds afterwards, accepted and refused alike.
-- Assumes nothing.
use Rattle.std.specs.Prelude.{ℕ, ◌+◌, List, ◌≡◌, length}
use Rattle.rules.specs.declared.Counts.{Counts}
use Rattle.rules.specs.declared.Operation.{Operation}
use Rattle.rules.specs.declared.Place.{Place}
use Rattle.rules.specs.declared.Builder.{Builder}
use Rattle.rules.specs.Checked.{Checked}
use Rattle.rules.specs.Packed.{Packed}
use Rattle.rules.specs.Unpacked.{Unpacked}
use Rattle.rules.specs.Benched.{Benched}
use Rattle.rules.specs.Measured.{Measured}
use Rattle.rules.specs.Begun.{Begun}
use Rattle.rules.specs.Operated.{Performed}
use Rattle.rules.specs.Finished.{Finished}
use Rattle.rules.specs.Answer.{checked_answer, packed_answer, unpacked_answer, begun_answer, operated_answer, finished_answer}
use Rattle.rules.specs.Book.{answer_of}
use Rattle.rules.specs.Buffer.{Buffers}
use Rattle.rules.specs.Check.{checks}
use Rattle.rules.specs.Pack.{PackBuffers}
use Rattle.rules.specs.PackWhole.{Extras, pack_whole}
use Rattle.rules.specs.Reading.{unpack_noted, measured_answer, measured_six, volume, bench}
use Rattle.rules.specs.Build.{begins, operates, finishes, Begins, OperatedBy}

-- the triangle buffer and the place list that a call is lent
abbrev pub lent_to : List ℕ → List Place → Buffers
lent_to ts ps = record { triangles = ts; places = ps }

-- the numbering buffer, the pack buffer, the order buffer and the place list that a packing is lent
abbrev pub packing_buffers : List ℕ → List ℕ → List ℕ → List Place → PackBuffers
packing_buffers ns bs qs ps = record { numbering = ns; places = ps; pack = bs; order = qs }

-- a check of the list xs for a model of v vertices: its answer; the list is only read
pub record Checking (v : ℕ) (xs : List ℕ) (r : Checked) : Type 0 where
  pub answer : checked_answer r ≡ checks v xs

-- a packing of the list xs, with the positions and the note that are given besides: its answer, and the four buffers afterwards
pub record Packs (v : ℕ) (xs : List ℕ) (e : Extras) (ns bs qs : List ℕ) (ps : List Place) (r : Packed) (ns' bs' qs' : List ℕ)
    (ps' : List Place) : Type 0 where
  pub answer : packed_answer r ≡ (pack_whole v xs e (packing_buffers ns bs qs ps)).answer
  pub numbering : ns' ≡ (pack_whole v xs e (packing_buffers ns bs qs ps)).buffers.numbering
  pub bytes : bs' ≡ (pack_whole v xs e (packing_buffers ns bs qs ps)).buffers.pack
  pub order : qs' ≡ (pack_whole v xs e (packing_buffers ns bs qs ps)).buffers.order
  pub places : ps' ≡ (pack_whole v xs e (packing_buffers ns bs qs ps)).buffers.places

-- an unpacking: its answer, and both buffers afterwards
pub record Unpacks (bytes ts : List ℕ) (ps : List Place) (r : Unpacked) (ts' : List ℕ) (ps' : List Place) : Type 0 where
  pub answer : unpacked_answer r ≡ (unpack_noted bytes (lent_to ts ps)).answer
  pub triangles : ts' ≡ (unpack_noted bytes (lent_to ts ps)).buffers.triangles
  pub places : ps' ≡ (unpack_noted bytes (lent_to ts ps)).buffers.places

-- the volume call: the same, and six times the volume
pub record Measures (bytes ts : List ℕ) (ps : List Place) (r : Measured) (ts' : List ℕ) (ps' : List Place) : Type 0 where
  pub answer : measured_answer r ≡ (volume bytes (lent_to ts ps)).answer
  pub six : measured_six r ≡ (volume bytes (lent_to ts ps)).six
  pub triangles : ts' ≡ (volume bytes (lent_to ts ps)).buffers.triangles
  pub places : ps' ≡ (volume bytes (lent_to ts ps)).buffers.places

-- the bench reader: as an unpacking, and where the note stands in the pack: from which byte on, and how many bytes
pub record Tells (bytes ts : List ℕ) (ps : List Place) (b : Benched) (ts' : List ℕ) (ps' : List Place) : Type 0 where
  pub answer : unpacked_answer b.answer ≡ (bench bytes (lent_to ts ps)).answer
  pub start : b.start ≡ (bench bytes (lent_to ts ps)).start
  pub long : b.length ≡ length (bench bytes (lent_to ts ps)).note
  pub triangles : ts' ≡ (bench bytes (lent_to ts ps)).buffers.triangles
  pub places : ps' ≡ (bench bytes (lent_to ts ps)).buffers.places

-- a place in memory, which is a block and a byte of it, n bytes further
abbrev pub further : ℕ → ℕ × ℕ → ℕ × ℕ
further n p = (p.0, n + p.1)

-- the same, with the note itself: its bytes ns, and that they are the very bytes in the pack, which stands in memory at p, the note at q
pub record HandsBack (bytes : List ℕ) (p : ℕ × ℕ) (ts : List ℕ) (ps : List Place) (r : Unpacked) (ns : List ℕ) (q : ℕ × ℕ) (ts' : List ℕ)
    (ps' : List Place) : Type 0 where
  pub answer : unpacked_answer r ≡ (bench bytes (lent_to ts ps)).answer
  pub note : ns ≡ (bench bytes (lent_to ts ps)).note
  pub there : q ≡ further (bench bytes (lent_to ts ps)).start p
  pub triangles : ts' ≡ (bench bytes (lent_to ts ps)).buffers.triangles
  pub places : ps' ≡ (bench bytes (lent_to ts ps)).buffers.places

-- a beginning with the counts s: its answer, and the state and both buffers afterwards
pub record Beginning (s : Counts) (ts : List ℕ) (ps : List Place) (r : Begun) (ts' : List ℕ) (ps' : List Place) : Type 0 where
  pub answer : begun_answer r ≡ answer_of (begins (lent_to ts ps) s)
  pub after : Begins (lent_to ts ps) s r (lent_to ts' ps')

-- an operation on the state b: the same
pub record Operating (b : Builder) (o : Operation) (ts : List ℕ) (ps : List Place) (r : Performed) (ts' : List ℕ) (ps' : List Place) : Type
    0 where
  pub answer : operated_answer r.answer ≡ answer_of (operates b (lent_to ts ps) o)
  pub after : OperatedBy b (lent_to ts ps) o (operates b (lent_to ts ps) o) r.state (lent_to ts' ps')

-- a finish: its answer; it changes nothing, for both buffers are only read
pub record Finishing (b : Builder) (ts : List ℕ) (ps : List Place) (r : Finished) : Type 0 where
  pub answer : finished_answer r ≡ answer_of (finishes b (lent_to ts ps))
