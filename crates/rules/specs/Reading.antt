-- The calls that read a pack, which may have a note: unpacking (12 to 20, 23, 25), the volume call (24), the bench reader.
-- Assumes nothing.
use Rattle.std.specs.Prelude.{ℕ, ◌+◌, ◌*◌, true, false, List, [], ℤ, length, take, eqb}
use Rattle.rules.specs.declared.Model.{Model}
use Rattle.rules.specs.Measured.{Measured}
use Rattle.rules.specs.Measured as M
use Rattle.rules.specs.Triangle.{triangles_of}
use Rattle.rules.specs.Answer.{Answer, refusal, unpacked}
use Rattle.rules.specs.Buffer.{Buffers}
use Rattle.rules.specs.Unpack.{UnpackResult}
use Rattle.rules.specs.Grid.{positions_from}
use Rattle.rules.specs.Volume.{six_volumes}
use Rattle.rules.specs.Later.{Given, not_given, given, Parts, no_parts, parts, parts_of}
use Rattle.rules.specs.Note.{note_fits, take_note}
use Rattle.rules.specs.UnpackWhole.{model_in, left_by20, then_tested, unpack_whole}

-- what stands before the note is unpacked, then 25 is tested
abbrev pub unpack_noted : List ℕ → Buffers → UnpackResult
unpack_noted bytes r =
    let d = take_note bytes in
    let u = unpack_whole d.before r in then_tested 25 (λ m. note_fits d.note) r u (model_in u.answer)

-- what the volume call answers: as unpacking, and six times the volume if it is accepted
pub record VolumeResult : Type 0 where
  pub answer : Answer
  pub six : Given ℤ
  pub buffers : Buffers

-- the volume call's enum
abbrev pub measured_answer : Measured → Answer
measured_answer (M.Volume m z) = unpacked m
measured_answer (M.Refused n) = refusal n

abbrev pub measured_six : Measured → Given ℤ
measured_six (M.Volume m z) = given z
measured_six (M.Refused n) = not_given

abbrev pub positions_in : Parts → Given (List ℕ)
positions_in no_parts = not_given
positions_in (parts two ps) = ps

-- the sum over the triangles that were unpacked
abbrev pub six_of : List ℕ → Model → Buffers → ℤ
six_of ps m r = six_volumes (positions_from ps) (triangles_of (take (3 * m.triangles) r.triangles))

-- 24: no positions, or a rim
unfoldable pub measured : Given (List ℕ) → Buffers → UnpackResult → Given Model → VolumeResult
measured ps r u not_given = record { answer = u.answer; six = not_given; buffers = u.buffers }
measured not_given r u (given m) = record { answer = refusal 24; six = not_given; buffers = left_by20 m r }
measured (given ps) r u (given m) =
    elim (eqb m.totals.rims 0) [
      | true ↦ record { answer = u.answer; six = given (six_of ps m u.buffers); buffers = u.buffers }
      | false ↦ record { answer = refusal 24; six = not_given; buffers = left_by20 m r }
    ]

abbrev pub volume : List ℕ → Buffers → VolumeResult
volume bytes r = let u = unpack_noted bytes r in measured (positions_in (parts_of (take_note bytes).before)) r u (model_in u.answer)

-- what the bench reader answers: as unpacking; and the note with its place in the pack, empty if there is none or the pack is refused
pub record BenchResult : Type 0 where
  pub answer : Answer
  pub note : List ℕ
  pub start : ℕ
  pub buffers : Buffers

abbrev pub handed_back : Given (List ℕ) → Given Model → List ℕ
handed_back ns not_given = []
handed_back not_given (given m) = []
handed_back (given ns) (given m) = ns

-- a note stands after its tag and the two bytes of its length; n bytes stand before these
abbrev pub handed_from : ℕ → Given (List ℕ) → Given Model → ℕ
handed_from n ns not_given = 0
handed_from n not_given (given m) = 0
handed_from n (given ns) (given m) = n + 3

abbrev pub bench : List ℕ → Buffers → BenchResult
bench bytes r =
    let d = take_note bytes in
    let u = unpack_noted bytes r in
    record {
      answer = u.answer;
      note = handed_back d.note (model_in u.answer);
      start = handed_from (length d.before) d.note (model_in u.answer);
      buffers = u.buffers;
    }
