-- Reading a pack that may have a note, with n place records, of which only the number counts.
-- Assumes nothing.
use Rattle.std.specs.Prelude.{ℕ, Bool, List, Option, ◌≡◌, length}
use Rattle.rules.specs.declared.Model.{Model}
use Rattle.rules.specs.Unpacked.{Unpacked}
use Rattle.rules.specs.declared.Span.{Span}
use Rattle.rules.specs.Benched.{Benched, start_of, length_of}
use Rattle.rules.specs.Measured.{Measured}
use Rattle.rules.specs.Answer.{unpacked_answer}
use Rattle.rules.specs.Later.{Given, given}
use Rattle.rules.specs.Note.{note_fits, take_note}
use Rattle.rules.specs.UnpackWhole.{model_in}
use Rattle.rules.specs.Reading.{unpack_noted, volume, handed_back, handed_from, bench}
use Rattle.border_theory.specs.Records.Lent.{lent}
use Rattle.unpack_theory.specs.Lent.{cleared_by}
use Rattle.positions_theory.specs.Unpacking.{IsMeasured}

-- an unpacking of any bytes, in any buffers: the answer r, and the triangle buffer afterwards
pub record UnpackedNotedOn (bytes ts : List ℕ) (n : ℕ) (r : Unpacked) (ts' : List ℕ) : Type 0 where
  pub answer : unpacked_answer r ≡ (unpack_noted bytes (lent n ts)).answer
  pub triangles : ts' ≡ (unpack_noted bytes (lent n ts)).buffers.triangles

-- 25, of the note ns, if there is one
abbrev pub note_test : Given (List ℕ) → Model → Bool
note_test ns m = note_fits ns

-- the volume call
abbrev pub MeasuredOn : List ℕ → List ℕ → ℕ → Measured → List ℕ → Type 0
MeasuredOn bytes ts n s ts' = IsMeasured (volume bytes (lent n ts)) s ts'

-- what the bench reader tells after an unpacking that answered r
pub record Handed (bytes : List ℕ) (r : Unpacked) (b : Benched) : Type 0 where
  pub answer : b.answer ≡ r
  pub start : b.start ≡ handed_from (length (take_note bytes).before) (take_note bytes).note (model_in (unpacked_answer r))
  pub long : b.length ≡ length (handed_back (take_note bytes).note (model_in (unpacked_answer r)))

-- where the note of some bytes stands, as it is told of an accepted pack
abbrev pub Spanned : List ℕ → Option Span → Type 0
Spanned bytes s = (m : Model) → (start_of s ≡ handed_from (length (take_note bytes).before) (take_note bytes).note (given m))
    × (length_of s ≡ length (handed_back (take_note bytes).note (given m)))

-- the bench reader
pub record BenchedOn (bytes ts : List ℕ) (n : ℕ) (b : Benched) (ts' : List ℕ) : Type 0 where
  pub answer : unpacked_answer b.answer ≡ (bench bytes (lent n ts)).answer
  pub start : b.start ≡ (bench bytes (lent n ts)).start
  pub long : b.length ≡ length (bench bytes (lent n ts)).note
  pub triangles : ts' ≡ (bench bytes (lent n ts)).buffers.triangles

-- how many place records the bench reader clears, read off its answer: as many as unpacking
abbrev pub cleared_bench : Benched → ℕ
cleared_bench b = cleared_by b.answer
