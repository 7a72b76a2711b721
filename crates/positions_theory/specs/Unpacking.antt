-- Unpacking a pack that may have positions, and the volume, with n place records, of which only the number counts.
-- Assumes nothing.
use Rattle.std.specs.Prelude.{ℕ, ◌*◌, ◌≤◌, Bool, true, false, List, ◌≡◌, eqb, length, take}
use Rattle.rules.specs.Unpacked.{Unpacked}
use Rattle.rules.specs.Unpacked as U
use Rattle.rules.specs.Measured.{Measured}
use Rattle.rules.specs.Measured as M
use Rattle.rules.specs.declared.Model.{Model}
use Rattle.rules.specs.Answer.{unpacked_answer}
use Rattle.rules.specs.Buffer.{zeroed}
use Rattle.rules.specs.Unpack.{UnpackResult}
use Rattle.rules.specs.Triangle.{triangles_of}
use Rattle.rules.specs.Grid.{positions_from}
use Rattle.rules.specs.Volume.{six_volumes}
use Rattle.rules.specs.Later.{Given}
use Rattle.rules.specs.UnpackWhole.{field_fits, unpack_whole}
use Rattle.rules.specs.Reading.{VolumeResult, measured_answer, measured_six}
use Rattle.border_theory.specs.Records.Lent.{lent}
use Rattle.unpack_theory.specs.Lent.{cleared_by}

abbrev pub unpack_whole_on : List ℕ → ℕ → List ℕ → UnpackResult
unpack_whole_on bytes n ts = unpack_whole bytes (lent n ts)

-- an unpacking of any bytes, in any buffers: the answer r, and the triangle buffer afterwards
pub record UnpackedWholeOn (bytes ts : List ℕ) (n : ℕ) (r : Unpacked) (ts' : List ℕ) : Type 0 where
  pub answer : unpacked_answer r ≡ (unpack_whole_on bytes n ts).answer
  pub triangles : ts' ≡ (unpack_whole_on bytes n ts).buffers.triangles

-- a test of what follows the operations, after an unpacking that was answered r: refusal k, or the same answer; and the triangle buffer
abbrev pub tested_answer : ℕ → (Model → Bool) → Unpacked → Unpacked
tested_answer k fits (U.Gives m) = elim (fits m) [ true ↦ U.Gives m | false ↦ U.Refused k ]
tested_answer k fits (U.Refused j) = U.Refused j

abbrev pub tested_triangles : (Model → Bool) → Unpacked → List ℕ → List ℕ
tested_triangles fits (U.Gives m) ts = elim (fits m) [ true ↦ ts | false ↦ zeroed (3 * m.triangles) ts ]
tested_triangles fits (U.Refused j) ts = ts

-- a test whose outcome is known
abbrev pub always : Bool → Model → Bool
always b m = b

-- b is the outcome of a test of the model of an unpacking that was answered r, if there is one
abbrev pub TestTold : (Model → Bool) → Unpacked → Bool → Type 0
TestTold fits r b = (m : Model) → r ≡ U.Gives m → b ≡ fits m

-- 23, of the positions ps, if there are any
abbrev pub positions_test : Given (List ℕ) → Model → Bool
positions_test ps m = field_fits m.vertices ps

-- the triangles of an accepted unpacking are in the buffer
abbrev pub RoomFor : Unpacked → List ℕ → Type 0
RoomFor (U.Gives m) ts = 3 * m.triangles ≤ length ts
RoomFor (U.Refused k) ts = Unit {0}

-- how many place records the volume call clears, read off its answer: as many as unpacking
abbrev pub cleared_measuring : Measured → ℕ
cleared_measuring (M.Volume m z) = cleared_by (U.Gives m)
cleared_measuring (M.Refused k) = cleared_by (U.Refused k)

-- 24 for a rim, or the volume of an accepted model whose triangles stand in ts: the answer, and the triangle buffer
abbrev pub measured_by : List ℕ → Model → List ℕ → Measured
measured_by bs m ts =
    elim (eqb m.totals.rims 0) [
      | true ↦ M.Volume m (six_volumes (positions_from bs) (triangles_of (take (3 * m.triangles) ts)))
      | false ↦ M.Refused 24
    ]

abbrev pub measured_triangles : Model → List ℕ → List ℕ
measured_triangles m ts = elim (eqb m.totals.rims 0) [ true ↦ ts | false ↦ zeroed (3 * m.triangles) ts ]

-- the answer s and the triangle buffer ts' are those of the result w of a volume call
pub record IsMeasured (w : VolumeResult) (s : Measured) (ts' : List ℕ) : Type 0 where
  pub answer : measured_answer s ≡ w.answer
  pub six : measured_six s ≡ w.six
  pub triangles : ts' ≡ w.buffers.triangles
