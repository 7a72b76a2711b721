-- Unpacking with n place records, of which only the number counts.
-- Assumes nothing.
use Rattle.std.specs.Prelude.{ℕ, ◌*◌, ◌≤◌, ◌<◌, true, false, List, ◌≡◌, length, leb}
use Rattle.rules.specs.declared.Counts.{Counts}
use Rattle.rules.specs.Unpacked.{Unpacked}
use Rattle.rules.specs.Unpacked as U
use Rattle.rules.specs.Limits.{max_places, in_range}
use Rattle.rules.specs.Answer.{unpacked_answer}
use Rattle.rules.specs.Unpack.{UnpackResult, run_of, unpack_run, unpack}
use Rattle.border_theory.specs.Records.Plain.{core_size}
use Rattle.border_theory.specs.Records.Lent.{lent}

abbrev pub unpack_on : List ℕ → ℕ → List ℕ → UnpackResult
unpack_on bytes n ts = unpack bytes (lent n ts)

-- how many place records an unpacking clears, read off its answer: none after 12 to 14, and past 14 the first 1,024
abbrev pub cleared_by : Unpacked → ℕ
cleared_by (U.Gives m) = max_places
cleared_by (U.Refused k) = elim (leb k 14) [ true ↦ 0 | false ↦ max_places ]

-- an unpacking of any bytes, in any buffers: the answer r, and the triangle buffer afterwards
pub record UnpackedOn (bytes ts : List ℕ) (n : ℕ) (r : Unpacked) (ts' : List ℕ) : Type 0 where
  pub answer : unpacked_answer r ≡ (unpack_on bytes n ts).answer
  pub triangles : ts' ≡ (unpack_on bytes n ts).buffers.triangles

-- the operations and the buffers that get past 14, and the plain memory
pub record Fitting (c : Counts) (ops ts m : List ℕ) : Type 0 where
  pub ranges : in_range c ≡ true
  pub short : length ops < 65536
  pub room : 3 * c.triangles ≤ length ts
  pub whole : length m ≡ core_size

-- the run of the operations ops, with any number of place records
pub record RunGives (c : Counts) (ops ts : List ℕ) (r : Unpacked) (ts' : List ℕ) : Type 0 where
  pub answer : (n : ℕ) → unpacked_answer r ≡ (unpack_run c (lent n ts) (run_of c ops)).answer
  pub triangles : (n : ℕ) → ts' ≡ (unpack_run c (lent n ts) (run_of c ops)).buffers.triangles
