-- What the cores of the beginning and of the finish promise, their arguments in the order of the calls. n place records were lent; a
-- finish has them in the plain memory, m before it and m' after it.
-- Assumes nothing.
use Rattle.std.specs.Prelude.{ℕ, ◌*◌, ◌≤◌, List, ◌≡◌, length}
use Rattle.rules.specs.declared.Counts.{Counts}
use Rattle.rules.specs.declared.Builder.{Builder}
use Rattle.rules.specs.Begun.{Begun}
use Rattle.rules.specs.Checked.{Checked}
use Rattle.rules.specs.Checked.{Accepted, Refused}
use Rattle.rules.specs.Finished.{Finished}
use Rattle.rules.specs.Limits.{max_places, max_triangles}
use Rattle.rules.specs.View.{triangles_built}
use Rattle.rules.specs.Machine.{Machine, finishing}
use Rattle.rules.specs.Answer.{begun_answer, finished_answer}
use Rattle.rules.specs.Book.{answer_of}
use Rattle.rules.specs.Build.{begins, finishes, empty_builder, begun_builder}
use Rattle.cutborder.specs.declared.Front.{Front}
use Rattle.border_theory.specs.Memory.Keeps.{Keeps}
use Rattle.border_theory.specs.Records.Lent.{lent as lent_of}
use Rattle.state_theory.specs.Reading.Opens.{lent, SameRecords}

-- an accepted beginning leaves the triangle buffer as it is; n place records were lent
pub record Emptied (stated : Counts) (xs : List ℕ) (n : ℕ) (b : Builder) (xs' : List ℕ) : Type 0 where
  pub builder : b ≡ begun_builder stated
  pub triangles : xs' ≡ xs
  pub whole : max_places ≤ n

-- a refused one gives the empty builder and changes nothing
pub record Unbegun (xs : List ℕ) (b : Builder) (xs' : List ℕ) : Type 0 where
  pub builder : b ≡ empty_builder
  pub triangles : xs' ≡ xs

abbrev pub BegunLeaves : Counts → List ℕ → ℕ → Checked → Builder → List ℕ → Type 0
BegunLeaves stated xs n Accepted b xs' = Emptied stated xs n b xs'
BegunLeaves stated xs n (Refused k) b xs' = Unbegun xs b xs'

-- what a beginning refused by k returns
abbrev pub refused_by : ℕ → Begun
refused_by k = record { state = empty_builder; answer = Refused k }

-- of the place records only the number counts
pub record BeginsOn (stated : Counts) (xs : List ℕ) (n : ℕ) (r : Begun) (xs' : List ℕ) : Type 0 where
  pub answer : begun_answer r ≡ answer_of (begins (lent_of n xs) stated)
  pub left : BegunLeaves stated xs n r.answer r.state xs'

-- how many place records a beginning clears, read off its answer: the first 1,024, if it is accepted
abbrev pub cleared_after : Checked → ℕ
cleared_after Accepted = max_places
cleared_after (Refused k) = 0

abbrev pub cleared_by : Begun → ℕ
cleared_by r = cleared_after r.answer

-- a finish changes no record
pub record FinishesOn (b : Builder) (xs m : List ℕ) (n : ℕ) (r : Finished) (m' : List ℕ) : Type 0 where
  pub answer : finished_answer r ≡ answer_of (finishes b (lent xs n m))
  pub same : SameRecords m m'

-- a core's state whose triangles stand in the buffer, and that is short enough for the fan test
pub record Fits (f : Front) (xs : List ℕ) : Type 0 where
  pub most : f.built ≤ max_triangles
  pub long : 3 * f.built ≤ length xs

-- the answer is that of each machine that the state keeps, with these triangles
abbrev pub FinishesFront : Front → List ℕ → Finished → Type 0
FinishesFront f xs r = (M : Machine) (m : List ℕ) → Keeps max_places f m M → M.triangles ≡ triangles_built xs f.built
    → finished_answer r ≡ answer_of (finishing M)
