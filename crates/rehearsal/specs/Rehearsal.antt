-- What a beginning, operations and a finish in a row come to: a run of demand 3.
-- Assumes nothing.
use Rattle.std.specs.Prelude.{ℕ, ◌*◌, ◌≤◌, true, List, [], ◌∷◌, ◌++◌, ◌≡◌, length, pos}
use Rattle.rules.specs.declared.Counts.{Counts}
use Rattle.rules.specs.declared.Operation.{Operation}
use Rattle.rules.specs.declared.Operation.TheVariants.{New, Forward, Close, Start}
use Rattle.rules.specs.declared.Place.{Place}
use Rattle.rules.specs.declared.Builder.{Builder}
use Rattle.rules.specs.Finished.{Finished}
use Rattle.rules.specs.Limits.{max_places, in_range}
use Rattle.rules.specs.Answer.{Answer, numbers, finished_answer}
use Rattle.rules.specs.Book.{Call, begin, operate, finish, Book, empty_book, answer}
use Rattle.rules.specs.Calls.{answers, after_all}
use Rattle.rules.specs.Buffer.{Lengths, lengths}
use Rattle.rules.specs.Build.{empty_builder}
use Rattle.promises.specs.Promises.{lent_to}
use Rattle.promises.specs.BuildersBook.{World, Run, KeepsTheBook}

unfoldable pub operations : List Operation → List Call
operations [] = []
operations (o ∷ os) = operate o ∷ operations os

-- the calls after the beginning
abbrev pub calls_of : List Operation → List Call
calls_of os = operations os ++ (finish ∷ [])

abbrev pub world : Builder → List ℕ → List Place → World
world b ts ps = record { state = b; triangles = ts; places = ps }

-- the lent buffers, with the builder that was never begun
abbrev pub lent_world : List ℕ → List Place → World
lent_world ts ps = world empty_builder ts ps

-- There is a run of these calls, each lent the buffers as the one before left them, that ends with the finish's answer r and with
-- the buffers as they are left.
pub record Rehearsed (s : Counts) (os : List Operation) (ts : List ℕ) (ps : List Place) (r : Finished) (ts' : List ℕ) (ps' : List Place)
    : Type 0 where
  pub answers : List Answer
  pub state : Builder
  pub run : Run (begin s ∷ calls_of os) (lent_world ts ps) (answers ++ (finished_answer r ∷ [])) (world state ts' ps')

-- the world that is left
abbrev pub left_by : {s : Counts} {os : List Operation} {ts : List ℕ} {ps : List Place} {r : Finished} {ts' : List ℕ} {ps' : List Place}
    → Rehearsed s os ts ps r ts' ps' → World
left_by {ts' = ts'} {ps' = ps'} x = world x.state ts' ps'

-- the book after these operations
abbrev pub book_of : Lengths → Counts → List Operation → Book
book_of n s os = after_all n (empty_book s) (operations os)

-- Demand 3 of what is rehearsed, with counts that pass 13, in buffers that pass 14 and held anything: it is all of it true of the world
-- that is left, and the answer is what the book's finish answers.
pub record MeetsTheBook (s : Counts) (os : List Operation) (ts : List ℕ) (ps : List Place) (r : Finished) (v : World) : Type 0 where
  pub answer : finished_answer r ≡ answer (lengths (lent_to ts ps)) (book_of (lengths (lent_to ts ps)) s os) finish
  pub book : KeepsTheBook (lent_world ts ps) s (calls_of os) (answers (lengths (lent_to ts ps)) (empty_book s) (calls_of os)) v
      (after_all (lengths (lent_to ts ps)) (empty_book s) (calls_of os))

abbrev pub RehearsalMeetsTheBook : Type 0
RehearsalMeetsTheBook = (s : Counts) (os : List Operation) (ts : List ℕ) (ps : List Place) (r : Finished) (ts' : List ℕ) (ps' : List Place)
    → in_range s ≡ true → 3 * s.triangles ≤ length ts → max_places ≤ length ps → (x : Rehearsed s os ts ps r ts' ps')
    → MeetsTheBook s os ts ps r (left_by x)

-- M2, the tetrahedron: 6 edges, no rim, no union, Euler number 2
abbrev pub TetrahedronRehearsed : Type 0
TetrahedronRehearsed = (ts : List ℕ) (ps : List Place) (r : Finished) (ts' : List ℕ) (ps' : List Place)
    → 12 ≤ length ts → max_places ≤ length ps
    → Rehearsed (record { vertices = 4; triangles = 4; places = 4; loops = 1 }) (Start ∷ (New ∷ (Forward ∷ (Close ∷ [])))) ts ps r ts' ps'
    → finished_answer r ≡ numbers (record { edges = 6; rims = 0; unions = 0; euler = pos 2 })
