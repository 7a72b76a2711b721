-- Demand 3 of the three building calls, to be held against the rules' part on the builder's book. proofs/BuildersBook.antt proves it.
-- Assumes nothing.
use Rattle.std.specs.Prelude.{ℕ, ◌*◌, ◌≤◌, ◌<◌, true, List, [], ◌∷◌, ◌≡◌, length, pos, ◌+ℤ◌, ◌-ℤ◌}
use Rattle.rules.specs.declared.Counts.{Counts}
use Rattle.rules.specs.declared.Operation.{Operation}
use Rattle.rules.specs.declared.Place.{Place}
use Rattle.rules.specs.declared.Builder.{Builder}
use Rattle.rules.specs.Begun.{Begun}
use Rattle.rules.specs.Operated.{Performed}
use Rattle.rules.specs.Finished.{Finished}
use Rattle.rules.specs.Limits.{max_places}
use Rattle.rules.specs.Triangle.{corners, edges_of}
use Rattle.rules.specs.Count.{different, pairs}
use Rattle.rules.specs.Answer.{Answer, accepted, begun_answer, operated_answer, finished_answer}
use Rattle.rules.specs.Book.{Call, begin, operate, finish, Book, model_open, empty_book, answer}
use Rattle.rules.specs.Calls.{answers, after_all, log_all, last_state}
use Rattle.rules.specs.Buffer.{free_place, Buffers, Lengths, lengths}
use Rattle.rules.specs.View.{place_at, open_at}
use Rattle.rules.specs.Sound.{sound}
use Rattle.rules.specs.Build.{viewed, NoPlace}
use Rattle.promises.specs.Promises.{lent_to, Beginning, Operating, Finishing}

-- what lies between two calls: the state last returned, and both buffers as the last call left them
pub record World : Type 0 where
  pub state : Builder
  pub triangles : List ℕ
  pub places : List Place

abbrev pub buffers_of : World → Buffers
buffers_of w = lent_to w.triangles w.places

-- the buffers' lengths
abbrev pub lengths_of : World → Lengths
lengths_of w = lengths (buffers_of w)

-- Each call, lent the buffers as the one before left them and, unless it is a beginning, the state last returned: from the world w it
-- leads to the answer a and the world v. Of the call nothing is known but what its function promises; what that leaves free, which
-- records the new places take, may come out in any way.
pub record BeginningCalled (s : Counts) (w : World) (a : Answer) (v : World) : Type 0 where
  pub result : Begun
  pub promised : Beginning s w.triangles w.places result v.triangles v.places
  pub answer : a ≡ begun_answer result
  pub state : v.state ≡ last_state w.state result.answer result.state

pub record OperationCalled (o : Operation) (w : World) (a : Answer) (v : World) : Type 0 where
  pub result : Performed
  pub promised : Operating w.state o w.triangles w.places result v.triangles v.places
  pub answer : a ≡ operated_answer result.answer
  pub state : v.state ≡ result.state

pub record FinishCalled (w : World) (a : Answer) (v : World) : Type 0 where
  pub result : Finished
  pub promised : Finishing w.state w.triangles w.places result
  pub answer : a ≡ finished_answer result
  pub same : v ≡ w

abbrev pub Called : Call → World → Answer → World → Type 0
Called (begin s) w a v = BeginningCalled s w a v
Called (operate o) w a v = OperationCalled o w a v
Called finish w a v = FinishCalled w a v

-- a call and then more: R says what these lead to
pub record Goes (c : Call) (R : World → List Answer → World → Type 0) (w : World) (xs : List Answer) (v : World) : Type 0 where
  pub first : Answer
  pub between : World
  pub called : Called c w first between
  pub others : List Answer
  pub rest : R between others v
  pub answers : xs ≡ first ∷ others

-- a list of calls: from the world w it leads to the answers xs and the world v
abbrev pub Run : List Call → World → List Answer → World → Type 0
Run [] w xs v = (xs ≡ []) × (v ≡ w)
Run (c ∷ cs) w xs v = Goes c (Run cs) w xs v

-- a call after others: R says what these lead to
pub record Follows (c : Call) (R : World → World → Type 0) (w v : World) : Type 0 where
  pub between : World
  pub before : R w between
  pub answer : Answer
  pub called : Called c between answer v

-- the same, of a list with the latest call first, and whatever is answered
abbrev pub Replayed : List Call → World → World → Type 0
Replayed [] w v = v ≡ w
Replayed (c ∷ cs) w v = Follows c (Replayed cs) w v

-- After an accepted beginning with the counts s on the world w, and the calls cs, which led to the answers xs: v is the world then, b
-- the book. The book is fed the calls' arguments and the buffers' lengths, and nothing else of the builder.
pub record KeepsTheBook (w : World) (s : Counts) (cs : List Call) (xs : List Answer) (v : World) (b : Book) : Type 0 where
  -- the beginning too is answered as by the book, whatever this held
  pub first_answer : (b₀ : Book) → answer (lengths_of w) b₀ (begin s) ≡ accepted
  -- each answer is the book's
  pub each_answer : xs ≡ answers (lengths_of w) (empty_book s) cs
  -- 21 does not arise
  pub passes : sound v.state (buffers_of v) ≡ true
  -- triangles, live loops, numbers, peaks, edges, starts, unions and rims, as read off the state and the buffers, are the book's
  pub machine : viewed v.state (buffers_of v) ≡ b.machine
  -- the open edges, recorded at the live loops' places in the lent list, are the model's
  pub open_edges_lem : (x y : ℕ) → open_at v.state v.places x y ≡ model_open x y b.machine.triangles b.borders
  -- each edge at one place only
  pub one_place : (x y : ℕ) → open_at v.state v.places x y ≤ 1
  -- a record that is no live loop's place is zero, as the beginning left it
  pub free_records : (i : ℕ) → i < max_places → NoPlace v.state (buffers_of v) i → place_at v.places i ≡ free_place
  -- vertices - edges + triangles + live loops + rims = 2 starts - 2 unions
  pub euler : pos v.state.used -ℤ pos v.state.edges +ℤ pos v.state.built +ℤ pos v.state.live +ℤ pos v.state.rims
      ≡ pos (2 * v.state.starts) -ℤ pos (2 * v.state.unions)
  -- the builder's own counts: vertices and edges are those of the book's triangles, the others the book's
  pub vertices : v.state.used ≡ different (corners b.machine.triangles)
  pub edges : v.state.edges ≡ pairs (edges_of b.machine.triangles)
  pub triangles : v.state.built ≡ length b.machine.triangles
  pub live : v.state.live ≡ length b.machine.loops
  pub rims : v.state.rims ≡ b.machine.rims
  pub starts : v.state.starts ≡ b.machine.starts
  pub unions : v.state.unions ≡ b.machine.unions
  pub most_places_lem : v.state.peaks.places ≡ b.machine.most_places
  pub most_loops_lem : v.state.peaks.loops ≡ b.machine.most_loops
  -- A new builder, in buffers of the same lengths that hold anything, is given the last accepted beginning's counts and the operations
  -- accepted since, and is then u: it answers all further calls alike.
  pub new_builder : (w' u : World) → lengths_of w' ≡ lengths_of w → Replayed (log_all (lengths_of w) (empty_book s) (begin s ∷ []) cs) w' u
      → (ds : List Call) (ys zs : List Answer) (u' v' : World) → Run ds u ys u' → Run ds v zs v' → ys ≡ zs

-- The whole claim: in buffers that held anything, for every accepted beginning and every list of calls after it, refused ones included.
abbrev pub BuildersBook : Type 0
BuildersBook = (w : World) (s : Counts) (cs : List Call) (xs : List Answer) (v : World) → Run (begin s ∷ cs) w (accepted ∷ xs) v
    → KeepsTheBook w s cs xs v (after_all (lengths_of w) (empty_book s) cs)
