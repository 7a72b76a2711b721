-- What the core of the building operation promises, over the first n records of the plain memory.
-- Assumes nothing.
use Rattle.std.specs.Prelude.{ℕ, ◌-◌, ◌≤◌, ◌<◌, ◌+◌, true, List, [], ◌≡◌, drop, replicate, Result, Ok, Err, Option}
use Rattle.rules.specs.declared.Operation.{Operation}
use Rattle.rules.specs.declared.Place.{Place}
use Rattle.rules.specs.declared.Builder.{Builder}
use Rattle.rules.specs.declared.Operation.TheVariants.{Border}
use Rattle.rules.specs.declared.Triangle.{Triangle}
use Rattle.rules.specs.declared.refusal.Refusal.{Refusal}
use Rattle.rules.specs.Operated.{Marked, Refused}
use Rattle.rules.specs.Operated.{Performed}
use Rattle.rules.specs.Limits.{max_places, max_loops}
use Rattle.rules.specs.Count.{occurs}
use Rattle.rules.specs.Ring.{Ring}
use Rattle.rules.specs.Places.{rings_after}
use Rattle.rules.specs.Machine.{Machine, Step, refused, begun, built, declared, finished}
use Rattle.rules.specs.Answer.{operated_answer}
use Rattle.rules.specs.Book.{answer_of}
use Rattle.rules.specs.View.{place_at, place_rings}
use Rattle.rules.specs.Sound.{sound_else}
use Rattle.rules.specs.Build.{viewed, operates, with_triangle}
use Rattle.book.specs.Sums.{placed}
use Rattle.border_theory.specs.Records.Plain.{records, core_size}
use Rattle.state_theory.specs.Performing.Noted.{to_link, to_free}
use Rattle.cutborder.specs.declared.Front.{Front}
use Rattle.border_theory.specs.Memory.Layout.{at}
use Rattle.border_theory.specs.Memory.Moves.{marked_held}
use Rattle.border_theory.specs.Memory.Decision.{marked_front}
use Rattle.border_theory.specs.Memory.Touched.{touched_by, listed, noted}
use Rattle.state_theory.specs.Reading.Closing.{builder_of}
use Rattle.state_theory.specs.Reading.Opens.{lent, Passes}

-- a state's loops as rings of places
abbrev pub rings_of : Builder → List Place → List Ring
rings_of b ps = place_rings b ps b.live

-- What an accepted operation leaves in the core: the records ps have become qs, of which the operation wrote those `linked`, and the places
-- `freed` have left their loops. Written back so, the list holds what 01 settles.
pub record Written (b : Builder) (o : Operation) (ps : List Place) (xs : List ℕ) (M : Machine) (b' : Builder) (xs' : List ℕ)
    (qs : List Place)
    (linked freed : List ℕ) : Type 0 where
  pub triangles : xs' ≡ xs
  pub machine : viewed b' (record { triangles = xs'; places = qs }) ≡ M
  pub passes : sound_else b' (record { triangles = xs'; places = qs }) ≡ true
  pub taken : List ℕ
  pub unused : (i : ℕ) → 1 ≤ occurs i taken → (i < max_places) × (placed i (rings_of b ps) ≡ 0)
  pub rings : rings_of b' qs ≡ rings_after o taken (rings_of b ps)
  pub stays : (i : ℕ) → 1 ≤ placed i (rings_of b ps) → (place_at qs i).vertex ≡ (place_at ps i).vertex
  pub idle : (i : ℕ) → placed i (rings_of b ps) ≡ 0 → placed i (rings_of b' qs) ≡ 0 → place_at qs i ≡ place_at ps i
  pub others : (i : ℕ) → occurs i linked ≡ 0 → place_at qs i ≡ place_at ps i
  pub near : (i : ℕ) → 1 ≤ occurs i linked → i < max_places
  -- a place is freed exactly if it was in a loop and is in none
  pub left : (i : ℕ) → 1 ≤ occurs i freed → (1 ≤ placed i (rings_of b ps)) × (placed i (rings_of b' qs) ≡ 0)
  pub gone : (i : ℕ) → 1 ≤ placed i (rings_of b ps) → placed i (rings_of b' qs) ≡ 0 → 1 ≤ occurs i freed
  pub current_past : drop b'.live b'.current ≡ replicate (max_loops - b'.live) 0
  pub sizes_past : drop b'.live b'.sizes ≡ replicate (max_loops - b'.live) 0

-- the notes are those of a write-back that stays within the memory
pub record Noted (m : List ℕ) : Type 0 where
  pub few : at m core_size ≤ 5
  pub low : at m (core_size + 7) ≤ max_places

-- all 1,024 records are there, and they are written so
pub record Accepts (b : Builder) (o : Operation) (xs m : List ℕ) (n : ℕ) (M : Machine) (b' : Builder) (xs' m' : List ℕ) : Type 0 where
  pub whole : n ≡ max_places
  pub noted : Noted m'
  pub written : Written b o (records max_places m) xs M b' xs' (records max_places m') (to_link m') (to_free m')

-- a refusal gives the state back, leaves the triangle buffer and notes nothing
pub record Refuses (b : Builder) (xs : List ℕ) (b' : Builder) (xs' m' : List ℕ) : Type 0 where
  pub state : b' ≡ b
  pub triangles : xs' ≡ xs
  pub links : at m' core_size ≡ 0
  pub frees : at m' (core_size + 7) ≡ 0

abbrev pub Done : Builder → Operation → List ℕ → List ℕ → ℕ → Step → Builder → List ℕ → List ℕ → Type 0
Done b o xs m n (refused k) b' xs' m' = Refuses b xs b' xs' m'
Done b o xs m n (begun M) b' xs' m' = ⊥
Done b o xs m n (built t M) b' xs' m' = Accepts b o (with_triangle b.built t xs) m n M b' xs' m'
Done b o xs m n (declared d M) b' xs' m' = Accepts b o xs m n M b' xs' m'
Done b o xs m n (finished x) b' xs' m' = ⊥

pub record OperatesOn (b : Builder) (o : Operation) (xs m : List ℕ) (n : ℕ) (r : Performed) (xs' m' : List ℕ) : Type 0 where
  pub answer : operated_answer r.answer ≡ answer_of (operates b (lent xs n m) o)
  pub after : Done b o xs m n (operates b (lent xs n m) o) r.state xs' m'

-- the state b has passed 21, and f and m are the core's way of having it
abbrev pub Open : Builder → List ℕ → List ℕ → Front → Type 0
Open b xs m f = Passes b xs max_places m f m

-- what is answered and given back
abbrev pub refused_with : Builder → ℕ → Performed
refused_with b k = record { state = b; answer = Refused k }

abbrev pub marked_with : Builder → Performed
marked_with b = record { state = b; answer = Marked }

-- the memory m after a result, once a refusal has noted that nothing was touched
abbrev pub told_after : Result (Option Triangle) Refusal → List ℕ → List ℕ
told_after (Ok x) m = m
told_after (Err e) m = noted m (listed []) 0 0

-- the edge is marked: the state after it, and the note of what that touched
abbrev pub MarkedIn : Front → List ℕ → Builder → List ℕ → Type 0
MarkedIn f m b' m' =
    let h = marked_held max_places f.loops m in
    (b' ≡ builder_of (marked_front max_places f h.loops) h.memory)
    × (m' ≡ noted h.memory (listed (touched_by max_places f.loops m Border 0)) f.loops.free h.loops.free)
