-- The building calls on any state and any lent buffers: 21 before 15 to 20, and what each call leaves behind.
-- Assumes nothing.
use Rattle.std.specs.Prelude.{Result, Ok, Err, ℕ, ◌+◌, ◌-◌, ◌*◌, ◌≤◌, ◌<◌, true, false, List, [], ◌∷◌, ◌++◌, ◌≡◌, length, take, drop}
use Rattle.std.specs.Prelude.{replicate}
use Rattle.rules.specs.declared.Triangle.{Triangle}
use Rattle.rules.specs.declared.Counts.{Counts}
use Rattle.rules.specs.declared.Operation.{Operation}
use Rattle.rules.specs.declared.Place.{Place}
use Rattle.rules.specs.declared.Builder.{Builder}
use Rattle.rules.specs.declared.refusal.Refusal.{Refusal}
use Rattle.rules.specs.Refusal.{number_of}
use Rattle.rules.specs.Begun.{Begun}
use Rattle.rules.specs.Checked.{Checked}
use Rattle.rules.specs.Checked.{Accepted, Refused}
use Rattle.rules.specs.Limits.{max_places, max_loops}
use Rattle.rules.specs.Machine.{Machine, Step, refused, begun, built, declared, finished, beginning, operation, finishing}
use Rattle.rules.specs.Buffer.{free_place, cleared, Buffers, lengths}
use Rattle.rules.specs.Count.{occurs}
use Rattle.rules.specs.Places.{rings_after}
use Rattle.rules.specs.View.{place_at, place_rings, places_of, view}
use Rattle.rules.specs.Sound.{sound, sound_else}

-- the machine that a state and its buffers are read as
abbrev pub viewed : Builder → Buffers → Machine
viewed b r = view b r.triangles r.places

-- what the three calls come to; a beginning looks at the buffers' lengths only
abbrev pub begins : Buffers → Counts → Step
begins r s = beginning (lengths r) s

abbrev pub operates : Builder → Buffers → Operation → Step
operates b r o = elim (sound b r) [ true ↦ operation (viewed b r) o | false ↦ refused 21 ]

abbrev pub finishes : Builder → Buffers → Step
finishes b r = elim (sound b r) [ true ↦ finishing (viewed b r) | false ↦ refused 21 ]

-- the builder after an accepted beginning
abbrev pub begun_builder : Counts → Builder
begun_builder s = record {
  stated = s;
  used = 0;
  built = 0;
  peaks = record { places = 0; loops = 0 };
  edges = 0;
  starts = 0;
  unions = 0;
  rims = 0;
  live = 0;
  current = replicate max_loops 0;
  sizes = replicate max_loops 0;
}

-- the builder that was never begun
abbrev pub empty_builder : Builder
empty_builder = begun_builder (record { vertices = 0; triangles = 0; places = 0; loops = 0 })

-- what a result of the code stands for: a refusal, for the empty builder
abbrev pub begun_of : Result Builder Refusal → Begun
begun_of (Ok b) = record { state = b; answer = Accepted }
begun_of (Err e) = record { state = empty_builder; answer = Refused (number_of e) }

-- an accepted beginning leaves the first 1,024 place records zero and the triangle buffer untouched
abbrev pub begun_buffers : Buffers → Buffers
begun_buffers r = record { triangles = r.triangles; places = cleared r.places }

-- what a beginning with the counts s gives and leaves: a refused one changes nothing
abbrev pub BegunBy : Buffers → Counts → Checked → Builder → Buffers → Type 0
BegunBy r s Accepted b r' = (b ≡ begun_builder s) × (r' ≡ begun_buffers r)
BegunBy r s (Refused n) b r' = (b ≡ empty_builder) × (r' ≡ r)

abbrev pub Begins : Buffers → Counts → Begun → Buffers → Type 0
Begins r s x r' = BegunBy r s x.answer x.state r'

-- the triangle buffer with t as triangle n
abbrev pub with_triangle : ℕ → Triangle → List ℕ → List ℕ
with_triangle n t xs = take (3 * n) xs ++ ((t.p ∷ (t.q ∷ (t.r ∷ []))) ++ drop (3 * n + 3) xs)

-- record i is a place of a live loop, or of none
abbrev pub InLoop : Builder → Buffers → ℕ → Type 0
InLoop b r i = 1 ≤ occurs i (places_of b r.places b.live)

abbrev pub NoPlace : Builder → Buffers → ℕ → Type 0
NoPlace b r i = occurs i (places_of b r.places b.live) ≡ 0

-- What an accepted operation o on the state b and the buffers r leaves: the triangle buffer xs, and a state b' that is read as the
-- machine m. Free is which records its new places take (`taken`), and nothing else.
pub record Leaves (b : Builder) (r : Buffers) (o : Operation) (xs : List ℕ) (m : Machine) (b' : Builder) (r' : Buffers) : Type 0 where
  pub triangles : r'.triangles ≡ xs
  pub machine : viewed b' r' ≡ m
  -- all that 21 asks but for edges, starts, unions and rims, which 16 to 18 do not test
  pub passes : sound_else b' r' ≡ true
  -- the records of the new places, in the order in which the operation numbers them: none of them was a place
  pub taken : List ℕ
  pub unused : (i : ℕ) → 1 ≤ occurs i taken → (i < max_places) × NoPlace b r i
  -- a place that stays keeps its record and its vertex
  pub rings : place_rings b' r'.places b'.live ≡ rings_after o taken (place_rings b r.places b.live)
  pub stays : (i : ℕ) → InLoop b r i → InLoop b' r' i → (place_at r'.places i).vertex ≡ (place_at r.places i).vertex
  -- the record of a place that leaves is zero, its edge not open
  pub left : (i : ℕ) → InLoop b r i → NoPlace b' r' i → place_at r'.places i ≡ free_place
  -- a record that is no place before and after is as it was, those beyond the first 1,024 too
  pub idle : (i : ℕ) → NoPlace b r i → NoPlace b' r' i → place_at r'.places i ≡ place_at r.places i
  pub long : length {A = Place} r'.places ≡ length {A = Place} r.places
  -- past the live loops the state's arrays are zero
  pub current_past : drop b'.live b'.current ≡ replicate (max_loops - b'.live) 0
  pub sizes_past : drop b'.live b'.sizes ≡ replicate (max_loops - b'.live) 0

-- a refused operation changes nothing; it is never a beginning or a finish
abbrev pub OperatedBy : Builder → Buffers → Operation → Step → Builder → Buffers → Type 0
OperatedBy b r o (refused n) b' r' = (b' ≡ b) × (r' ≡ r)
OperatedBy b r o (begun m) b' r' = ⊥
OperatedBy b r o (built t m) b' r' = Leaves b r o (with_triangle b.built t r.triangles) m b' r'
OperatedBy b r o (declared d m) b' r' = Leaves b r o r.triangles m b' r'
OperatedBy b r o (finished x) b' r' = ⊥
