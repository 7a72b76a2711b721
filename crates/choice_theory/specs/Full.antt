-- The full loops: the loops as they would be if no place left them at a border. C-14 has the machine keep what is shown of them; this
-- says what that saves. An operation's index still counts the places shown, and the shorter part of a split is the one that shows
-- fewer: only so is it the same run.
-- Assumes nothing.
use Rattle.std.specs.Prelude.{ℕ, zero, suc, ◌+◌, ◌-◌, ◌≤◌, max, Bool, true, false, List, [], ◌∷◌, ◌++◌, ◌≡◌, length, take, drop, leb}
use Rattle.rules.specs.declared.Counts.{Counts}
use Rattle.rules.specs.declared.Operation.{Operation}
use Rattle.rules.specs.declared.Operation.TheVariants.{New, Forward, Backward, Border, Split, Close, Union, Start}
use Rattle.rules.specs.Ring.{Node, opened, marked, Ring, vertex, vertex_at, last_vertex, front, onward, shown, places, loop_at, without}
use Rattle.rules.specs.Table.{in_order}
use Rattle.rules.specs.Machine.{Machine, empty}
use Rattle.book.specs.Shown.{shown_all}
use Rattle.choice_theory.specs.Works.{Works}

-- the number in a run of nodes of the place that is shown with number i; m tells whether the edge before the run is marked
unfoldable pub full_index : List Node → Bool → ℕ → ℕ
full_index [] m i = 0
full_index (opened v ∷ ps) m zero = 0
full_index (opened v ∷ ps) m (suc i) = suc (full_index ps false i)
full_index (marked v ∷ ps) true i = suc (full_index ps true i)
full_index (marked v ∷ ps) false zero = 0
full_index (marked v ∷ ps) false (suc i) = suc (full_index ps true i)

-- whether the first of two rings shows no more places
abbrev pub fewer : Ring → Ring → Bool
fewer l m = leb (length (shown l)) (length (shown m))

-- of the two rings of a split the one goes on that shows fewer places; if equal, the first
abbrev pub fewer_first : Ring → Ring → List Ring → List Ring
fewer_first l m ws = in_order (fewer l m) l m ws

-- a ring put before others, unless it is empty
abbrev pub with_ring : List Node → List Ring → List Ring
with_ring [] ws = ws
with_ring (p ∷ ps) ws = (p ∷ ps) ∷ ws

-- the table's operations at the edge from place e on, where u is the next unused number
unfoldable pub full_at : Operation → ℕ → Node → List Node → List Ring → List Ring
full_at New u e ps ws = (opened u ∷ (ps ++ (opened (vertex e) ∷ []))) ∷ ws
full_at Forward u e ps ws = (opened (vertex e) ∷ drop 1 ps) ∷ ws
full_at Backward u e ps ws = (opened (last_vertex ps) ∷ front ps) ∷ ws
full_at Border u e ps ws = with_ring (onward [] (ps ++ (marked (vertex e) ∷ []))) ws
full_at (Split i) u e ps ws =
    let k = full_index ps false i in
    fewer_first (opened (vertex_at ps k) ∷ take k ps) (opened (vertex e) ∷ drop k ps) ws
full_at Close u e ps ws = ws
full_at (Union p j) u e ps ws =
    let w = loop_at ws (p - 1) in
    let k = full_index w false j in
    (opened (vertex_at w k) ∷ (ps ++ (opened (vertex e) ∷ (drop k w ++ take k w)))) ∷ without ws (p - 1)
full_at Start u e ps ws = (e ∷ ps) ∷ ws

abbrev pub full_after : Operation → ℕ → List Ring → List Ring
full_after o u [] = (opened u ∷ (opened (suc u) ∷ (opened (suc (suc u)) ∷ []))) ∷ []
full_after o u ([] ∷ ws) = ws
full_after o u ((e ∷ ps) ∷ ws) = full_at o u e ps ws

-- the numbers used, the full loops and their most places, along a list of operations
pub record Full : Type 0 where
  pub used : ℕ
  pub loops : List Ring
  pub most : ℕ

abbrev pub none_full : Full
none_full = record { used = 0; loops = []; most = 0 }

-- how many numbers are new
abbrev pub new_numbers : Operation → ℕ
new_numbers New = 1
new_numbers Forward = 0
new_numbers Backward = 0
new_numbers Border = 0
new_numbers (Split i) = 0
new_numbers Close = 0
new_numbers (Union n j) = 0
new_numbers Start = 3

abbrev pub stepped : Operation → Full → Full
stepped o s =
    let ls = full_after o s.used s.loops in
    record { used = s.used + new_numbers o; loops = ls; most = max s.most (places ls) }

unfoldable pub full_run : List Operation → Full → Full
full_run [] s = s
full_run (o ∷ os) s = full_run os (stepped o s)

-- the machine's loops are those shown, they have no more places, and their peak is no higher
pub record Shortened (m : Machine) (s : Full) : Type 0 where
  pub loops : m.loops ≡ shown_all s.loops
  pub live : length m.loops ≡ length s.loops
  pub places : places m.loops ≤ places s.loops
  pub most : m.most_places ≤ s.most

-- Along any run: after any operations that the machine accepts one after the other, from the empty one on.
abbrev pub NeverMorePlaces : Type 0
NeverMorePlaces = (c : Counts) (os : List Operation) (m : Machine) → Works (empty c) os m → Shortened m (full_run os none_full)
