-- The run of the packer without limits, and the first of its operations that exceeds some limits.
-- Assumes nothing.
use Rattle.std.specs.Prelude.{ℕ, zero, suc, ◌*◌, ◌≤◌, ◌<◌, max, List, [], ◌∷◌, ◌++◌, ◌≡◌, length}
use Rattle.rules.specs.declared.Triangle.{Triangle}
use Rattle.rules.specs.declared.Operation.{Operation}
use Rattle.rules.specs.Ring.{Ring, places}
use Rattle.rules.specs.Choice.{Packing, ended, refuses, takes, choose}
use Rattle.rules.specs.Pack.{Most, most, nothing_built, enough}
use Rattle.choice_theory.specs.Building.{built_by}

-- limits that the list's packing never exceeds (`run_ends`): an operation adds at most three places and one loop
abbrev pub unlimited : List Triangle → Most
unlimited ts = record { places = 3 * enough ts; loops = enough ts }

-- the loops after each operation, of at most n
unfoldable pub loops_after : ℕ → Packing → List (List Ring)
loops_after zero s = []
loops_after (suc n) s = elim (choose s) [ ended ↦ [] | refuses k ↦ [] | takes o s' ↦ s'.loops ∷ loops_after n s' ]

-- and those of the run without limits
abbrev pub run_loops : List Triangle → List (List Ring)
run_loops ts = loops_after (enough ts) (nothing_built (unlimited ts) ts)

-- the list's triangles in the order of building: a start as listed, any other as b a c at the current edge a→b
abbrev pub build_order : List Triangle → List Triangle
build_order ts = built_by (enough ts) (nothing_built most ts)

-- the triangle of a start, where it is one
abbrev pub start_of : List Ring → List Triangle → List Triangle
start_of [] [] = []
start_of [] (t ∷ ts) = t ∷ []
start_of (l ∷ ls) ts = []

-- those of at most n operations, and of the whole list
unfoldable pub starts_by : ℕ → Packing → List Triangle
starts_by zero s = []
starts_by (suc n) s = elim (choose s) [ ended ↦ [] | refuses k ↦ [] | takes o s' ↦ start_of s.loops s.left ++ starts_by n s' ]

abbrev pub starts_of : List Triangle → List Triangle
starts_of ts = starts_by (enough ts) (nothing_built most ts)

-- no operation exceeds the limits
abbrev pub NoFault : Most → List (List Ring) → Type 0
NoFault h [] = Unit {0}
NoFault h (ls ∷ lss) = ((places ls ≤ h.places) × (length ls ≤ h.loops)) × NoFault h lss

-- the first operation at fault decides between 9 and 10; at one operation the lower number
pub data FirstFault (h : Most) : ℕ → List (List Ring) → Type 0 where
  places_exceeded : {ls : List Ring} {lss : List (List Ring)} → h.places < places ls → FirstFault h 9 (ls ∷ lss)
  loops_exceeded : {ls : List Ring} {lss : List (List Ring)} → places ls ≤ h.places → h.loops < length ls → FirstFault h 10 (ls ∷ lss)
  later : {n : ℕ} {ls : List Ring} {lss : List (List Ring)} → places ls ≤ h.places → length ls ≤ h.loops → FirstFault h n lss
      → FirstFault h n (ls ∷ lss)

-- the highest of something that the loops have
abbrev pub peak_of : (List Ring → ℕ) → ℕ → List (List Ring) → ℕ
peak_of w a [] = a
peak_of w a (ls ∷ lss) = peak_of w (max a (w ls)) lss

-- a packing that the packer comes to, from the list ts with the limits h
pub data Reached (h : Most) (ts : List Triangle) : Packing → Type 0 where
  begins : Reached h ts (nothing_built h ts)
  goes_on : {s s' : Packing} {o : Operation} → Reached h ts s → choose s ≡ takes o s' → Reached h ts s'
