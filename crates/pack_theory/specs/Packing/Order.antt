-- The order buffer while a packing is under way: for each triangle built so far, in building order, its number in the list.
-- Assumes nothing.
use Rattle.std.specs.Prelude.{ℕ, ◌+◌, ◌≤◌, ◌<◌, List, ◌≡◌, length, drop}
use Rattle.std.proofs.lemmas.List.Edits.{sets}
use Rattle.rules.specs.Across.{Found}
use Rattle.rules.specs.Triangle.{triangles_of}
use Rattle.rules.specs.Across.{across}
use Rattle.rules.specs.Choice.{Packing}
use Rattle.rules.specs.Order.{number_found, next_number, order_by}
use Rattle.cutborder.specs.declared.Loops.{Loops}
use Rattle.cutborder.specs.declared.Course.{Course}
use Rattle.pack_theory.specs.Packing.Taken.{Taken}
use Rattle.pack_theory.specs.Packing.Taken as T
use Rattle.pack_theory.specs.Packing.Ran.{Ran}
use Rattle.pack_theory.specs.Packing.Ran as R
use Rattle.pack_theory.specs.Packing.Course.{Holds, start_of, end_of}

-- it has an entry for each triangle of the list: past 22
abbrev pub OrderLong : List ℕ → List ℕ → Type 0
OrderLong xs os = length (triangles_of xs) ≤ length os

-- the triangle across the current edge, if there is one, is noted at entry k
unfoldable pub order_of : List ℕ → List ℕ → ℕ → List ℕ → Loops → List ℕ
order_of xs os k m l = sets os k (number_found (across (end_of l m) (start_of l m) (triangles_of xs)))

-- that entry is there, if it is needed
abbrev pub Notable : List ℕ → List ℕ → ℕ → List ℕ → Loops → Type 0
Notable xs os k m l = (n j c : ℕ) → across (end_of l m) (start_of l m) (triangles_of xs) ≡ Found n j c → k < length os

-- os' is os with the numbers qs after the first k entries; that makes n of them
pub record NotedFrom (k : ℕ) (qs : List ℕ) (n : ℕ) (os os' : List ℕ) : Type 0 where
  pub written : os' ≡ sets os k qs
  pub count : n ≡ k + length qs

-- what a step of the packing s of n triangles does to it; a refused one leaves what is past the first n entries
abbrev pub Notes : ℕ → Packing → Course → Taken → List ℕ → List ℕ → Type 0
Notes n s t (T.Refused k) os os' = drop n os' ≡ drop n os
Notes n s t (T.Going o t') os os' = NotedFrom t.front.built (next_number s) t'.front.built os os'

-- of each packing that was held
abbrev pub NotesOf : List ℕ → Course → List ℕ → List ℕ → List ℕ → Taken → List ℕ → List ℕ → Type 0
NotesOf xs t fs ns m r os os' =
    (v : ℕ) (s : Packing) (rest : List ℕ) → Holds v xs s t fs ns rest m → Notes (length (triangles_of xs)) s t r os os'

-- the same of a run by at most `budget` steps
abbrev pub Lists : ℕ → ℕ → Packing → Course → Ran → List ℕ → List ℕ → Type 0
Lists n budget s t (R.Refused k) os os' = drop n os' ≡ drop n os
Lists n budget s t (R.Ended t' at) os os' = NotedFrom t.front.built (order_by budget s) t'.front.built os os'

abbrev pub ListsOf : List ℕ → ℕ → Course → List ℕ → List ℕ → List ℕ → Ran → List ℕ → List ℕ → Type 0
ListsOf xs budget t fs ns m r os os' =
    (v : ℕ) (s : Packing) (rest : List ℕ) → Holds v xs s t fs ns rest m → Lists (length (triangles_of xs)) budget s t r os os'
