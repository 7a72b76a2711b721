-- How often a directed edge stands in the rings, open or marked; what an operation glues, and how many edges are open.
-- Assumes nothing.
use Prim.Native.Nat.{ℕ, ◌+◌}
use mathlib.Core.Bool.{Bool, true, false}
use mathlib.Core.List.{List, [], ◌∷◌}
use Rattle.rules.specs.declared.Operation.{Operation}
use Rattle.rules.specs.declared.Operation.TheVariants.{New, Forward, Backward, Border, Split, Close, Union, Start}
use Rattle.rules.specs.Count.{hit}
use Rattle.rules.specs.Ring.{Node, Ring, vertex, is_open, start_or}
use Rattle.rules.specs.Table.{Side, glued, fresh}

abbrev pub tally : ℕ → ℕ → List Node → ℕ → ℕ
tally x y [] z = 0
tally x y (p ∷ ps) z = hit x y (vertex p) (start_or z ps) + tally x y ps z

abbrev pub ring_tally : ℕ → ℕ → List Node → ℕ
ring_tally x y [] = 0
ring_tally x y (p ∷ ps) = tally x y (p ∷ ps) (vertex p)

abbrev pub total : ℕ → ℕ → List Ring → ℕ
total x y [] = 0
total x y (l ∷ ls) = ring_tally x y l + total x y ls

-- whether an operation glues a→c to c→a, and c→b to b→c
abbrev pub glues_a : Operation → Bool
glues_a New = false
glues_a Forward = false
glues_a Backward = true
glues_a Border = false
glues_a Close = true
glues_a Start = false
glues_a (Split i) = false
glues_a (Union w j) = false

abbrev pub glues_b : Operation → Bool
glues_b New = false
glues_b Forward = true
glues_b Backward = false
glues_b Border = false
glues_b Close = true
glues_b Start = false
glues_b (Split i) = false
glues_b (Union w j) = false

-- such an edge as a side of the triangle
abbrev pub side_of : Bool → Side
side_of true = glued
side_of false = fresh

-- how many unions there are
abbrev pub unions_of : Operation → ℕ
unions_of New = 0
unions_of Forward = 0
unions_of Backward = 0
unions_of Border = 0
unions_of (Split i) = 0
unions_of Close = 0
unions_of (Union n j) = 1
unions_of Start = 0

-- a number that counts if a test holds, or if it does not
abbrev pub when : Bool → ℕ → ℕ
when true n = n
when false n = 0

abbrev pub unless : Bool → ℕ → ℕ
unless true n = 0
unless false n = n

-- how many edges are open
abbrev pub open_edges : List Node → ℕ
open_edges [] = 0
open_edges (p ∷ ps) = when (is_open p) 1 + open_edges ps

abbrev pub all_open_edges : List Ring → ℕ
all_open_edges [] = 0
all_open_edges (l ∷ ls) = open_edges l + all_open_edges ls
