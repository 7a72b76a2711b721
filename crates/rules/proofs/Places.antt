-- The loops as rings of places (`rings_after`), taken along with the book over the table's lists of calls, each new place at a record of
-- its own: they have the sizes and the open edges of the book's loops, which the table compares with the second program's, and a place
-- that stays keeps its vertex. And the rings that are read off a state, and the part of 21 that holds after every operation.
-- Assumes nothing.
use Prim.Native.Nat.{ℕ, ◌+◌}
use mathlib.Core.Bool.{Bool, true, false, ◌&&◌, ◌||◌, not}
use mathlib.Core.List.{List, [], ◌∷◌, ◌++◌}
use lib.Dec.{T, eqb}
use Rattle.rules.specs.declared.Operation.TheVariants.{New, Start}
use Rattle.rules.specs.Triangle.{corners, edges_of}
use Rattle.rules.specs.Count.{num, same, hit, occurs, count, different, pairs}
use Rattle.rules.specs.Fan.{about, leaving, entering, turn_on, turn_back, one_run, one_fan_each}
use Rattle.rules.specs.Check.{all_below}
use Rattle.rules.specs.Ring.{Ring, opened, marked, vertex, is_open, all_open, vertex_at, last_open, last_vertex, front, onward, reached}
use Rattle.rules.specs.Ring.{places, loop_at, without}
use Rattle.rules.specs.Table.{allowed, in_order, at_edge, at_rest, effect}
use Rattle.rules.specs.Machine.{test, done, beginning, finishing}
use Rattle.rules.specs.Buffer.{Lengths}
use Rattle.rules.specs.Book.{Call, begin, operate, finish, Book, call, after, is_accepted}
use Rattle.rules.specs.Places.{places_at, rings_after}
use Rattle.rules.specs.View.{follow, followed, places_of, place_nodes, place_rings}
use Rattle.rules.specs.Sound.{sizes_of, sums_fit, apart, places_fit, loops_fit, links_fit, sound_else}
use Rattle.rules.proofs.Rows.{CallRow, equal, all_right, no_book, written_ring, written_rings}
use Rattle.rules.proofs.Models.{call_rows}
use Rattle.rules.proofs.States.{StateRow, good, memory, state_rows, lent_to}

-- a place and its vertex
pub record Seat : Type 0 where
  pub at : ℕ
  pub number : ℕ

-- a place that was there before has this vertex still
unfoldable pub keeps_vertex : List Seat → ℕ → ℕ → Bool
keeps_vertex [] p v = true
keeps_vertex (s ∷ ss) p v = elim (eqb s.at p) [ true ↦ eqb s.number v | false ↦ keeps_vertex ss p v ]

-- rings of places beside the book's loops
unfoldable pub ring_beside : List Seat → Ring → Ring → Bool
ring_beside ss [] [] = true
ring_beside ss [] (v ∷ vs) = false
ring_beside ss (p ∷ ps) [] = false
ring_beside ss (p ∷ ps) (v ∷ vs) =
    keeps_vertex ss (vertex p) (vertex v) && eqb (num (is_open p)) (num (is_open v)) && ring_beside ss ps vs

unfoldable pub rings_beside : List Seat → List Ring → List Ring → Bool
rings_beside ss [] [] = true
rings_beside ss [] (l ∷ ls) = false
rings_beside ss (r ∷ rs) [] = false
rings_beside ss (r ∷ rs) (l ∷ ls) = ring_beside ss r l && rings_beside ss rs ls

unfoldable pub seats_of : Ring → Ring → List Seat
seats_of (p ∷ ps) (v ∷ vs) = record { at = vertex p; number = vertex v } ∷ seats_of ps vs
seats_of [] vs = []
seats_of (p ∷ ps) [] = []

unfoldable pub all_seats : List Ring → List Ring → List Seat
all_seats (r ∷ rs) (l ∷ ls) = seats_of r l ++ all_seats rs ls
all_seats [] ls = []
all_seats (r ∷ rs) [] = []

-- the rings after an accepted call; n and the two numbers after it are records that no place has had
abbrev pub rings_by : List Ring → ℕ → Call → List Ring
rings_by rs n (begin s) = []
rings_by rs n (operate o) = rings_after o (n ∷ ((n + 1) ∷ ((n + 2) ∷ []))) rs
rings_by rs n finish = rs

unfoldable pub beside_all : Lengths → Book → List Ring → List Seat → ℕ → List Call → Bool
beside_all r b rs ss n [] = true
beside_all r b rs ss n (c ∷ cs) =
    let rs' : List Ring = elim (is_accepted (call r b.machine c)) [ true ↦ rings_by rs n c | false ↦ rs ] in
    let b' = after r b c in
    rings_beside ss rs' b'.machine.loops && beside_all r b' rs' (all_seats rs' b'.machine.loops) (n + 3) cs

unfoldable pub beside_right : CallRow → Bool
beside_right x = beside_all x.lengths no_book [] [] 0 x.calls

-- the rings of a state, the current loop first: 5 2 0, and 4 3 1, where the edge from 3 is marked
unfoldable pub read_right : Bool
read_right =
    equal (written_rings (place_rings good memory 2)) (3 ∷ 5 ∷ 1 ∷ 2 ∷ 1 ∷ 0 ∷ 1 ∷ 3 ∷ 4 ∷ 1 ∷ 3 ∷ 0 ∷ 1 ∷ 1 ∷ [])

-- the records that new places take, in their order
unfoldable pub taken_right : Bool
taken_right =
    equal (written_rings (rings_after Start (7 ∷ 8 ∷ 9 ∷ 6 ∷ []) [])) (3 ∷ 7 ∷ 1 ∷ 8 ∷ 1 ∷ 9 ∷ 1 ∷ [])
    && equal (written_rings (rings_after New (7 ∷ 8 ∷ []) ((opened 1 ∷ opened 2 ∷ marked 3 ∷ []) ∷ [])))
    (4 ∷ 7 ∷ 1 ∷ 2 ∷ 1 ∷ 3 ∷ 0 ∷ 1 ∷ 1 ∷ [])

-- of the states of 21 those with sums above 3T are let pass, and no other that 21 refuses
abbrev pub else_right : StateRow → Bool
else_right x =
    let t = sound_else x.state (lent_to x) in
    elim (x.passes || not (sums_fit x.state)) [ true ↦ t | false ↦ not t ]

pub rings : T (all_right beside_right call_rows && read_right && taken_right && all_right else_right state_rows)
unfolding keeps_vertex ring_beside rings_beside seats_of all_seats beside_all beside_right read_right taken_right state_rows call_rows
    corners edges_of
    same hit occurs count different pairs about leaving entering turn_on turn_back one_run one_fan_each all_below all_open vertex_at
    last_open
    last_vertex front onward reached places loop_at without allowed in_order at_edge at_rest effect places_at rings_after test done
    beginning
    finishing follow followed places_of place_nodes place_rings sizes_of apart places_fit loops_fit links_fit sound_else equal all_right
    written_ring written_rings
rings = tt
