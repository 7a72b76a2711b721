-- States for 21: one that passes, and for each clause of its sentence one that does not; and the view of the one that passes.
-- The second program has no such states, so what is expected here is written by hand, from the rule's sentence.
-- Assumes nothing.
use Prim.Native.Nat.{ℕ}
use mathlib.Core.Bool.{Bool, true, false, ◌&&◌, not}
use mathlib.Core.List.{List, [], ◌∷◌, ◌++◌}
use lib.ListN.{replicate}
use lib.Dec.{T, eqb}
use Rattle.rules.specs.declared.Counts.{Counts}
use Rattle.rules.specs.declared.Place.{Place}
use Rattle.rules.specs.declared.Builder.{Builder}
use Rattle.rules.specs.declared.Operation.TheVariants.{New, Forward, Backward, Border, Split, Close, Union, Start}
use Rattle.rules.specs.Triangle.{tri, corners, edges_of}
use Rattle.rules.specs.Count.{same, hit, occurs, count, uses}
use Rattle.rules.specs.Fan.{about, leaving, entering, turn_on, turn_back, one_run, one_fan_each}
use Rattle.rules.specs.Check.{all_below}
use Rattle.rules.specs.Ring.{all_open, vertex_at, last_open, last_vertex, front, onward, reached, places, loop_at, without}
use Rattle.rules.specs.Table.{allowed, in_order, at_edge, at_rest, effect}
use Rattle.rules.specs.Machine.{Step, refused, begun, built, declared, finished, test, done, beginning, finishing}
use Rattle.rules.specs.Unpack.{numbers_of}
use Rattle.rules.specs.Book.{begin, operate, empty_book}
use Rattle.rules.specs.Calls.{after_all}
use Rattle.rules.specs.Buffer.{free_place, cleared, Buffers}
use Rattle.rules.specs.Fields.{counts_of}
use Rattle.rules.specs.Build.{begins, operates, finishes, begun_buffers, with_triangle}
use Rattle.rules.specs.View.{follow, followed, places_of, nodes, loops_of, triangles_built, view, open_among, open_at}
use Rattle.rules.specs.Sound.{sizes_of, apart, places_fit, loops_fit, links_fit, sound}
use Rattle.rules.proofs.Rows.{equal, equal_places, place, counts, lengths, all_right, written_ring, written_rings, written_machine}

-- a state and its buffers, and whether 21 lets it pass
pub record StateRow : Type 0 where
  pub state : Builder
  pub triangles : List ℕ
  pub places : List Place
  pub passes : Bool

-- the counts so far and the loops of a state
pub record Parts : Type 0 where
  pub used : ℕ
  pub built : ℕ
  pub most_places : ℕ
  pub most_loops : ℕ
  pub live : ℕ
  pub current : List ℕ
  pub sizes : List ℕ

abbrev pub builder : Counts → Parts → ℕ → ℕ → ℕ → ℕ → Builder
builder s p e n u r = record {
  stated = s;
  used = p.used;
  built = p.built;
  peaks = record { places = p.most_places; loops = p.most_loops };
  edges = e;
  starts = n;
  unions = u;
  rims = r;
  live = p.live;
  current = p.current ++ replicate 96 0;
  sizes = p.sizes ++ replicate 96 0;
}

abbrev pub parts : ℕ → ℕ → ℕ → ℕ → ℕ → List ℕ → List ℕ → Parts
parts v t p l n es ks = record { used = v; built = t; most_places = p; most_loops = l; live = n; current = es; sizes = ks }

-- after start, new, border, new, split 2: the current loop is at places 5 2 0, the waiting one at 4 3 1
abbrev pub stated : Counts
stated = counts 5 4 6 2

abbrev pub first : List ℕ
first = 4 ∷ 5 ∷ 0 ∷ 0 ∷ []

abbrev pub three : List ℕ
three = 3 ∷ 3 ∷ 0 ∷ 0 ∷ []

abbrev pub standing : Parts
standing = parts 5 4 6 2 2 first three

abbrev pub good : Builder
good = builder stated standing 9 1 0 0

abbrev pub numbers : List ℕ
numbers = 0 ∷ 1 ∷ 2 ∷ 1 ∷ 0 ∷ 3 ∷ 2 ∷ 1 ∷ 4 ∷ 2 ∷ 4 ∷ 3 ∷ []

abbrev pub front_places : List Place
front_places = place 0 2 5 true ∷ place 1 3 4 true ∷ place 2 5 0 true ∷ place 3 4 1 false ∷ place 4 1 3 true ∷ place 3 0 2 true ∷ []

abbrev pub memory : List Place
memory = front_places ++ replicate 1018 free_place

abbrev pub row : Bool → Builder → List ℕ → List Place → StateRow
row b s xs ps = record { state = s; triangles = xs; places = ps; passes = b }

-- a state that differs in its stated counts, or in its parts, or in its sums
abbrev pub with_stated : Bool → Counts → StateRow
with_stated b s = row b (builder s standing 9 1 0 0) (numbers ++ replicate 30000 0) memory

abbrev pub with_parts : Bool → Parts → StateRow
with_parts b p = row b (builder stated p 9 1 0 0) (numbers ++ replicate 3 0) memory

abbrev pub with_sums : Bool → ℕ → ℕ → ℕ → ℕ → StateRow
with_sums b e n u r = row b (builder stated standing e n u r) numbers memory

abbrev pub with_places : Bool → List Place → StateRow
with_places b ps = row b good numbers ps

unfoldable pub state_rows : List StateRow
state_rows =
    row true good numbers memory
    ∷
    -- longer buffers, and free records that hold anything
    row true good (numbers ++ (9 ∷ [])) (front_places ++ replicate 1020 (place 9 9 9 true))
    ∷
    -- buffers shorter than 14 asks
    row false good (0 ∷ 1 ∷ 2 ∷ 1 ∷ 0 ∷ 3 ∷ 2 ∷ 1 ∷ 4 ∷ 2 ∷ 4 ∷ []) memory
    ∷ row false good numbers (front_places ++ replicate 1017 free_place)
    ∷
    -- a beginning's state, and one that was never begun
    with_parts true (parts 0 0 0 0 0 (0 ∷ 0 ∷ 0 ∷ 0 ∷ []) (0 ∷ 0 ∷ 0 ∷ 0 ∷ []))
    ∷ row false (builder (counts 0 0 0 0) (parts 0 0 0 0 0 (0 ∷ 0 ∷ 0 ∷ 0 ∷ []) (0 ∷ 0 ∷ 0 ∷ 0 ∷ [])) 0 0 0 0) [] memory
    ∷
    -- counts that exceed 13's ranges
    with_stated true (counts 4096 8192 1024 100)
    ∷ with_stated false (counts 4097 8192 1024 100)
    ∷ with_stated false (counts 4096 8193 1024 100)
    ∷ with_stated false (counts 4096 8192 1025 100)
    ∷ with_stated false (counts 4096 8192 1024 101)
    ∷
    -- counts that exceed those stated: vertices, triangles, places, loops, both peaks
    with_stated false (counts 4 4 6 2)
    ∷ with_stated false (counts 5 3 6 2)
    ∷ with_parts false (parts 5 5 6 2 2 first three)
    ∷ row false (builder (counts 5 4 5 2) (parts 5 4 5 2 2 first three) 9 1 0 0) numbers memory
    ∷ row false (builder (counts 5 4 6 1) (parts 5 4 6 1 2 first three) 9 1 0 0) numbers memory
    ∷ with_parts false (parts 5 4 7 2 2 first three)
    ∷ with_parts false (parts 5 4 6 3 2 first three)
    ∷
    -- edges, starts, unions and rims at 3T and above it
    with_sums true 12 12 12 12
    ∷ with_sums false 13 1 0 0
    ∷ with_sums false 9 13 0 0
    ∷ with_sums false 9 1 13 0
    ∷ with_sums false 9 1 0 13
    ∷
    -- two loops at the same places, the current one of them or neither; a loop that is shorter or longer than stated; one that is gone
    -- round twice; one with no place
    with_parts false (parts 5 4 6 2 2 (5 ∷ 5 ∷ 0 ∷ 0 ∷ []) three)
    ∷ row false (builder (counts 5 4 9 3) (parts 5 4 9 3 3 (4 ∷ 4 ∷ 5 ∷ 0 ∷ []) (3 ∷ 3 ∷ 3 ∷ 0 ∷ [])) 9 1 0 0) numbers memory
    ∷ with_parts false (parts 5 4 6 2 2 first (3 ∷ 2 ∷ 0 ∷ 0 ∷ []))
    ∷ with_parts false (parts 5 4 6 2 2 first (2 ∷ 4 ∷ 0 ∷ 0 ∷ []))
    ∷ with_parts false (parts 5 4 6 2 1 (5 ∷ 0 ∷ 0 ∷ 0 ∷ []) (6 ∷ 0 ∷ 0 ∷ 0 ∷ []))
    ∷ with_parts false (parts 5 4 6 2 2 first (3 ∷ 0 ∷ 0 ∷ 0 ∷ []))
    ∷
    -- loops of one and of two places are let pass
    row true (builder stated (parts 5 4 6 2 2 (0 ∷ 1 ∷ 0 ∷ 0 ∷ []) (1 ∷ 2 ∷ 0 ∷ 0 ∷ [])) 9 1 0 0) numbers
    (place 0 0 0 true ∷ place 1 2 2 true ∷ place 2 1 1 false ∷ replicate 1021 free_place)
    ∷
    -- arrays that hold anything past the live loops
    with_parts true (parts 5 4 6 2 2 (4 ∷ 5 ∷ 9 ∷ 1025 ∷ []) (3 ∷ 3 ∷ 9 ∷ 1025 ∷ []))
    ∷
    -- places anywhere in the first 1,024 records
    row true (builder stated (parts 5 4 6 2 1 (1023 ∷ 0 ∷ 0 ∷ 0 ∷ []) (3 ∷ 0 ∷ 0 ∷ 0 ∷ [])) 9 1 0 0) numbers
    (place 0 1023 100 true ∷ replicate 99 free_place ++ (place 1 0 1023 true ∷ replicate 922 free_place) ++ (place 2 100 0 true ∷ []))
    ∷
    -- a loop that returns by its links back only
    row false (builder stated (parts 5 4 6 2 1 (0 ∷ 0 ∷ 0 ∷ 0 ∷ []) (1 ∷ 0 ∷ 0 ∷ 0 ∷ [])) 9 1 0 0) numbers
    (place 0 0 1 true ∷ place 1 0 0 true ∷ replicate 1022 free_place)
    ∷
    -- a link that disagrees; a link out of the first 1,024 records
    with_places false
    (place 0 2 5 true ∷ place 1 3 4 true ∷ place 2 4 0 true ∷ place 3 4 1 false ∷ place 4 1 3 true ∷ place 3 0 2 true
    ∷ replicate 1018 free_place)
    ∷ with_places false
    (place 0 2 1024 true ∷ place 1 3 4 true ∷ place 2 1024 0 true ∷ place 3 4 1 false ∷ place 4 1 3 true ∷ replicate 1019 free_place
    ++ (place 3 0 2 true ∷ []))
    ∷ row false (builder stated (parts 5 4 6 2 2 (4 ∷ 1024 ∷ 0 ∷ 0 ∷ []) three) 9 1 0 0) numbers
    (place 0 2 1024 true ∷ place 1 3 4 true ∷ place 2 1024 0 true ∷ place 3 4 1 false ∷ place 4 1 3 true ∷ replicate 1019 free_place
    ++ (place 3 0 2 true ∷ []))
    ∷
    -- a current edge that is not open, of the waiting loop and of the current one
    with_parts false (parts 5 4 6 2 2 (3 ∷ 5 ∷ 0 ∷ 0 ∷ []) three)
    ∷ with_parts false (parts 5 4 6 2 2 (5 ∷ 3 ∷ 0 ∷ 0 ∷ []) three)
    ∷
    -- a place with both edges marked, in the waiting loop and in the current one; a marked edge in each loop
    with_places false
    (place 0 2 5 true ∷ place 1 3 4 false ∷ place 2 5 0 true ∷ place 3 4 1 false ∷ place 4 1 3 true ∷ place 3 0 2 true
    ∷ replicate 1018 free_place)
    ∷ with_places false
    (place 0 2 5 false ∷ place 1 3 4 true ∷ place 2 5 0 false ∷ place 3 4 1 false ∷ place 4 1 3 true ∷ place 3 0 2 true
    ∷ replicate 1018 free_place)
    ∷ with_places true
    (place 0 2 5 false ∷ place 1 3 4 true ∷ place 2 5 0 true ∷ place 3 4 1 false ∷ place 4 1 3 true ∷ place 3 0 2 true
    ∷ replicate 1018 free_place)
    ∷ with_places true
    (place 0 2 5 true ∷ place 1 3 4 true ∷ place 2 5 0 false ∷ place 3 4 1 false ∷ place 4 1 3 true ∷ place 3 0 2 true
    ∷ replicate 1018 free_place)
    ∷
    -- a vertex number that is not below the count so far, at a place and in a triangle
    with_places false
    (place 0 2 5 true ∷ place 5 3 4 true ∷ place 2 5 0 true ∷ place 3 4 1 false ∷ place 4 1 3 true ∷ place 3 0 2 true
    ∷ replicate 1018 free_place)
    ∷ row false good (0 ∷ 1 ∷ 2 ∷ 1 ∷ 0 ∷ 3 ∷ 2 ∷ 1 ∷ 4 ∷ 2 ∷ 4 ∷ 5 ∷ []) memory
    ∷ []

abbrev pub lent_to : StateRow → Buffers
lent_to x = record { triangles = x.triangles; places = x.places }

abbrev pub state_right : StateRow → Bool
state_right x = let t = sound x.state (lent_to x) in elim x.passes [ true ↦ t | false ↦ not t ]

-- a state whose counts and sums differ from one another
abbrev pub mixed : Builder
mixed = builder (counts 8 7 9 3) standing 10 11 12 13

-- A state is read as a machine: the one that the calls lead to; and the counts stated, the counts so far, edges, starts, unions and
-- rims, the triangles as built, and the loops, the current one first, each from its current edge on.
unfoldable pub view_right : Bool
view_right =
    equal (counts_of (view mixed numbers memory).stated) (0 ∷ 8 ∷ 0 ∷ 7 ∷ 0 ∷ 9 ∷ 0 ∷ 3 ∷ [])
    && equal (written_machine (view mixed numbers memory))
    (5 ∷ 10 ∷ 6 ∷ 2 ∷ 11 ∷ 12 ∷ 13 ∷ numbers ++ (3 ∷ 3 ∷ 1 ∷ 2 ∷ 1 ∷ 0 ∷ 1 ∷ 3 ∷ 4 ∷ 1 ∷ 3 ∷ 0 ∷ 1 ∷ 1 ∷ []))
    && equal (written_machine (view good numbers memory))
    (written_machine
    (after_all (lengths 12 1024) (empty_book stated)
    (begin stated ∷ operate Start ∷ operate New ∷ operate Border ∷ operate New ∷ operate (Split 2) ∷ [])
    ).machine)

-- two loops of two places that record 0→1 as open twice, and 1→0 once
abbrev pub doubled : Builder
doubled = builder stated (parts 5 4 6 2 2 (0 ∷ 2 ∷ 0 ∷ 0 ∷ []) (2 ∷ 2 ∷ 0 ∷ 0 ∷ [])) 9 1 0 0

abbrev pub twice : List Place
twice = place 0 1 1 true ∷ place 1 0 0 true ∷ place 0 3 3 true ∷ place 1 2 2 false ∷ replicate 1020 (place 0 1 1 true)

-- past its live loops the state has others
abbrev pub strewn : Builder
strewn = builder stated (parts 5 4 6 2 2 (4 ∷ 5 ∷ 4 ∷ 5 ∷ []) (3 ∷ 3 ∷ 3 ∷ 3 ∷ [])) 9 1 0 0

-- at how many live loops' places an edge is recorded as open: in either loop, from a place's vertex to the next one's; no marked
-- edge, no opposite, no edge of another record; and how often triangles use an edge
abbrev pub open_is : ℕ → ℕ → ℕ → Bool
open_is x y n = eqb (open_at good memory x y) n

abbrev pub uses_is : ℕ → ℕ → ℕ → Bool
uses_is x y n = eqb (uses x y (tri 0 1 2 ∷ tri 3 0 1 ∷ tri 1 0 4 ∷ [])) n

unfoldable pub open_right : Bool
open_right =
    open_is 3 2 1 && open_is 2 0 1 && open_is 0 3 1 && open_is 4 3 1 && open_is 1 4 1 && open_is 3 1 0 && open_is 2 3 0 && open_is 4 1 0
    && eqb (open_at strewn memory 4 3) 1 && eqb (open_at doubled twice 0 1) 2 && eqb (open_at doubled twice 1 0) 1
    && uses_is 0 1 2 && uses_is 1 0 1 && uses_is 2 1 0

pub states : T (all_right state_right state_rows && view_right && open_right)
unfolding open_among open_right same hit corners edges_of numbers_of occurs count all_below all_open vertex_at last_open last_vertex front
    onward
    reached places loop_at without allowed in_order at_edge at_rest effect test done beginning after_all follow followed nodes loops_of
    triangles_built view places_of sizes_of apart places_fit loops_fit links_fit sound equal all_right state_rows written_ring written_rings
    view_right
states = tt

-- The building calls: 21 before 16 and before 15, on a state that does not pass; 16 and 15 on one that does.
abbrev pub step_number : Step → ℕ
step_number (refused n) = n
step_number (begun m) = 0
step_number (built t m) = 0
step_number (declared d m) = 0
step_number (finished x) = 0

abbrev pub whole : Buffers
whole = record { triangles = numbers; places = memory }

abbrev pub short : Buffers
short = record { triangles = 0 ∷ []; places = memory }

-- a loop of two open edges, which no list of calls leads to: forward and backward need three places
abbrev pub pair : Builder
pair = builder stated (parts 5 3 6 2 1 (1 ∷ 0 ∷ 0 ∷ 0 ∷ []) (2 ∷ 0 ∷ 0 ∷ 0 ∷ [])) 9 1 0 0

abbrev pub paired : Buffers
paired = record { triangles = numbers; places = place 0 0 0 true ∷ place 1 2 2 true ∷ place 2 1 1 true ∷ replicate 1021 free_place }

-- A lent loop of four open edges with any vertices, and no triangle yet: which of forward, backward and new the edge rule refuses.
abbrev pub ringed : Builder
ringed = builder (counts 9 9 9 9) (parts 5 0 4 1 1 (0 ∷ 0 ∷ 0 ∷ 0 ∷ []) (4 ∷ 0 ∷ 0 ∷ 0 ∷ [])) 0 0 0 0

abbrev pub ring : ℕ → ℕ → ℕ → ℕ → Buffers
ring v w x y = record {
  triangles = replicate 27 0;
  places = place v 3 1 true ∷ place w 0 2 true ∷ place x 1 3 true ∷ place y 2 0 true ∷ replicate 1020 free_place;
}

-- a, b and c differ
unfoldable pub differ_right : Bool
differ_right =
    eqb (step_number (operates ringed (ring 0 1 2 3) Forward)) 0 && eqb (step_number (operates ringed (ring 0 1 2 3) Backward)) 0
    && eqb (step_number (operates ringed (ring 0 1 2 3) New)) 0 && eqb (step_number (operates ringed (ring 0 1 0 2) Forward)) 18
    && eqb (step_number (operates ringed (ring 0 1 2 1) Backward)) 18 && eqb (step_number (operates ringed (ring 0 0 1 2) New)) 18

-- a loop of one place goes from a to a; one of two waits
abbrev pub lone : Builder
lone = builder (counts 9 9 9 9) (parts 5 0 4 2 2 (1 ∷ 0 ∷ 0 ∷ 0 ∷ []) (2 ∷ 1 ∷ 0 ∷ 0 ∷ [])) 0 0 0 0

abbrev pub lonely : Buffers
lonely = record { triangles = replicate 27 0; places = paired.places }

-- two loops of one place wait
abbrev pub waited : Builder
waited = builder (counts 9 9 9 9) (parts 5 0 5 3 3 (3 ∷ 4 ∷ 0 ∷ 0 ∷ []) (1 ∷ 1 ∷ 3 ∷ 0 ∷ [])) 0 0 0 0

abbrev pub scattered : Buffers
scattered = record {
  triangles = replicate 27 0;
  places = place 0 2 1 true ∷ place 1 0 2 true ∷ place 2 1 0 true ∷ place 3 3 3 true ∷ place 4 4 4 true ∷ replicate 1019 free_place;
}

unfoldable pub lone_right : Bool
lone_right =
    eqb (step_number (operates waited scattered (Union 2 0))) 0 && eqb (step_number (operates waited scattered (Union 3 0))) 16
    && eqb (step_number (operates pair paired Close)) 16 && eqb (step_number (operates lone lonely Close)) 16
    && eqb (step_number (operates lone lonely New)) 18 && eqb (step_number (operates lone lonely (Union 1 0))) 18
    && eqb (step_number (operates lone lonely Border)) 0

-- a lent state may have peaks below what it holds: a border takes them too, here of six places and two loops
abbrev pub below : Builder
below = builder stated (parts 5 4 0 0 2 first three) 9 1 0 0

abbrev pub peaks_after : Step → List ℕ
peaks_after (refused n) = []
peaks_after (begun m) = []
peaks_after (built t m) = []
peaks_after (declared d m) = m.most_places ∷ m.most_loops ∷ []
peaks_after (finished x) = []

unfoldable pub peaks_right : Bool
peaks_right = equal (peaks_after (operates below whole Border)) (6 ∷ 2 ∷ [])

-- a complete model, two triangles that share nothing; a vertex that is in no triangle has no second fan
abbrev pub resting : ℕ → Builder
resting v = builder (counts v 2 3 1) (parts v 2 3 1 0 (0 ∷ 0 ∷ 0 ∷ 0 ∷ []) (0 ∷ 0 ∷ 0 ∷ 0 ∷ [])) 0 2 0 2

abbrev pub apart_built : ℕ → Buffers
apart_built v = record { triangles = v ∷ 1 ∷ 2 ∷ 3 ∷ 4 ∷ 5 ∷ []; places = memory }

unfoldable pub fans_right : Bool
fans_right =
    eqb (step_number (finishes (resting 7) (apart_built 0))) 0 && eqb (step_number (finishes (resting 7) (apart_built 3))) 20

-- what they leave: triangle n stands at 3n, and a beginning clears the place records and nothing else
unfoldable pub calls_right : Bool
calls_right =
    eqb (step_number (begins whole stated)) 0 && eqb (step_number (begins short (counts 2 4 6 2))) 13
    && eqb (step_number (begins short stated)) 14
    && eqb (step_number (operates good short (Split 9))) 21 && eqb (step_number (finishes good short)) 21
    && eqb (step_number (operates good whole (Split 9))) 16 && eqb (step_number (finishes good whole)) 15
    && eqb (step_number (operates pair paired Forward)) 16 && eqb (step_number (operates pair paired Backward)) 16
    && equal (with_triangle 1 (tri 7 8 9) (0 ∷ 1 ∷ 2 ∷ 3 ∷ 4 ∷ 5 ∷ 6 ∷ [])) (0 ∷ 1 ∷ 2 ∷ 7 ∷ 8 ∷ 9 ∷ 6 ∷ [])
    && equal (begun_buffers whole).triangles numbers && equal_places (begun_buffers whole).places (replicate 1024 free_place)

pub calls : T (calls_right && differ_right && lone_right && peaks_right && fans_right)
unfolding differ_right lone_right peaks_right fans_right about leaving entering turn_on turn_back one_run one_fan_each same hit corners
    edges_of
    numbers_of occurs count all_below all_open vertex_at last_open last_vertex front onward reached places loop_at without allowed in_order
    at_edge
    at_rest
    effect test done beginning finishing follow followed places_of nodes loops_of triangles_built view sizes_of apart places_fit loops_fit
    links_fit sound equal equal_places cleared calls_right
calls = tt
