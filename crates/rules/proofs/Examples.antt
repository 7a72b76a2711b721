-- Small examples of what the tables do not reach: the model's open edges, the state last returned, an open and a closed fan, the right
-- place, a record that is a place, what a start leaves, signed numbers that no position has, and the limits of packing with positions.
-- Assumes nothing.
use Prim.Native.Nat.{ℕ, zero, suc, ◌+◌, ◌≤◌, ◌<◌}
use native.Mathlib.Omega.{arith}
use mathlib.Core.Bool.{Bool, true, false, ◌&&◌}
use mathlib.Core.List.{List, [], ◌∷◌}
use mathlib.Core.Path.{◌≡◌, refl}
use lib.ListN.{replicate}
use lib.IntN.{pos, negsuc}
use lib.Dec.{T, eqb}
use borrow.Author.Tests.{eqb-true}
use Rattle.rules.specs.declared.Triangle.{Triangle}
use Rattle.rules.specs.declared.Builder.{Builder}
use Rattle.rules.specs.declared.Operation.TheVariants.{Start}
use Rattle.rules.specs.Checked.{Accepted, Refused}
use Rattle.rules.specs.Triangle.{tri, edge, edges_of, at_p, at_q, at_r, here, there, Free}
use Rattle.rules.specs.Limits.{max_places}
use Rattle.rules.specs.Count.{num, same, hit, occurs, count}
use Rattle.rules.specs.Fan.{Linked, Closed, Open}
use Rattle.rules.specs.Ring.{opened, places, loop_at}
use Rattle.rules.specs.Right.{stop, RightPlace, by_entering}
use Rattle.rules.specs.Book.{model_open}
use Rattle.rules.specs.Calls.{last_state}
use Rattle.rules.specs.Buffer.{free_place, Buffers}
use Rattle.rules.specs.Check.{all_below}
use Rattle.rules.specs.Table.{at_rest, effect}
use Rattle.rules.specs.Machine.{test, done}
use Rattle.rules.specs.Places.{rings_after}
use Rattle.rules.specs.View.{place_at, follow, followed, nodes, places_of, loops_of, place_nodes, place_rings, triangles_built, view}
use Rattle.rules.specs.Sound.{sizes_of, apart, places_fit, loops_fit, links_fit, sound, sound_else}
use Rattle.rules.specs.Grid.{signed_of}
use Rattle.rules.specs.Pack.{PackBuffers, most}
use Rattle.rules.specs.PackWhole.{Extras, pack_whole, pack_whole_within}
use Rattle.rules.specs.Build.{operates, begun_builder, empty_builder, InLoop, NoPlace, OperatedBy}
use Rattle.rules.proofs.Rows.{place, counts}
use Rattle.rules.proofs.States.{builder, parts, good, whole}

-- of the triangles 0 1 2 and 1 0 3, where 2→0 is declared border: 0→1 is glued, and 1→2, 0→3 and 3→1 are open
abbrev pub open_in : ℕ → ℕ → ℕ
open_in x y = model_open x y (tri 1 0 3 ∷ (tri 0 1 2 ∷ [])) (edge 2 0 ∷ [])

pub open_edges_lem : T (eqb (open_in 1 2) 1 && eqb (open_in 0 3) 1 && eqb (open_in 3 1) 1 && eqb (open_in 0 1) 0 && eqb (open_in 1 0) 0
    && eqb (open_in 2 1) 0 && eqb (open_in 2 0) 0)
unfolding same hit count edges_of
open_edges_lem = tt

-- after a refused beginning the state before it is the last, after an accepted one the state that it returned
pub last_states : ((last_state (begun_builder (counts 3 1 3 1)) (Refused 13) empty_builder).stated.vertices ≡ 3)
    × ((last_state empty_builder Accepted (begun_builder (counts 3 1 3 1))).stated.vertices ≡ 3)
last_states = (refl, refl)

-- M1 at vertex 0: the fan from 1 to 2 is open
abbrev pub one : List Triangle
one = tri 0 1 2 ∷ []

none_before : Free 1 0 one
none_before z (here (at_p a b c)) = omega (arith, a)
none_before z (here (at_q a b c)) = omega (arith, b)
none_before z (here (at_r a b c)) = omega (arith, a)
none_before z (there x3) = elim x3 [ ]

none_after : Free 0 2 one
none_after z (here (at_p a b c)) = omega (arith, b)
none_after z (here (at_q a b c)) = omega (arith, a)
none_after z (here (at_r a b c)) = omega (arith, a)
none_after z (there x3) = elim x3 [ ]

pub open_fan : Linked 0 one (1 ∷ (2 ∷ [])) × Open 0 one 1 (2 ∷ [])
open_fan = ((here (at_p refl refl refl), tt), (none_before, none_after))

-- M4 at vertex 0: the fan from 1 over 2 is closed
abbrev pub both : List Triangle
both = tri 0 1 2 ∷ (tri 1 0 2 ∷ [])

pub closed_fan : Linked 0 both (1 ∷ (2 ∷ (1 ∷ []))) × Closed 1 (2 ∷ (1 ∷ []))
closed_fan = ((here (at_p refl refl refl), (there (here (at_q refl refl refl)), tt)), refl)

-- M2 after start and new: the loop is 3 1 2 0, the triangle 2 1 3 is across 3→1, and place 2 is right: the edge 1→2 comes into it
pub right_place : RightPlace (tri 0 2 3 ∷ []) ((opened 3 ∷ (opened 1 ∷ (opened 2 ∷ (opened 0 ∷ [])))) ∷ []) 3 1 2 0 2
unfolding loop_at
right_place = by_entering 1 1 (refl, refl, refl) refl stop

-- in the state that passes 21 record 4 is a place of a live loop, and 6 is none
pub in_loops : InLoop good whole 4 × NoPlace good whole 6
unfolding same occurs follow places_of
in_loops = (omega arith, refl)

-- what M1's start leaves, in buffers that are longer than it asks: its places take the records 0, 1 and 2
abbrev pub begun : Builder
begun = begun_builder (counts 3 1 3 1)

abbrev pub lent : Buffers
lent = record { triangles = 9 ∷ 9 ∷ 9 ∷ 9 ∷ []; places = replicate 1025 free_place }

abbrev pub started : Builder
started = builder (counts 3 1 3 1) (parts 3 1 3 1 1 (0 ∷ 0 ∷ 0 ∷ 0 ∷ []) (3 ∷ 0 ∷ 0 ∷ 0 ∷ [])) 3 1 0 0

abbrev pub left : Buffers
left = record {
  triangles = 0 ∷ 1 ∷ 2 ∷ 9 ∷ [];
  places = place 0 2 1 true ∷ place 1 0 2 true ∷ place 2 1 0 true ∷ replicate 1022 free_place;
}

-- a number that is 0, 1 or 2
low : (i : ℕ) (a b c : Bool) → eqb i 0 ≡ a → eqb i 1 ≡ b → eqb i 2 ≡ c → 1 ≤ num a + (num b + (num c + 0)) → i < max_places
low i true b c x y z h = omega (arith, eqb-true i 0 x)
low i false true c x y z h = omega (arith, eqb-true i 1 y)
low i false false true x y z h = omega (arith, eqb-true i 2 z)
low i false false false x y z h = absurd (omega (arith, h))

others : (i : ℕ) → NoPlace started left i → place_at left.places i ≡ place_at lent.places i
unfolding occurs same places_of follow
others zero h = absurd (omega (arith, h))
others (suc zero) h = absurd (omega (arith, h))
others (suc (suc zero)) h = absurd (omega (arith, h))
others (suc (suc (suc i))) h = refl

pub start_leaves : OperatedBy begun lent Start (operates begun lent Start) started left
unfolding occurs same places_of follow followed nodes loops_of place_nodes place_rings triangles_built view sizes_of apart places_fit
    loops_fit
    links_fit sound sound_else all_below hit count edges_of at_rest effect test done rings_after places
start_leaves = record {
  triangles = refl;
  machine = refl;
  passes = refl;
  taken = 0 ∷ 1 ∷ 2 ∷ [];
  unused = λ i h. (low i (eqb i 0) (eqb i 1) (eqb i 2) refl refl refl h, refl);
  rings = refl;
  stays = λ i h k. absurd (omega (arith, h));
  left = λ i h k. absurd (omega (arith, h));
  idle = λ i h k. others i k;
  long = refl;
  current_past = refl;
  sizes_past = refl;
}

-- in 16 bits: the largest number, the smallest, and -1
pub signed_ends : (signed_of 32767 ≡ pos 32767) × (signed_of 32768 ≡ negsuc 32767) × (signed_of 65535 ≡ negsuc 0)
unfolding signed_of
signed_ends = (refl, refl, refl)

-- packing is within the limits of the rules, whatever is given besides
pub whole_within : (v : ℕ) (xs : List ℕ) (e : Extras) (r : PackBuffers) → pack_whole v xs e r ≡ pack_whole_within most v xs e r
whole_within v xs e r = refl
