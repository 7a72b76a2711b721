-- The edges recorded as open at the places are the loops' open edges: a loop returns, so that its last place's edge leads to its first.
-- Assumes nothing.
use Prim.Native.Nat.{ℕ, zero, suc, ◌+◌}
use native.Mathlib.Omega.{arith}
use mathlib.Core.Bool.{Bool, true, false, ◌&&◌}
use mathlib.Core.List.{List, [], ◌∷◌, ◌++◌}
use mathlib.Core.Path.{◌≡◌, refl, sym, ap, ap₂, ◌∙◌}
use lib.ListN.{get_or}
use lib.Dec.{eqb, leb}
use borrow.Author.Tests.{eqb-true}
use Rattle.rules.specs.declared.Place.{Place}
use Rattle.rules.specs.declared.Builder.{Builder}
use Rattle.rules.specs.Count.{hit}
use Rattle.rules.specs.Ring.{Node, opened, marked, vertex, is_open, start_or}
use Rattle.rules.specs.View.{place_at, follow, followed, nodes, loop_places, places_of, open_among, loops_of}
use Rattle.rules.specs.Sound.{loop_fits, loops_fit}
use Rattle.book.specs.Sums.{path_sum, ring_sum, loops_sum, open_hit, open_edges}
use Rattle.counting.proofs.Bools.{and_left, and_right}

abbrev node : Bool → ℕ → Node
node o v = elim o [ true ↦ opened v | false ↦ marked v ]

vertex_node : (o : Bool) (v : ℕ) → vertex (node o v) ≡ v
vertex_node true v = refl
vertex_node false v = refl

-- one place
one_hit : (x y : ℕ) (o : Bool) (v a c : ℕ) → a ≡ c
    → elim o [ true ↦ hit x y v c | false ↦ 0 ] ≡ open_hit x y (vertex (node o v)) a (is_open (node o v))
one_hit x y true v a c e = ap (hit x y v) (sym e)
one_hit x y false v a c e = refl

-- a run of places starts at its first place's vertex, or else where it leads
start_run : (ps : List Place) (k i : ℕ)
    → start_or (place_at ps (followed ps k i)).vertex (nodes ps (follow ps k i)) ≡ (place_at ps i).vertex
unfolding follow followed nodes
start_run ps zero i = refl
start_run ps (suc k) i = vertex_node (place_at ps i).«open» (place_at ps i).vertex

open_run : (x y : ℕ) (ps : List Place) (k i : ℕ)
    → open_among ps x y (follow ps k i) ≡ path_sum (open_hit x y) (nodes ps (follow ps k i)) (place_at ps (followed ps k i)).vertex
unfolding follow followed nodes open_among path_sum
open_run x y ps zero i = refl
open_run x y ps (suc k) i =
    let p : Place = place_at ps i in
    ap₂ ◌+◌ (one_hit x y p.«open» p.vertex _ _ (start_run ps k p.after)) (open_run x y ps k p.after)

-- a loop that returns
ring_end : (x y : ℕ) (ps : List Place) (k i : ℕ) → path_sum (open_hit x y) (nodes ps (follow ps k i)) (place_at ps i).vertex
    ≡ path_sum (open_hit x y) (nodes ps (follow ps k i)) (start_or 0 (nodes ps (follow ps k i)))
unfolding follow nodes path_sum
ring_end x y ps zero i = refl
ring_end x y ps (suc k) i =
    ap (path_sum (open_hit x y) (nodes ps (follow ps (suc k) i))) (sym (vertex_node (place_at ps i).«open» (place_at ps i).vertex))

open_ring : (x y : ℕ) (ps : List Place) (k i : ℕ) → followed ps k i ≡ i
    → open_among ps x y (follow ps k i) ≡ ring_sum (open_hit x y) (nodes ps (follow ps k i))
unfolding ring_sum
open_ring x y ps k i e =
    open_run x y ps k i
    ∙ ap (path_sum (open_hit x y) (nodes ps (follow ps k i))) (ap (λ (j : ℕ). (place_at ps j).vertex) e) ∙ ring_end x y ps k i

open_append : (x y : ℕ) (ps : List Place) (is js : List ℕ) → open_among ps x y (is ++ js) ≡ open_among ps x y is + open_among ps x y js
unfolding open_among
open_append x y ps [] js = omega arith
open_append x y ps (i ∷ is) js = omega (arith, open_append x y ps is js)

returns : (b : Builder) (ps : List Place) (n : ℕ) → loop_fits b ps n ≡ true
    → followed ps (get_or b.sizes n 0) (get_or b.current n 0) ≡ get_or b.current n 0
returns b ps n h =
    let e = get_or b.current n 0 in
    let k = get_or b.sizes n 0 in
    eqb-true (followed ps k e) e
    (and_right (leb 1 k) (eqb (followed ps k e) e) (and_left (leb 1 k && eqb (followed ps k e) e) (place_at ps e).«open» h))

pub open_recorded : (x y : ℕ) (b : Builder) (ps : List Place) (n : ℕ) → loops_fit b ps n ≡ true
    → open_among ps x y (places_of b ps n) ≡ open_edges x y (loops_of b ps n)
unfolding places_of loops_of loops_fit loops_sum open_among
open_recorded x y b ps zero h = refl
open_recorded x y b ps (suc n) h =
    let k = get_or b.sizes n 0 in
    let e = get_or b.current n 0 in
    open_append x y ps (loop_places b ps n) (places_of b ps n)
    ∙ ap₂ ◌+◌ (open_ring x y ps k e (returns b ps n (and_left (loop_fits b ps n) (loops_fit b ps n) h)))
    (open_recorded x y b ps n (and_right (loop_fits b ps n) (loops_fit b ps n) h))
