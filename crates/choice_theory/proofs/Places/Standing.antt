-- From the counts of edges to the places: each open edge at one place, every ring edge used.
-- Assumes nothing.
use Prim.Native.Nat.{ℕ, zero, suc, ◌+◌, ◌≤◌}
use native.Mathlib.Omega.{arith}
use mathlib.Core.List.{List, [], ◌∷◌}
use mathlib.Core.Path.{◌≡◌, refl, ap}
use mathlib.Core.Logic.{inl, inr}
use Rattle.rules.specs.declared.Triangle.{Triangle}
use Rattle.rules.specs.Count.{hit}
use Rattle.rules.specs.Ring.{Node, Ring, vertex, start_or}
use Rattle.rules.specs.Triangle.{In}
use Rattle.rules.specs.Right.{EdgeIn, OpenAt}
use Rattle.choice_theory.specs.Spots.{Unique}
use Rattle.choice_theory.proofs.Places.Corners.{end_or, Along, Around, Everywhere}
use Rattle.choice_theory.proofs.Steps.Tally.{tally, ring_tally, total}
use Rattle.choice_theory.proofs.Steps.Legal.{Lawful}
use Rattle.choice_theory.proofs.Places.Exists.{Used}
use Rattle.counting.proofs.Counts.{hit_yes}
use Rattle.mesh_theory.proofs.Fans.Only.{hit_eq}

edge_counts : (x y first : ℕ) (ps : List Node) (i : ℕ) → EdgeIn first ps i x y → 1 ≤ tally x y ps first
edge_counts x y first (p ∷ ps) zero h = let k = hit_eq x y (vertex p) (start_or first ps) h.1 h.2 in omega arith
edge_counts x y first (p ∷ ps) (suc i) h = let k = edge_counts x y first ps i h in omega arith
edge_counts x y first [] i h = elim h [ ]

edge_one : (x y first : ℕ) (ps : List Node) (i j : ℕ) → tally x y ps first ≤ 1 → EdgeIn first ps i x y → EdgeIn first ps j x y → i ≡ j
edge_one x y first (p ∷ ps) zero zero n h k = refl
edge_one x y first (p ∷ ps) zero (suc j) n h k =
    let a = hit_eq x y (vertex p) (start_or first ps) h.1 h.2 in
    let b = edge_counts x y first ps j k in absurd (omega arith)
edge_one x y first (p ∷ ps) (suc i) zero n h k =
    let a = hit_eq x y (vertex p) (start_or first ps) k.1 k.2 in
    let b = edge_counts x y first ps i h in absurd (omega arith)
edge_one x y first (p ∷ ps) (suc i) (suc j) n h k = ap suc (edge_one x y first ps i j (omega arith) h k)
edge_one x y first [] i j n h k = elim h [ ]

ring_first : (x y : ℕ) (w : List Node) → ring_tally x y w ≡ tally x y w (start_or 0 w)
ring_first x y [] = refl
ring_first x y (p ∷ ps) = refl

pub open_counts : (x y : ℕ) (ls : List Ring) (l i : ℕ) → OpenAt ls l i x y → 1 ≤ total x y ls
open_counts x y (w ∷ ws) zero i h = let k = edge_counts x y (start_or 0 w) w i h in let r = ring_first x y w in omega arith
open_counts x y (w ∷ ws) (suc l) i h = let k = open_counts x y ws l i h in omega arith
open_counts x y [] l i h = elim h [ ]

open_one : (x y : ℕ) (ls : List Ring) (l i m j : ℕ) → total x y ls ≤ 1 → OpenAt ls l i x y → OpenAt ls m j x y → (l ≡ m) × (i ≡ j)
open_one x y (w ∷ ws) zero i zero j n h k =
    let r = ring_first x y w in (refl, edge_one x y (start_or 0 w) w i j (omega arith) h k)
open_one x y (w ∷ ws) zero i (suc m) j n h k =
    let a = edge_counts x y (start_or 0 w) w i h in let r = ring_first x y w in let b = open_counts x y ws m j k in absurd (omega arith)
open_one x y (w ∷ ws) (suc l) i zero j n h k =
    let a = edge_counts x y (start_or 0 w) w j k in let r = ring_first x y w in let b = open_counts x y ws l i h in absurd (omega arith)
open_one x y (w ∷ ws) (suc l) i (suc m) j n h k =
    let r = open_one x y ws l i m j (omega arith) h k in (ap suc r.0, r.1)
open_one x y [] l i m j n h k = elim h [ ]

-- each open edge stands at one place
pub unique_of : (ls : List Ring) → ((x y : ℕ) → total x y ls ≤ 1) → Unique ls
unique_of ls n x y l i m j h k = open_one x y ls l i m j (n x y) h k

used_seg : (B : List Triangle) (x : ℕ) (ps : List Node) (y : ℕ)
    → ((u v : ℕ) → 1 ≤ hit u v x (start_or y ps) + tally u v ps y → (z : ℕ) × In u v z B) → Along (Used B) x ps y
used_seg B x [] y h = tt
used_seg B x (p ∷ ps) y h =
    let a = hit_yes x (vertex p) in
    let b = hit_yes (vertex p) (start_or y ps) in
    ((h x (vertex p) (omega arith), h (vertex p) (start_or y ps) (omega arith)), used_seg B (vertex p) ps y (λ u v k. h u v (omega arith)))

pub last_tally : (u v : ℕ) (p : Node) (ps : List Node) (y : ℕ) → hit u v (end_or (vertex p) ps) y ≤ tally u v (p ∷ ps) y
last_tally u v p [] y = omega arith
last_tally u v p (q ∷ ps) y = let h = last_tally u v q ps y in omega arith

used_ring : (B : List Triangle) (l : List Node) → ((u v : ℕ) → 1 ≤ ring_tally u v l → (z : ℕ) × In u v z B) → Around (Used B) l
used_ring B [] h = tt
used_ring B (p ∷ ps) h =
    used_seg B (end_or (vertex p) ps) (p ∷ ps) (vertex p) (λ u v k. let r = last_tally u v p ps (vertex p) in h u v (omega arith))

-- every edge in the rings is used
pub used_of : (B : List Triangle) (ls : List Ring) → ((u v : ℕ) → 1 ≤ total u v ls → (z : ℕ) × In u v z B) → Everywhere (Used B) ls
used_of B [] h = tt
used_of B (l ∷ ls) h = (used_ring B l (λ u v k. h u v (omega arith)), used_of B ls (λ u v k. h u v (omega arith)))

pub at_most_one : (B : List Triangle) (n x y : ℕ) → Lawful B n x y → n ≤ 1
at_most_one B n x y (inl e) = omega arith
at_most_one B n x y (inr r) = let h = r.0 in omega arith

pub is_used : (B : List Triangle) (n x y : ℕ) → 1 ≤ n → Lawful B n x y → (z : ℕ) × In x y z B
is_used B n x y k (inl e) = absurd (omega arith)
is_used B n x y k (inr r) = r.1

-- both from a legal state
pub legal_unique : (B : List Triangle) (ls rims : List Ring) → ((x y : ℕ) → Lawful B (total x y ls + total x y rims) x y) → Unique ls
legal_unique B ls rims l = unique_of ls (λ x y. let h = at_most_one B _ x y (l x y) in omega arith)

pub legal_used : (B : List Triangle) (ls rims : List Ring) → ((x y : ℕ) → Lawful B (total x y ls + total x y rims) x y)
    → Everywhere (Used B) ls
legal_used B ls rims l = used_of B ls (λ u v k. is_used B _ u v (omega arith) (l u v))
