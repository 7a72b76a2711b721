-- A builder's loops as rings of places: their places are those followed, and a ring that stands in the plain memory is read off.
-- Assumes nothing.
use Prim.Native.Nat.{ℕ, zero, suc}
use mathlib.Core.Bool.{Bool, true, false}
use mathlib.Core.List.{List, [], ◌∷◌, ◌++◌}
use mathlib.Core.Path.{◌≡◌, refl, sym, ap, ap₂, ◌∙◌}
use Rattle.rules.specs.declared.Place.{Place}
use Rattle.rules.specs.declared.Builder.{Builder}
use Rattle.rules.specs.Count.{occurs}
use Rattle.rules.specs.Ring.{Node, opened, marked, vertex, is_open}
use Rattle.rules.specs.View.{place_at, place_nodes, place_rings, loop_places, places_of}
use Rattle.book.specs.Sums.{placed}
use Rattle.border_theory.specs.Records.Plain.{records}
use Rattle.border_theory.proofs.Memory.Standing.{Trail}
use Rattle.state_theory.proofs.Reading.Walked.{ring_places, rings_places}
use Rattle.state_theory.proofs.Reading.Trails.{flag_at, occurs_rings}

pub node_place : (t : Bool) (i : ℕ) → vertex (elim t [ true ↦ opened i | false ↦ marked i ]) ≡ i
node_place true i = refl
node_place false i = refl

nodes_places : (ps : List Place) (is : List ℕ) → ring_places (place_nodes ps is) ≡ is
unfolding ring_places place_nodes
nodes_places ps [] = refl
nodes_places ps (i ∷ is) = ap₂ (λ (x : ℕ) (xs : List ℕ). x ∷ xs) (node_place (place_at ps i).«open» i) (nodes_places ps is)

pub rings_places_lem : (b : Builder) (ps : List Place) (n : ℕ) → rings_places (place_rings b ps n) ≡ places_of b ps n
unfolding rings_places place_rings places_of
rings_places_lem b ps zero = refl
rings_places_lem b ps (suc n) = ap₂ (λ (xs ys : List ℕ). xs ++ ys) (nodes_places ps (loop_places b ps n)) (rings_places_lem b ps n)

-- how often a place is in the loops
pub places_placed : (b : Builder) (ps : List Place) (n x : ℕ) → occurs x (places_of b ps n) ≡ placed x (place_rings b ps n)
places_placed b ps n x = ap (occurs x) (sym (rings_places_lem b ps n)) ∙ occurs_rings x (place_rings b ps n)

-- a ring that stands in the memory
node_is : (p : Node) → elim (is_open p) [ true ↦ opened (vertex p) | false ↦ marked (vertex p) ] ≡ p
node_is (opened v) = refl
node_is (marked v) = refl

module _ (n : ℕ) (m : List ℕ) where
  pub trail_nodes : (l : List Node) (b : ℕ) → Trail n m l b → place_nodes (records n m) (ring_places l) ≡ l
  unfolding place_nodes ring_places
  trail_nodes [] b t = refl
  trail_nodes (p ∷ ps) b t =
      ap₂ (λ (q : Node) (qs : List Node). q ∷ qs)
      (ap (λ (o : Bool). elim o [ true ↦ opened (vertex p) | false ↦ marked (vertex p) ])
      (flag_at n m (vertex p) (is_open p) t.0.near t.0.mark) ∙ node_is p)
      (trail_nodes ps b t.1)
