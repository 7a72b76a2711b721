-- Border: what packing keeps holds after it. An ended rim is remembered.
-- Assumes nothing.
use Prim.Native.Nat.{ℕ, zero, suc, ◌+◌, ◌≤◌}
use native.Mathlib.Omega.{arith}
use mathlib.Core.Bool.{false≢true}
use mathlib.Core.List.{List, [], ◌∷◌, ◌++◌}
use mathlib.Core.Path.{◌≡◌, refl, sym, ap, ◌∙◌, subst}
use mathlib.Core.Logic.{◌⊎◌, inl, inr}
use Rattle.rules.specs.declared.Triangle.{Triangle}
use Rattle.rules.specs.Ring.{Node, opened, marked, Ring, vertex, onward}
use Rattle.rules.specs.Triangle.{In}
use Rattle.rules.specs.Right.{EdgeIn}
use Rattle.book.proofs.Closed.{Closed}
use Rattle.choice_theory.specs.Spots.{Unused}
use Rattle.choice_theory.specs.Full.{with_ring}
use Rattle.choice_theory.proofs.Places.Corners.{Around, Everywhere, Filled}
use Rattle.choice_theory.proofs.Steps.Surgery.{after_border}
use Rattle.choice_theory.proofs.Steps.Tally.{ring_tally, total}
use Rattle.choice_theory.proofs.Places.Rings.{ring_swap}
use Rattle.choice_theory.proofs.Steps.Tallies.{tally_swap}
use Rattle.choice_theory.proofs.Steps.Legal.{Lawful}
use Rattle.choice_theory.proofs.Places.Onward.{Turned, onward_cases, closed_ring, turned_ring}
use Rattle.choice_theory.proofs.Places.Marking.{marks_border}
use Rattle.choice_theory.proofs.Runs.Traces.{marks_after}
use Rattle.choice_theory.proofs.Steps.Triangle.{Keeps, open_edge}
use Rattle.counting.proofs.Counts.{hit_yes}

-- the rims after the border operation: one more where the ring ended
abbrev pub with_rim : List Node → List Node → List Ring → List Ring
with_rim [] r rims = r ∷ rims
with_rim (p ∷ ps) r rims = rims

-- the ring with its current edge marked
abbrev pub rim_of : Node → Node → List Node → List Node
rim_of e f ps = f ∷ (ps ++ (marked (vertex e) ∷ []))

tally_turned : (x y : ℕ) (ps r : List Node) → Turned ps r → ring_tally x y r ≡ ring_tally x y ps
tally_turned x y ps r t =
    ap (ring_tally x y) t.turned ∙ (tally_swap x y (opened t.v ∷ t.vs) t.us ∙ ap (ring_tally x y) (sym t.whole))

rim_tally : (x y : ℕ) (e f : Node) (ps : List Node) → ring_tally x y (rim_of e f ps) ≡ ring_tally x y (e ∷ (f ∷ ps))
rim_tally x y e f ps = tally_swap x y (f ∷ ps) (marked (vertex e) ∷ [])

ring_forth : (Q : ℕ → ℕ → ℕ → Type 0) (ps : List Node) → Around Q ps → Around Q (onward [] ps)
ring_forth Q ps r = go (onward_cases ps)
  where
    go : ((onward [] ps ≡ []) × Closed ps) ⊎ Turned ps (onward [] ps) → Around Q (onward [] ps)
    go (inl h) = subst (Around Q) (sym h.0) tt
    go (inr t) = subst (Around Q) (sym t.turned) (ring_swap Q t.us (opened t.v ∷ t.vs) (subst (Around Q) t.whole r))

-- edges are only moved
pub total_border : (x y : ℕ) (e f : Node) (ps : List Node) (ws rims : List Ring) (r : List Node) → after_border e f ps ≡ r
    → total x y (with_ring r ws) + total x y (with_rim r (rim_of e f ps) rims) ≡ total x y ((e ∷ (f ∷ ps)) ∷ ws) + total x y rims
total_border x y e f ps ws rims [] h = let k = rim_tally x y e f ps in omega arith
total_border x y e f ps ws rims (p ∷ r) h =
    let k = rim_tally x y e f ps in
    let g = tally_turned x y (rim_of e f ps) (p ∷ r) (turned_ring (rim_of e f ps) p r h) in
    omega arith

closed_none : (first x y : ℕ) (ps : List Node) (i : ℕ) → Closed ps → EdgeIn first ps i x y → ⊥
closed_none first x y (p ∷ ps) zero c h = false≢true (sym c.0 ∙ h.0)
closed_none first x y (p ∷ ps) (suc i) c h = closed_none first x y ps i c.1 h
closed_none first x y [] i c h = elim h [ ]

rings_with : (Q : ℕ → ℕ → ℕ → Type 0) (r : List Node) (ws : List Ring) → Around Q r → Everywhere Q ws → Everywhere Q (with_ring r ws)
rings_with Q [] ws h k = k
rings_with Q (p ∷ ps) ws h k = (h, k)

module _ (M R B : List Triangle) (e f : Node) (ps : List Node) (ws rims : List Ring) (k : Keeps M R B ((e ∷ (f ∷ ps)) ∷ ws) rims)
    (left : Unused (vertex f) (vertex e) R) where
  -- no triangle left has b→a, and none built
  pub border_free : Unused (vertex f) (vertex e) M
  border_free z i = go (k.part _ _ z i) (k.legal (vertex e) (vertex f))
    where
      go : In (vertex f) (vertex e) z R ⊎ In (vertex f) (vertex e) z B
          → Lawful B (total (vertex e) (vertex f) ((e ∷ (f ∷ ps)) ∷ ws) + total (vertex e) (vertex f) rims) (vertex e) (vertex f) → ⊥
      go (inl j) q = left z j
      go (inr j) (inl q) = let o = hit_yes (vertex e) (vertex f) in omega arith
      go (inr j) (inr q) = q.2 z j

  waits_border : (r : List Node) → after_border e f ps ≡ r → (x y z w : ℕ) → In x y z B → In y x w R → 1 ≤ total x y (with_ring r ws)
  waits_border [] h x y z w i j = go (total x y ws) refl
    where
      go : (n : ℕ) → total x y ws ≡ n → 1 ≤ total x y ws
      go zero q =
          let u = k.waits x y z w i j in
          let v = rim_tally x y e f ps in
          let o =
          open_edge M x y (vertex f) (rim_of e f ps) (λ g. g w (k.sub_r y x w j)) (marks_border M e f ps border_free k.marks.0)
          (omega arith) in
          absurd (closed_none (vertex f) x y (rim_of e f ps) o.0 (closed_ring (rim_of e f ps) h) o.1)
      go (suc n) q = omega arith
  waits_border (p ∷ r) h x y z w i j =
      let u = k.waits x y z w i j in let v = total_border x y e f ps ws [] (p ∷ r) h in omega arith

  pub keeps_border : Keeps M R B (with_ring (after_border e f ps) ws) (with_rim (after_border e f ps) (rim_of e f ps) rims)
  keeps_border = record {
    once_m = k.once_m;
    once = k.once;
    sub_r = k.sub_r;
    sub_b = k.sub_b;
    apart = k.apart;
    part = k.part;
    marks = marks_after M e f ps ws border_free k.marks;
    gaps =
        rings_with (Filled M R) (after_border e f ps) ws
        (ring_forth (Filled M R) (rim_of e f ps) (ring_swap (Filled M R) (marked (vertex e) ∷ []) (f ∷ ps) k.gaps.0))
        k.gaps.1;
    legal = λ x y. subst (λ (n : ℕ). Lawful B n x y) (sym (total_border x y e f ps ws rims (after_border e f ps) refl)) (k.legal x y);
    waits = waits_border (after_border e f ps) refl;
  }
