-- The edge rule holds at start, new, close and border: 18 is met at forward, backward, split and union only.
-- Assumes nothing.
use Prim.Native.Nat.{ℕ, zero, suc, ◌≤◌, ◌<◌}
use native.Mathlib.Omega.{arith}
use mathlib.Core.Bool.{Bool, true, false, ◌&&◌, not, false≢true}
use mathlib.Core.List.{List, [], ◌∷◌, ◌++◌}
use mathlib.Core.Path.{◌≡◌, refl, sym, subst}
use lib.ListN.{length}
use lib.Dec.{eqb}
use borrow.Author.Tests.{eq-eqb, eqb-true}
use Rattle.rules.specs.declared.Triangle.{Triangle}
use Rattle.rules.specs.declared.Operation.{Operation}
use Rattle.rules.specs.declared.Operation.TheVariants.{New, Forward, Backward, Border, Split, Close, Union, Start}
use Rattle.rules.specs.Triangle.{tri, Edge, corners, edges_of}
use Rattle.rules.specs.Count.{occurs, uses, unjoined}
use Rattle.rules.specs.Ring.{Node, opened, marked, Ring, vertex, all_open, vertex_at, onward, shown}
use Rattle.rules.specs.Table.{glued, Effect, not_allowed, builds, marks, allowed, marking, at_edge, at_rest, effect, edge_rule}
use Rattle.rules.specs.Machine.{Step, refused, begun, built, declared, finished, test, done, operation}
use Rattle.rules.specs.Book.{Book}
use Rattle.book.proofs.Parts.{building_of}
use Rattle.book.specs.Sums.{path_sum, ring_sum, loops_sum}
use Rattle.book.specs.Consistent.{AllSound, Consistent}
use Rattle.book.proofs.Counting.{uses_from, uses_to}
use Rattle.book.proofs.Kept.{test_law, loop_used}
use Rattle.counting.proofs.Bools.{and_left, not_eqb}
use Rattle.counting.proofs.Counts.{hit_yes}

-- the edge rule holds of what an operation would do
abbrev pub RuleHolds : List Triangle → Effect → Type 0
RuleHolds ts not_allowed = Unit {0}
RuleHolds ts (builds x) = edge_rule x.triangle x.sides.pq x.sides.qr x.sides.rp ts ≡ true
RuleHolds ts (marks x) = Unit {0}

allowed_rule : (ts : List Triangle) (t : Bool) (e : Effect) → (t ≡ true → RuleHolds ts e) → RuleHolds ts (allowed t e)
unfolding allowed
allowed_rule ts true e h = h refl
allowed_rule ts false e h = tt

six : (a b c d e f : Bool) → a ≡ true → b ≡ true → c ≡ true → d ≡ true → e ≡ true → f ≡ true → a && b && c && d && e && f ≡ true
six a b c d e f ha hb hc hd he hf = rw (ha, hb, hc, hd, he, hf)

-- the operations that glue and add edges only where the rule must hold
abbrev pub Simple : Operation → Type 0
Simple New = Unit {0}
Simple Close = Unit {0}
Simple Border = Unit {0}
Simple Start = Unit {0}
Simple Forward = ⊥
Simple Backward = ⊥
Simple (Split i) = ⊥
Simple (Union n j) = ⊥

-- a refusal's number, 0 if accepted
abbrev pub refusal_of : Step → ℕ
refusal_of (refused n) = n
refusal_of (begun m) = 0
refusal_of (built t m) = 0
refusal_of (declared d m) = 0
refusal_of (finished x) = 0

pub test_passed : (t : Bool) (n : ℕ) (s : Step) → t ≡ true → test t n s ≡ s
unfolding test
test_passed true n s h = refl
test_passed false n s h = absurd (false≢true h)

module _ (b : Book) (k : Consistent b) where
  abbrev ts : List Triangle
  ts = b.machine.triangles

  abbrev u : ℕ
  u = b.machine.used

  -- the ends of a used edge not_eqb, and are below the numbers that are not used
  ends_differ : (x y : ℕ) → uses x y ts ≡ 1 → x ≡ y → ⊥
  ends_differ x y h e =
      let z : uses x x ts ≡ 1 = subst (λ (v : ℕ). uses x v ts ≡ 1) (sym e) h in omega (arith, z, k.proper x)

  from_below : (x y : ℕ) → uses x y ts ≡ 1 → x < u
  from_below x y h = k.below x (omega (arith, uses_from x y ts))

  to_below : (x y : ℕ) → uses x y ts ≡ 1 → y < u
  to_below x y h = k.below y (omega (arith, uses_to x y ts))

  -- a number that is not used is in no triangle
  no_corner : (v : ℕ) → u ≤ v → occurs v (corners ts) ≡ 0
  no_corner v h = go (occurs v (corners ts)) refl
    where
      go : (n : ℕ) → occurs v (corners ts) ≡ n → n ≡ 0
      go zero e = refl
      go (suc n) e = absurd (omega (arith, k.below v (omega arith)))

  from_unused : (v x : ℕ) → u ≤ v → unjoined v x (edges_of ts) ≡ true
  from_unused v x h =
      rw (
        eq-eqb (uses v x ts) 0 (omega (arith, uses_from v x ts, no_corner v h)),
        eq-eqb (uses x v ts) 0
            (omega (arith, uses_to x v ts, no_corner v h)),
      )

  to_unused : (x v : ℕ) → u ≤ v → unjoined x v (edges_of ts) ≡ true
  to_unused x v h =
      rw (
        eq-eqb (uses x v ts) 0 (omega (arith, uses_to x v ts, no_corner v h)),
        eq-eqb (uses v x ts) 0
            (omega (arith, uses_from v x ts, no_corner v h)),
      )

  rule_start : RuleHolds ts (at_rest Start u)
  unfolding at_rest
  rule_start =
      six (not (eqb u (suc u))) (not (eqb (suc u) (suc (suc u)))) (not (eqb (suc (suc u)) u))
      (unjoined u (suc u) (edges_of ts)) (unjoined (suc u) (suc (suc u)) (edges_of ts)) (unjoined (suc (suc u)) u (edges_of ts))
      (not_eqb u (suc u) (λ e. omega arith)) (not_eqb (suc u) (suc (suc u)) (λ e. omega arith)) (not_eqb (suc (suc u)) u (λ e. omega arith))
      (from_unused u (suc u) (omega arith)) (from_unused (suc u) (suc (suc u)) (omega arith)) (from_unused (suc (suc u)) u (omega arith))

  module _ (a : ℕ) (f : Node) (ps : List Node) (ws : List Ring) (l : b.machine.loops ≡ (opened a ∷ (f ∷ ps)) ∷ ws) where
    current : uses a (vertex f) ts ≡ 1
    unfolding loops_sum ring_sum path_sum
    current = loop_used b k a (vertex f) (rw l (omega (arith, hit_yes a (vertex f))))

    rule_new : RuleHolds ts (at_edge New u a (f ∷ ps) ws)
    unfolding at_edge
    rule_new =
        let x = vertex f in
        six (not (eqb x a)) (not (eqb a u)) (not (eqb u x)) true (unjoined a u (edges_of ts)) (unjoined u x (edges_of ts))
        (not_eqb x a (λ e. ends_differ a x current (sym e))) (not_eqb a u (λ e. omega (arith, from_below a x current)))
        (not_eqb u x (λ e. omega (arith, to_below a x current))) refl (to_unused a u (omega arith)) (from_unused u x (omega arith))

  rule_close : (a : ℕ) (f : Node) (ps : List Node) (ws : List Ring) → b.machine.loops ≡ (opened a ∷ (f ∷ ps)) ∷ ws
      → RuleHolds ts (at_edge Close u a (f ∷ ps) ws)
  unfolding allowed at_edge vertex_at all_open loops_sum ring_sum path_sum
  rule_close a f [] ws l = tt
  rule_close a f (g ∷ (h ∷ ps)) ws l =
      allowed_rule ts (eqb (suc (length (f ∷ (g ∷ (h ∷ ps))))) 3 && all_open (f ∷ (g ∷ (h ∷ ps))))
      (builds (building_of ws (tri (vertex f) a (vertex g)) glued glued glued 0 0 0))
      (λ t. absurd (omega (
        arith,
        eqb-true (suc (length (f ∷ (g ∷ (h ∷ ps))))) 3
            (and_left (eqb (suc (length (f ∷ (g ∷ (h ∷ ps))))) 3) (all_open (f ∷ (g ∷ (h ∷ ps)))) t),
      )))
  rule_close a (marked x) (g ∷ []) ws l = tt
  rule_close a (opened x) (marked y ∷ []) ws l = tt
  rule_close a (opened x) (opened y ∷ []) ws l =
      let ax = current a (opened x) (opened y ∷ []) ws l in
      let xy = loop_used b k x y (rw l (omega (arith, hit_yes x y))) in
      let ya = loop_used b k y a (rw l (omega (arith, hit_yes y a))) in
      six (not (eqb x a)) (not (eqb a y)) (not (eqb y x)) true true true
      (not_eqb x a (λ e. ends_differ a x ax (sym e))) (not_eqb a y (λ e. ends_differ y a ya (sym e)))
      (not_eqb y x (λ e. ends_differ x y xy (sym e))) refl refl refl

  rule_marking : (r : Ring) (ws : List Ring) (d : Edge) → RuleHolds ts (marking r ws d)
  rule_marking [] ws d = tt
  rule_marking (p ∷ ps) ws d = tt

  rule_at_edge : (o : Operation) → Simple o → (a : ℕ) (f : Node) (ps : List Node) (ws : List Ring)
      → b.machine.loops ≡ (opened a ∷ (f ∷ ps)) ∷ ws
      → RuleHolds ts (at_edge o u a (f ∷ ps) ws)
  unfolding at_edge
  rule_at_edge New h a f ps ws l = rule_new a f ps ws l
  rule_at_edge Close h a f ps ws l = rule_close a f ps ws l
  rule_at_edge Border h a f ps ws l = rule_marking (shown (onward [] (f ∷ (ps ++ (marked a ∷ []))))) ws (record { from = a; to = vertex f })
  rule_at_edge Start h a f ps ws l = tt
  rule_at_edge Forward h a f ps ws l = absurd h
  rule_at_edge Backward h a f ps ws l = absurd h
  rule_at_edge (Split i) h a f ps ws l = absurd h
  rule_at_edge (Union n j) h a f ps ws l = absurd h

  rule_at_rest : (o : Operation) → Simple o → RuleHolds ts (at_rest o u)
  unfolding at_rest
  rule_at_rest New h = tt
  rule_at_rest Close h = tt
  rule_at_rest Border h = tt
  rule_at_rest Start h = rule_start
  rule_at_rest Forward h = absurd h
  rule_at_rest Backward h = absurd h
  rule_at_rest (Split i) h = absurd h
  rule_at_rest (Union n j) h = absurd h

  rule_effect : (o : Operation) → Simple o → (ls : List Ring) → b.machine.loops ≡ ls → AllSound ls → RuleHolds ts (effect o u ls)
  unfolding effect
  rule_effect o h [] l s = rule_at_rest o h
  rule_effect o h ([] ∷ ws) l s = tt
  rule_effect o h ((e ∷ []) ∷ ws) l s = absurd (omega (arith, s.0.long))
  rule_effect o h ((opened a ∷ (f ∷ ps)) ∷ ws) l s = rule_at_edge o h a f ps ws l
  rule_effect o h ((marked a ∷ (f ∷ ps)) ∷ ws) l s = absurd (false≢true s.0.current)

  not_18 : (e : Effect) → RuleHolds ts e → refusal_of (done b.machine e) ≡ 18 → ⊥
  unfolding done
  not_18 not_allowed h = λ x. omega arith
  not_18 (builds y) h =
      test_law (λ (x : Step). refusal_of x ≡ 18 → ⊥) _ _ _ (λ x. omega arith)
      (λ i. subst (λ (x : Step). refusal_of x ≡ 18 → ⊥)
      (sym (test_passed (edge_rule y.triangle y.sides.pq y.sides.qr y.sides.rp ts) _ _ h)) (λ x. omega arith))
  not_18 (marks y) h = test_law (λ (x : Step). refusal_of x ≡ 18 → ⊥) _ _ _ (λ x. omega arith) (λ i x. omega arith)

  -- on a consistent book these operations are never refused by the edge rule
  pub never_18 : (o : Operation) → Simple o → refusal_of (operation b.machine o) ≡ 18 → ⊥
  never_18 o h = not_18 (effect o u b.machine.loops) (rule_effect o h b.machine.loops refl k.loops)
