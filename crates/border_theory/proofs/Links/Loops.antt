-- Named by their vertices, the rings of places after an operation are the loops of the table of operations.
-- Assumes nothing.
use Prim.Native.Nat.{ℕ, suc, ◌-◌, ◌≤◌, ◌<◌}
use native.Mathlib.Omega.{arith}
use mathlib.Core.Bool.{Bool, true, false, ◌&&◌}
use mathlib.Core.List.{List, [], ◌∷◌, ◌++◌}
use mathlib.Core.Path.{◌≡◌, refl, sym, ap, ap₂, ◌∙◌, subst}
use lib.ListN.{length, take, drop, get_or, set}
use lib.Seq.{get_or-set_same, get_or-set_other}
use lib.Dec.{leb}
use borrow.Author.Tests.{leb-true, ltb-true}
use Rattle.rules.specs.declared.Operation.{Operation}
use Rattle.rules.specs.declared.Operation.TheVariants.{New, Forward, Backward, Border, Split, Close, Union, Start}
use Rattle.rules.specs.Triangle.{Edge, edge}
use Rattle.rules.specs.Count.{same}
use Rattle.rules.specs.Ring.{Node, opened, marked, Ring, start_or, vertex_at, last_vertex, front, onward, shown, loop_at, without}
use Rattle.rules.specs.Table.{Effect, allowed, marking, at_edge}
use Rattle.book.specs.Sums.{path_sum, ring_sum, loops_sum}
use Rattle.book.proofs.Effects.{split_high}
use Rattle.border_theory.specs.Links.Held.{named_ring, named_loops}
use Rattle.rules.specs.Places.{alive}
use Rattle.border_theory.proofs.Links.Stores.{places_after, after_border, vertices_after, HasLoops, Takes, Whole}
use Rattle.border_theory.proofs.Links.Named.{named_length, named_append, named_take, named_drop, named_at, named_last, named_front}
use Rattle.border_theory.proofs.Links.Named.{named_onward, named_shown, named_loop_at, named_without, named_order, free_ring}
use Rattle.border_theory.proofs.Links.Named.{free_loops}
use Rattle.counting.proofs.Bools.{and_left, and_right}
use Rattle.counting.proofs.Counts.{same_yes}

allowed_has : (ls : List Ring) (t : Bool) (e : Effect) → (t ≡ true → HasLoops ls e) → HasLoops ls (allowed t e)
unfolding allowed
allowed_has ls true e h = h refl
allowed_has ls false e h = tt

-- q is free: the other places keep their vertices
record Same (vs vs' : List ℕ) (q c e : ℕ) (ps : List Node) (ws : List Ring) : Type 0 where
  here : get_or vs' q 0 ≡ c
  first : get_or vs' e 0 ≡ get_or vs e 0
  ring : named_ring vs' ps ≡ named_ring vs ps
  waiting : named_loops vs' ws ≡ named_loops vs ws

same_names : (vs : List ℕ) (q c e : ℕ) (ps : List Node) (ws : List Ring) → q < length vs
    → loops_sum (λ p r o. same q p) ((opened e ∷ ps) ∷ ws) ≡ 0 → Same vs (set vs q c) q c e ps ws
unfolding loops_sum ring_sum path_sum
same_names vs q c e ps ws b z = record {
  here = get_or-set_same vs q c 0 b;
  first = get_or-set_other vs q e c 0 (λ d. omega (arith, ap (same q) d, same_yes q));
  ring = free_ring vs q c ps e (omega arith);
  waiting = free_loops vs q c ws (omega arith);
}

named_cons : (vs : List ℕ) (v : ℕ) (ps : List Node) → named_ring vs (opened v ∷ ps) ≡ opened (get_or vs v 0) ∷ named_ring vs ps
unfolding named_ring
named_cons vs v ps = refl

has_marking : (vs : List ℕ) (r : Ring) (ws : List Ring) (d : Edge)
    → HasLoops (named_loops vs (alive r ws)) (marking (named_ring vs r) (named_loops vs ws) d)
unfolding named_ring named_loops
has_marking vs [] ws d = refl
has_marking vs (p ∷ ps) ws d = refl

onward_named : (vs : List ℕ) (e : ℕ) (ps : List Node)
    → named_ring vs (onward [] (ps ++ (marked e ∷ []))) ≡ onward [] (named_ring vs ps ++ (marked (get_or vs e 0) ∷ []))
unfolding named_ring
onward_named vs e ps = named_onward vs [] (ps ++ (marked e ∷ [])) ∙ ap (onward []) (named_append vs ps (marked e ∷ []))

last_ring : (vs : List ℕ) (ps : List Node) (ws : List Ring) → 1 ≤ length ps
    → named_ring vs (opened (last_vertex ps) ∷ front ps) ∷ named_loops vs ws
    ≡ (opened (last_vertex (named_ring vs ps)) ∷ front (named_ring vs ps)) ∷ named_loops vs ws
last_ring vs ps ws h =
    ap (λ (l : Ring). l ∷ named_loops vs ws)
    (named_cons vs (last_vertex ps) (front ps)
    ∙ ap₂ (λ (v : ℕ) (l : List Node). opened v ∷ l) (sym (named_last vs ps h)) (named_front vs ps))

module _ (vs : List ℕ) (u q e : ℕ) (ps : List Node) (ws : List Ring) (b : q < length vs)
    (z : loops_sum (λ p r o. same q p) ((opened e ∷ ps) ∷ ws) ≡ 0) where
  has_new : HasLoops (named_loops (vertices_after New u q vs ps ws) (places_after New q e ps ws))
      (at_edge New u (get_or vs e 0) (named_ring vs ps) (named_loops vs ws))
  unfolding vertices_after places_after at_edge named_loops named_ring
  has_new =
      let s = same_names vs q u e ps ws b z in
      rw (named_append (set vs q u) ps (opened e ∷ []), s.here, s.first, s.ring, s.waiting)

  has_split : (i : ℕ) → HasLoops (named_loops (vertices_after (Split i) u q vs ps ws) (places_after (Split i) q e ps ws))
      (at_edge (Split i) u (get_or vs e 0) (named_ring vs ps) (named_loops vs ws))
  unfolding vertices_after places_after at_edge named_ring
  has_split i =
      let c = get_or vs (vertex_at ps i) 0 in
      let s = same_names vs q c e ps ws b z in
      allowed_has _ _ _ (λ t.
      let h : i < length ps = omega (arith, split_high i (suc (length (named_ring vs ps))) _ _ t, named_length vs ps) in
      let lt : length (take i (named_ring vs ps)) ≡ length (take i ps) =
      ap length (sym (named_take vs i ps)) ∙ named_length vs (take i ps) in
      let ld : length (drop i (named_ring vs ps)) ≡ length (drop i ps) =
      ap length (sym (named_drop vs i ps)) ∙ named_length vs (drop i ps) in
      rw (
        named_order (set vs q c),
        named_take (set vs q c) i ps,
        named_drop (set vs q c) i ps,
        s.here,
        s.first,
        s.ring,
        s.waiting,
        named_at vs ps i h,
        lt,
        ld,
      ))

  has_union : (n j : ℕ)
      → HasLoops (named_loops (vertices_after (Union n j) u q vs ps ws) (places_after (Union n j) q e ps ws))
      (at_edge (Union n j) u (get_or vs e 0) (named_ring vs ps) (named_loops vs ws))
  unfolding vertices_after places_after at_edge named_ring named_loops
  has_union n j =
      let w = loop_at ws (n - 1) in
      let c = get_or vs (vertex_at w j) 0 in
      let vs' = set vs q c in
      let s = same_names vs q c e ps ws b z in
      let at : loop_at (named_loops vs ws) (n - 1) ≡ named_ring vs w = named_loop_at vs ws (n - 1) in
      let w' : named_ring vs' w ≡ named_ring vs w =
      sym (named_loop_at vs' ws (n - 1)) ∙ ap (λ (l : List Ring). loop_at l (n - 1)) s.waiting ∙ at in
      let r : named_loops vs' (without ws (n - 1)) ≡ without (named_loops vs ws) (n - 1) =
      sym (named_without vs' ws (n - 1)) ∙ ap (λ (l : List Ring). without l (n - 1)) s.waiting in
      allowed_has _ _ _ (λ t.
      let l : j < length (loop_at (named_loops vs ws) (n - 1)) =
      ltb-true j (length (loop_at (named_loops vs ws) (n - 1))) (and_right (leb 1 n && leb n (length (named_loops vs ws))) _ t) in
      let h : j < length w = omega (arith, l, ap length at, named_length vs w) in
      rw (
        named_append vs' ps (opened e ∷ (drop j w ++ take j w)),
        named_append vs' (drop j w) (take j w),
        named_drop vs' j w,
        named_take
            vs' j w,
        s.here,
        s.first,
        s.ring,
        w',
        r,
        at,
        named_at vs w j h,
      ))

module _ (vs : List ℕ) (u q e : ℕ) (ps : List Node) (ws : List Ring) where
  has_forward : HasLoops (named_loops (vertices_after Forward u q vs ps ws) (places_after Forward q e ps ws))
      (at_edge Forward u (get_or vs e 0) (named_ring vs ps) (named_loops vs ws))
  unfolding vertices_after places_after at_edge named_loops named_ring
  has_forward = allowed_has _ _ _ (λ t. rw (named_drop vs 1 ps))

  has_close : HasLoops (named_loops (vertices_after Close u q vs ps ws) (places_after Close q e ps ws))
      (at_edge Close u (get_or vs e 0) (named_ring vs ps) (named_loops vs ws))
  unfolding vertices_after places_after at_edge
  has_close = allowed_has _ _ _ (λ t. refl)

  pub has_border : HasLoops (named_loops vs (after_border e ps ws))
      (at_edge Border u (get_or vs e 0) (named_ring vs ps) (named_loops vs ws))
  unfolding at_edge
  has_border =
      let r = shown (onward [] (ps ++ (marked e ∷ []))) in
      subst (λ (l : Ring). HasLoops (named_loops vs (alive r ws))
      (marking l (named_loops vs ws) (edge (get_or vs e 0) (start_or (get_or vs e 0) (named_ring vs ps)))))
      (named_shown vs (onward [] (ps ++ (marked e ∷ []))) ∙ ap shown (onward_named vs e ps))
      (has_marking vs r ws (edge (get_or vs e 0) (start_or (get_or vs e 0) (named_ring vs ps))))

  has_backward : HasLoops (named_loops (vertices_after Backward u q vs ps ws) (places_after Backward q e ps ws))
      (at_edge Backward u (get_or vs e 0) (named_ring vs ps) (named_loops vs ws))
  unfolding vertices_after places_after at_edge named_loops
  has_backward = allowed_has _ _ _
      (λ t. last_ring vs ps ws
      (omega (arith, named_length vs ps, leb-true 3 (suc (length (named_ring vs ps))) (and_left _ _ (and_left _ _ t)))))

-- for each operation but border; one that takes a place is given a free one
pub has_loops : (o : Operation) → Whole o → (vs : List ℕ) (u q e : ℕ) (ps : List Node) (ws : List Ring)
    → (Takes o → (loops_sum (λ p r o. same q p) ((opened e ∷ ps) ∷ ws) ≡ 0) × (q < length vs))
    → HasLoops (named_loops (vertices_after o u q vs ps ws) (places_after o q e ps ws))
    (at_edge o u (get_or vs e 0) (named_ring vs ps) (named_loops vs ws))
unfolding at_edge
has_loops New h vs u q e ps ws z = has_new vs u q e ps ws (z tt).1 (z tt).0
has_loops Forward h vs u q e ps ws z = has_forward vs u q e ps ws
has_loops Backward h vs u q e ps ws z = has_backward vs u q e ps ws
has_loops Border h vs u q e ps ws z = absurd h
has_loops (Split i) h vs u q e ps ws z = has_split vs u q e ps ws (z tt).1 (z tt).0 i
has_loops Close h vs u q e ps ws z = has_close vs u q e ps ws
has_loops (Union n j) h vs u q e ps ws z = has_union vs u q e ps ws (z tt).1 (z tt).0 n j
has_loops Start h vs u q e ps ws z = tt
