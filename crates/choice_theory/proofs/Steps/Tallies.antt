-- How an operation changes the number of times that an edge stands in the rings.
-- Assumes nothing.
use Prim.Native.Nat.{ℕ, ◌+◌}
use native.Mathlib.Omega.{arith}
use mathlib.Core.Bool.{Bool, true, false}
use mathlib.Core.List.{List, [], ◌∷◌, ◌++◌}
use mathlib.Core.Path.{◌≡◌, refl, sym, ap}
use Rattle.rules.specs.declared.Operation.{Operation}
use Rattle.rules.specs.declared.Operation.TheVariants.{New, Forward, Backward, Split, Close, Union}
use Rattle.rules.specs.Count.{hit}
use Rattle.rules.specs.Ring.{Node, opened, Ring, vertex, start_or}
use Rattle.rules.specs.Table.{in_order}
use Rattle.choice_theory.specs.Full.{fewer, fewer_first}
use Rattle.choice_theory.proofs.Steps.Surgery.{Surgery, on_new, on_forward, on_backward, on_close, on_split, on_union}
use Rattle.choice_theory.proofs.Steps.Tally.{tally, ring_tally, total, glues_a, glues_b, when, unless}
use Rattle.choice_theory.proofs.Places.Rings.{append_none}

module _ (x y : ℕ) where
  pub tally_append : (us vs : List Node) (z : ℕ) → tally x y (us ++ vs) z ≡ tally x y us (start_or z vs) + tally x y vs z
  tally_append [] vs z = omega arith
  tally_append (u ∷ []) vs z = omega arith
  tally_append (u ∷ (v ∷ us)) vs z = let h = tally_append (v ∷ us) vs z in omega arith

  pub tally_swap : (us vs : List Node) → ring_tally x y (us ++ vs) ≡ ring_tally x y (vs ++ us)
  tally_swap [] vs = ap (ring_tally x y) (sym (append_none vs))
  tally_swap (p ∷ us) [] = ap (ring_tally x y) (append_none (p ∷ us))
  tally_swap (p ∷ us) (q ∷ vs) =
      let h = tally_append (p ∷ us) (q ∷ vs) (vertex p) in
      let k = tally_append (q ∷ vs) (p ∷ us) (vertex q) in omega arith

  pub total_append : (us vs : List Ring) → total x y (us ++ vs) ≡ total x y us + total x y vs
  total_append [] vs = omega arith
  total_append (u ∷ us) vs = let h = total_append us vs in omega arith

  pub total_shorter : (a b : List Node) (ws : List Ring)
      → total x y (fewer_first a b ws) ≡ ring_tally x y a + (ring_tally x y b + total x y ws)
  unfolding in_order
  total_shorter a b ws = go (fewer a b)
    where
      go : (t : Bool) → total x y (in_order t a b ws) ≡ ring_tally x y a + (ring_tally x y b + total x y ws)
      go true = refl
      go false = omega arith

  -- a→b goes, a→c and c→b come unless they are glued, and what they are glued to goes
  pub total_step : (e f : Node) (ps : List Node) (ws ls : List Ring) (c : ℕ) (o : Operation) → Surgery e f ps ws ls c o
      → total x y ls + hit x y (vertex e) (vertex f) + when (glues_b o) (hit x y (vertex f) c) + when (glues_a o) (hit x y c (vertex e))
      ≡ total x y ((e ∷ (f ∷ ps)) ∷ ws) + unless (glues_b o) (hit x y c (vertex f)) + unless (glues_a o) (hit x y (vertex e) c)
  total_step e f ps ws ls c New (on_new q) =
      let h = tally_append (f ∷ ps) (opened (vertex e) ∷ []) c in rw q (omega arith)
  total_step e f ps ws ls c Forward (on_forward p q qs sh k op l) = rw (l, sh, k) (omega arith)
  total_step e f ps ws ls c Backward (on_backward q qs p sh k op l) =
      let h = tally_append (f ∷ (q ∷ qs)) (p ∷ []) (vertex e) in rw (l, sh, k) (omega arith)
  total_step e f ps ws ls c Close (on_close p sh k op op' l) = rw (l, sh, k) (omega arith)
  total_step e f ps ws ls c (Split i) (on_split us p vs sh n lu lv k l) =
      let h = tally_append (f ∷ us) (p ∷ vs) (vertex e) in
      let g = total_shorter (opened (vertex p) ∷ (f ∷ us)) (opened (vertex e) ∷ (p ∷ vs)) ws in
      rw (l, g, sh, k) (omega arith)
  total_step e f ps ws ls c (Union w j) (on_union before us p vs behind sh n i k l) =
      let h = tally_append (f ∷ ps) (opened (vertex e) ∷ (p ∷ (vs ++ us))) (vertex p) in
      let g = tally_swap us (p ∷ vs) in
      let u = total_append before behind in
      let v = total_append before ((us ++ (p ∷ vs)) ∷ behind) in
      rw (l, sh, k) (omega arith)
  total_step e f ps ws ls c Rattle.rules.specs.declared.Operation.TheVariants.Border x'' = elim x'' [ ]
  total_step e f ps ws ls c Rattle.rules.specs.declared.Operation.TheVariants.Start x3 = elim x3 [ ]
