-- How often an edge stands marked in the rings, and how the operations change that.
-- Assumes nothing.
use Prim.Native.Nat.{ℕ, ◌+◌, ◌≤◌}
use native.Mathlib.Omega.{arith}
use mathlib.Core.Bool.{Bool, true, false, false≢true}
use mathlib.Core.List.{List, [], ◌∷◌, ◌++◌}
use mathlib.Core.Path.{◌≡◌, refl, sym, ap, ◌∙◌}
use Rattle.rules.specs.declared.Operation.{Operation}
use Rattle.rules.specs.declared.Operation.TheVariants.{New, Forward, Backward, Split, Close, Union}
use Rattle.rules.specs.Count.{hit}
use Rattle.rules.specs.Ring.{Node, opened, marked, Ring, vertex, is_open, start_or}
use Rattle.rules.specs.Table.{in_order}
use Rattle.choice_theory.specs.Full.{fewer, fewer_first, with_ring}
use Rattle.choice_theory.proofs.Steps.Surgery.{after_border, Surgery, on_new, on_forward, on_backward, on_close, on_split, on_union}
use Rattle.choice_theory.proofs.Steps.Tally.{tally, total, unless}
use Rattle.choice_theory.proofs.Places.Rings.{append_none}
use Rattle.choice_theory.proofs.Places.Onward.{Turned, turned_ring}
use Rattle.choice_theory.proofs.Steps.Bordering.{with_rim, rim_of}

-- how often an edge stands marked in the rings
abbrev pub mark : ℕ → ℕ → List Node → ℕ → ℕ
mark x y [] z = 0
mark x y (p ∷ ps) z = unless (is_open p) (hit x y (vertex p) (start_or z ps)) + mark x y ps z

abbrev pub ring_mark : ℕ → ℕ → List Node → ℕ
ring_mark x y [] = 0
ring_mark x y (p ∷ ps) = mark x y (p ∷ ps) (vertex p)

abbrev pub all_mark : ℕ → ℕ → List Ring → ℕ
all_mark x y [] = 0
all_mark x y (l ∷ ls) = ring_mark x y l + all_mark x y ls

unless_le : (g : Bool) (n : ℕ) → unless g n ≤ n
unless_le true n = omega arith
unless_le false n = omega arith

module _ (x y : ℕ) where
  mark_le : (ps : List Node) (z : ℕ) → mark x y ps z ≤ tally x y ps z
  mark_le [] z = omega arith
  mark_le (p ∷ ps) z = let h = mark_le ps z in let k = unless_le (is_open p) (hit x y (vertex p) (start_or z ps)) in omega arith

  pub all_le : (ls : List Ring) → all_mark x y ls ≤ total x y ls
  all_le [] = omega arith
  all_le ([] ∷ ls) = let h = all_le ls in omega arith
  all_le ((p ∷ ps) ∷ ls) = let h = all_le ls in let k = mark_le (p ∷ ps) (vertex p) in omega arith

  mark_append : (us vs : List Node) (z : ℕ) → mark x y (us ++ vs) z ≡ mark x y us (start_or z vs) + mark x y vs z
  mark_append [] vs z = omega arith
  mark_append (u ∷ []) vs z = omega arith
  mark_append (u ∷ (v ∷ us)) vs z = let h = mark_append (v ∷ us) vs z in omega arith

  mark_swap : (us vs : List Node) → ring_mark x y (us ++ vs) ≡ ring_mark x y (vs ++ us)
  mark_swap [] vs = ap (ring_mark x y) (sym (append_none vs))
  mark_swap (p ∷ us) [] = ap (ring_mark x y) (append_none (p ∷ us))
  mark_swap (p ∷ us) (q ∷ vs) =
      let h = mark_append (p ∷ us) (q ∷ vs) (vertex p) in let k = mark_append (q ∷ vs) (p ∷ us) (vertex q) in omega arith

  all_append : (us vs : List Ring) → all_mark x y (us ++ vs) ≡ all_mark x y us + all_mark x y vs
  all_append [] vs = omega arith
  all_append (u ∷ us) vs = let h = all_append us vs in omega arith

  all_shorter : (a b : List Node) (ws : List Ring)
      → all_mark x y (fewer_first a b ws) ≡ ring_mark x y a + (ring_mark x y b + all_mark x y ws)
  unfolding in_order
  all_shorter a b ws = go (fewer a b)
    where
      go : (t : Bool) → all_mark x y (in_order t a b ws) ≡ ring_mark x y a + (ring_mark x y b + all_mark x y ws)
      go true = refl
      go false = omega arith

  opened_none : (g : Bool) (n : ℕ) → g ≡ true → unless g n ≡ 0
  opened_none true n h = refl
  opened_none false n h = absurd (false≢true h)

  -- an operation that builds leaves the marked edges
  pub mark_step : (e f : Node) (ps : List Node) (ws ls : List Ring) (c : ℕ) (o : Operation) → is_open e ≡ true → Surgery e f ps ws ls c o
      → all_mark x y ls ≡ all_mark x y ((e ∷ (f ∷ ps)) ∷ ws)
  mark_step e f ps ws ls c New v (on_new q) =
      let h = mark_append (f ∷ ps) (opened (vertex e) ∷ []) c in
      let g = opened_none (is_open e) (hit x y (vertex e) (vertex f)) v in rw q (omega arith)
  mark_step e f ps ws ls c Forward v (on_forward p q qs sh k op l) =
      let g = opened_none (is_open e) (hit x y (vertex e) (vertex f)) v in
      let g2 = opened_none (is_open f) (hit x y (vertex f) (vertex p)) op in rw (l, sh) (omega arith)
  mark_step e f ps ws ls c Backward v (on_backward q qs p sh k op l) =
      let g = opened_none (is_open e) (hit x y (vertex e) (vertex f)) v in
      let g2 = opened_none (is_open p) (hit x y (vertex p) (vertex e)) op in
      let h = mark_append (f ∷ (q ∷ qs)) (p ∷ []) (vertex e) in rw (l, sh) (omega arith)
  mark_step e f ps ws ls c Close v (on_close p sh k op op' l) =
      let g = opened_none (is_open e) (hit x y (vertex e) (vertex f)) v in
      let g2 = opened_none (is_open f) (hit x y (vertex f) (vertex p)) op in
      let g3 = opened_none (is_open p) (hit x y (vertex p) (vertex e)) op' in rw (l, sh) (omega arith)
  mark_step e f ps ws ls c (Split i) v (on_split us p vs sh n lu lv k l) =
      let g = opened_none (is_open e) (hit x y (vertex e) (vertex f)) v in
      let h = mark_append (f ∷ us) (p ∷ vs) (vertex e) in
      let m = all_shorter (opened (vertex p) ∷ (f ∷ us)) (opened (vertex e) ∷ (p ∷ vs)) ws in
      rw (l, m, sh) (omega arith)
  mark_step e f ps ws ls c (Union w j) v (on_union before us p vs behind sh n i k l) =
      let g = opened_none (is_open e) (hit x y (vertex e) (vertex f)) v in
      let h = mark_append (f ∷ ps) (opened (vertex e) ∷ (p ∷ (vs ++ us))) (vertex p) in
      let m = mark_swap us (p ∷ vs) in
      let u = all_append before behind in
      let t = all_append before ((us ++ (p ∷ vs)) ∷ behind) in
      rw (l, sh) (omega arith)
  mark_step e f ps ws ls c Rattle.rules.specs.declared.Operation.TheVariants.Border v x3 = elim x3 [ ]
  mark_step e f ps ws ls c Rattle.rules.specs.declared.Operation.TheVariants.Start v x4 = elim x4 [ ]

  mark_turned : (ps r : List Node) → Turned ps r → ring_mark x y r ≡ ring_mark x y ps
  mark_turned ps r t = ap (ring_mark x y) t.turned ∙ (mark_swap (opened t.v ∷ t.vs) t.us ∙ ap (ring_mark x y) (sym t.whole))

  -- border marks a→b and leaves the others
  pub mark_border : (e f : Node) (ps : List Node) (ws rims : List Ring) → is_open e ≡ true → (r : List Node) → after_border e f ps ≡ r
      → all_mark x y (with_ring r ws) + all_mark x y (with_rim r (rim_of e f ps) rims)
      ≡ all_mark x y ((e ∷ (f ∷ ps)) ∷ ws) + all_mark x y rims + hit x y (vertex e) (vertex f)
  mark_border e f ps ws rims v [] h =
      let g = opened_none (is_open e) (hit x y (vertex e) (vertex f)) v in
      let k = mark_append (f ∷ ps) (marked (vertex e) ∷ []) (vertex f) in omega arith
  mark_border e f ps ws rims v (p ∷ r) h =
      let g = opened_none (is_open e) (hit x y (vertex e) (vertex f)) v in
      let k = mark_append (f ∷ ps) (marked (vertex e) ∷ []) (vertex f) in
      let m = mark_turned (rim_of e f ps) (p ∷ r) (turned_ring (rim_of e f ps) p r h) in
      omega arith
