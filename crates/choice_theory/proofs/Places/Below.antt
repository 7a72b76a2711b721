-- The vertices of the loops have numbers below the next unused one, and an operation keeps that.
-- Assumes nothing.
use Prim.Native.Nat.{ℕ, ◌+◌, ◌≤◌, ◌<◌}
use native.Mathlib.Omega.{arith}
use mathlib.Core.List.{List, [], ◌∷◌, ◌++◌}
use mathlib.Core.Path.{◌≡◌, refl, subst}
use Rattle.rules.specs.declared.Operation.{Operation}
use Rattle.rules.specs.declared.Operation.TheVariants.{New, Forward, Backward, Split, Close, Union}
use Rattle.rules.specs.Ring.{Node, opened, marked, Ring, vertex}
use Rattle.book.specs.Numbers.{NodesBelow, LoopsBelow}
use Rattle.book.proofs.Numbers.{below_append, below_onward, below_wider, below_order}
use Rattle.choice_theory.specs.Full.{with_ring, new_numbers}
use Rattle.choice_theory.proofs.Steps.Surgery.{after_border, Surgery, on_new, on_forward, on_backward, on_close, on_split, on_union}

module _ (u : ℕ) where
  below_split : (us vs : List Node) → NodesBelow u (us ++ vs) → NodesBelow u us × NodesBelow u vs
  below_split [] vs a = (tt, a)
  below_split (p ∷ us) vs a = let r = below_split us vs a.1 in ((a.0, r.0), r.1)

  all_append : (us vs : List Ring) → LoopsBelow u us → LoopsBelow u vs → LoopsBelow u (us ++ vs)
  all_append [] vs a b = b
  all_append (l ∷ us) vs a b = (a.0, all_append us vs a.1 b)

  all_split : (us vs : List Ring) → LoopsBelow u (us ++ vs) → LoopsBelow u us × LoopsBelow u vs
  all_split [] vs a = (tt, a)
  all_split (l ∷ us) vs a = let r = all_split us vs a.1 in ((a.0, r.0), r.1)

-- the third corner is below the next unused number, and all places are
module _ (e f : Node) (ps : List Node) (ws ls : List Ring) (c u : ℕ) where
  below_old : (v : ℕ) → u ≤ v → (c < u) × LoopsBelow u ls → (c < v) × LoopsBelow v ls
  below_old v h r = (let k = r.0 in omega arith, below_wider u v h ls r.1)

  pub below_step : (o : Operation) → Surgery e f ps ws ls c o → (o ≡ New → c ≡ u) → LoopsBelow u ((e ∷ (f ∷ ps)) ∷ ws)
      → (c < u + new_numbers o) × LoopsBelow (u + new_numbers o) ls
  below_step New (on_new q) n a =
      let k = n refl in
      let b = below_wider u (u + 1) (omega arith) ((e ∷ (f ∷ ps)) ∷ ws) a in
      (omega arith, rw q ((omega arith, (b.0.1.0, below_append (u + 1) ps (opened (vertex e) ∷ []) b.0.1.1 (b.0.0, tt))), b.1))
  below_step Forward (on_forward p q qs sh k op l) n a =
      let b = subst (NodesBelow u) sh a.0.1.1 in below_old (u + 0) (omega arith) (rw k b.0, rw l ((a.0.0, b), a.1))
  below_step Backward (on_backward q qs p sh k op l) n a =
      let b = below_split u (q ∷ qs) (p ∷ []) (subst (NodesBelow u) sh a.0.1.1) in
      below_old (u + 0) (omega arith) (rw k b.1.0, rw l ((b.1.0, (a.0.1.0, b.0)), a.1))
  below_step Close (on_close p sh k op op' l) n a =
      let b = subst (NodesBelow u) sh a.0.1.1 in below_old (u + 0) (omega arith) (rw k b.0, rw l a.1)
  below_step (Split i) (on_split us p vs sh m lu lv k l) n a =
      let b = below_split u us (p ∷ vs) (subst (NodesBelow u) sh a.0.1.1) in
      below_old (u + 0) (omega arith) (
        rw k b.1.0,
        rw l (below_order u _ (opened (vertex p) ∷ (f ∷ us)) (opened (vertex e) ∷ (p ∷ vs)) ws (b.1.0, (a.0.1.0, b.0)) (a.0.0, b.1)
            a.1),
      )
  below_step (Union w j) (on_union before us p vs behind sh m i k l) n a =
      let r = all_split u before ((us ++ (p ∷ vs)) ∷ behind) (subst (LoopsBelow u) sh a.1) in
      let b = below_split u us (p ∷ vs) r.1.0 in
      below_old (u + 0) (omega arith) (
        rw k b.1.0,
        rw l (
          (
            b.1.0,
            (
              a.0.1.0,
              below_append u ps (opened (vertex e) ∷ (p ∷ (vs ++ us))) a.0.1.1
                  (a.0.0, (b.1.0, below_append u vs us b.1.1 b.0)),
            ),
          ),
          all_append u before behind r.0 r.1.1,
        ),
      )
  below_step Rattle.rules.specs.declared.Operation.TheVariants.Border x3 n a = elim x3 [ ]
  below_step Rattle.rules.specs.declared.Operation.TheVariants.Start x4 n a = elim x4 [ ]

with_below : (u : ℕ) (r : List Node) (ws : List Ring) → NodesBelow u r → LoopsBelow u ws → LoopsBelow u (with_ring r ws)
with_below u [] ws h k = k
with_below u (p ∷ r) ws h k = (h, k)

pub below_border : (u : ℕ) (e f : Node) (ps : List Node) (ws : List Ring) → LoopsBelow u ((e ∷ (f ∷ ps)) ∷ ws)
    → LoopsBelow u (with_ring (after_border e f ps) ws)
below_border u e f ps ws a =
    with_below u (after_border e f ps) ws
    (below_onward u [] (f ∷ (ps ++ (marked (vertex e) ∷ []))) tt (below_append u (f ∷ ps) (marked (vertex e) ∷ []) a.0.1 (a.0.0, tt)))
    a.1
