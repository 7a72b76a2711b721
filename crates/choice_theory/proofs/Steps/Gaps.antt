-- Packing keeps the gaps: the whole step.
-- Assumes nothing.
use Prim.Native.Nat.{ℕ, zero, suc, ◌+◌, ◌-◌, ◌≤◌}
use native.Mathlib.Omega.{arith}
use mathlib.Core.Bool.{Bool, true, false, ◌&&◌}
use mathlib.Core.List.{List, ◌∷◌}
use mathlib.Core.Path.{◌≡◌, refl, sym, ◌∙◌, subst}
use lib.ListN.{length}
use lib.Dec.{eqb}
use Rattle.rules.specs.declared.Triangle.{Triangle}
use Rattle.rules.specs.declared.Operation.{Operation}
use Rattle.rules.specs.declared.Operation.TheVariants.{New, Forward, Backward, Split, Close}
use Rattle.rules.specs.Ring.{Node, Ring, vertex, first_open, all_open, last_open, start_or, reached}
use Rattle.rules.specs.Choice.{operation_for}
use Rattle.rules.specs.Fan.{Neighbours}
use Rattle.rules.specs.Triangle.{In}
use Rattle.choice_theory.proofs.Places.Corners.{end_or, Everywhere, Filled}
use Rattle.choice_theory.proofs.Places.Spots.{seat}
use Rattle.choice_theory.proofs.Steps.Surgery.{triangle_at, Surgery, on_new}
use Rattle.choice_theory.proofs.Steps.Tally.{total}
use Rattle.mesh_theory.proofs.Fans.Corners.{in_next}
use Rattle.choice_theory.proofs.Places.Rings.{rings_map}
use Rattle.choice_theory.proofs.Places.Ends.{spotted_holds}
use Rattle.choice_theory.proofs.Places.Exists.{Used, PlaceOf}
use Rattle.choice_theory.proofs.Runs.Canonical.{State}
use Rattle.choice_theory.proofs.Steps.Choice.{Packs}
use Rattle.choice_theory.proofs.Steps.Allowing.{Allowed}
use Rattle.choice_theory.proofs.Places.Elsewhere.{Kept, before_c, fore_step, is_new, op_not_new}
use Rattle.choice_theory.proofs.Steps.Keeping.{heir_e, heir_f, kept, Holds, at_place, new_gap, rings_zip}

place_op : (ps : List Node) (l i : ℕ) → is_new (operation_for ps l i) ≡ false
unfolding is_new
place_op ps zero i = go (eqb (suc (length ps)) 3 && all_open ps) (eqb i 2 && first_open ps) (eqb (i + 1) (suc (length ps)) && last_open ps)
  where
    go : (r s t : Bool)
        → is_new (elim r as (λ w. Operation) [
          | true ↦ Close
          | false ↦
              elim s as (λ w. Operation)
              [ true ↦ Forward | false ↦ elim t as (λ w. Operation) [ true ↦ Backward | false ↦ Split (i - 1) ] ]
        ]) ≡ false
    go true s t = refl
    go false true t = refl
    go false false true = refl
    go false false false = refl
place_op ps (suc l) i = refl

module _ (M R B : List Triangle) (e f : Node) (ps : List Node) (ws : List Ring) (c : ℕ)
    (pk : Packs M (triangle_at e f c ∷ R) B ((e ∷ (f ∷ ps)) ∷ ws)) (fan : Neighbours M c)
    (one : (u v : ℕ) → total u v ((e ∷ (f ∷ ps)) ∷ ws) ≤ 1) where
  st : State M (triangle_at e f c ∷ R) B ((e ∷ (f ∷ ps)) ∷ ws)
  st = pk.state

  cur : (z : ℕ) × In (vertex e) (vertex f) z B
  unfolding st
  cur = st.used.0.0.1

  -- after the operation at the place of c
  pub gaps_place : (n : PlaceOf M R ((e ∷ (f ∷ ps)) ∷ ws) (vertex e) (vertex f) c)
      (al : Allowed e f ps ws c n.ring n.at (seat n.spot) n.x n.y)
      → Everywhere (Filled M R) al.ls
  unfolding st
  gaps_place n al =
      fore_step (Filled M R) e f ps ws al.ls c al.o al.does
      (subst (λ (v : ℕ). Everywhere (Kept (Filled M R) (vertex e) (vertex f) c (before_c al.does) v) ((e ∷ (f ∷ ps)) ∷ ws))
      (sym al.leave)
      (subst (λ (v : ℕ). Everywhere (Kept (Filled M R) (vertex e) (vertex f) c v n.y) ((e ∷ (f ∷ ps)) ∷ ws)) (sym al.enter)
      (rings_map (kept M R B e f c ((e ∷ (f ∷ ps)) ∷ ws) pk fan cur n.x n.y
      (at_place M R B e f c ((e ∷ (f ∷ ps)) ∷ ws) pk fan cur n.x n.y holds))
      ((e ∷ (f ∷ ps)) ∷ ws) (rings_zip (Filled M (triangle_at e f c ∷ R)) (Used B) ((e ∷ (f ∷ ps)) ∷ ws) pk.gaps st.used))))
      one
      (heir_e M R B e f c ((e ∷ (f ∷ ps)) ∷ ws) pk fan cur (end_or (vertex f) ps) pk.gaps.0.0 st.used.0.0)
      (heir_f M R B e f c ((e ∷ (f ∷ ps)) ∷ ws) pk fan cur (start_or (vertex e) ps) pk.gaps.0.1.0 st.used.0.1.0)
      (λ q. absurd (op_not_new (operation_for (reached (f ∷ ps) false) n.ring (seat n.spot))
      (place_op (reached (f ∷ ps) false) n.ring (seat n.spot)) (al.names ∙ q)))
      (λ q. (
        subst (λ (v : ℕ). Filled M R v c (vertex f)) (sym al.enter) n.back,
        subst (λ (v : ℕ). Filled M R (vertex e) c v) (sym al.leave) n.on,
      ))
    where
      holds : Holds M R B e f c ((e ∷ (f ∷ ps)) ∷ ws) pk fan cur n.x n.y
      holds = record { used = spotted_holds (Used B) n.spot st.used; back = n.back; on = n.on }

  -- after new, at a vertex with no built triangle
  pub gaps_new : ((m n : ℕ) → In c m n B → ⊥) → ((u v : ℕ) → 1 ≤ total u v ((e ∷ (f ∷ ps)) ∷ ws) → (z : ℕ) × In u v z B)
      → (ls : List Ring) → Surgery e f ps ws ls c New → Everywhere (Filled M R) ls
  unfolding st
  gaps_new none uses ls (on_new q) =
      fore_step (Filled M R) e f ps ws ls c New (on_new q)
      (rings_map (kept M R B e f c ((e ∷ (f ∷ ps)) ∷ ws) pk fan cur 0 0 (λ x y h u. absurd (none u.0.0 x (in_next u.0.1))))
      ((e ∷ (f ∷ ps)) ∷ ws) (rings_zip (Filled M (triangle_at e f c ∷ R)) (Used B) ((e ∷ (f ∷ ps)) ∷ ws) pk.gaps st.used))
      one
      (heir_e M R B e f c ((e ∷ (f ∷ ps)) ∷ ws) pk fan cur (end_or (vertex f) ps) pk.gaps.0.0 st.used.0.0)
      (heir_f M R B e f c ((e ∷ (f ∷ ps)) ∷ ws) pk fan cur (start_or (vertex e) ps) pk.gaps.0.1.0 st.used.0.1.0)
      (λ z. (
        new_gap M R B e f c ((e ∷ (f ∷ ps)) ∷ ws) pk fan cur none,
        zero_of _ (uses 0 c) (λ v. none v.0 0 (in_next v.1)),
        zero_of
            _ (uses c 0) (λ v. none 0 v.0 v.1),
      ))
      (λ z. absurd (z refl))
    where
      zero_of : {A : Type 0} (n : ℕ) → (1 ≤ n → A) → (A → ⊥) → n ≡ 0
      zero_of zero h k = refl
      zero_of (suc n) h k = absurd (k (h (omega arith)))
