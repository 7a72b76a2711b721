-- The operation for a place of c is allowed by the table.
-- Assumes nothing.
use Prim.Native.Nat.{ℕ, suc, ◌+◌}
use native.Mathlib.Omega.{arith}
use mathlib.Core.Bool.{true, false}
use mathlib.Core.List.{List, [], ◌∷◌, ◌++◌}
use mathlib.Core.Path.{◌≡◌, refl, sym, ap, subst}
use lib.ListN.{length, drop, get_or, length-append}
use Rattle.rules.specs.declared.Triangle.{Triangle}
use Rattle.rules.specs.declared.Operation.{Operation}
use Rattle.rules.specs.declared.Operation.TheVariants.{Forward, Backward, Split, Close, Union}
use Rattle.rules.specs.Ring.{Node, opened, Ring, vertex, is_open, start_or, reached}
use Rattle.rules.specs.Choice.{operation_for}
use Rattle.book.proofs.Shown.{Stays}
use Rattle.choice_theory.specs.Spots.{Unused}
use Rattle.choice_theory.specs.Full.{fewer_first}
use Rattle.choice_theory.proofs.Places.Corners.{end_or, RingMarks, AllMarks}
use Rattle.choice_theory.proofs.Steps.Surgery.{Surgery, on_forward, on_backward, on_close, on_split, on_union}
use Rattle.choice_theory.proofs.Steps.Tally.{glues_a, glues_b}
use Rattle.choice_theory.proofs.Places.Elsewhere.{before_c, after_c}
use Rattle.choice_theory.proofs.Places.Sites.{mark_at, after_e, name_close, name_forward, name_backward, name_split}
use Rattle.counting.proofs.Bools.{not_false_true}

-- the operation for place i of ring l, which is place s of the ring shown, and the rings after it
pub record Allowed (e f : Node) (ps : List Node) (ws : List Ring) (c l i s x y : ℕ) : Type 0 where
  pub o : Operation
  pub ls : List Ring
  pub does : Surgery e f ps ws ls c o
  pub names : operation_for (reached (f ∷ ps) false) l s ≡ o
  pub enter : before_c does ≡ x
  pub leave : after_c does ≡ y
  -- the last place of the current ring, and the one after f
  pub last : l ≡ 0 → i + 1 ≡ suc (suc (length ps)) → glues_a o ≡ true
  pub second : l ≡ 0 → i ≡ 2 → glues_b o ≡ true

module _ (M : List Triangle) (e f : Node) (ps : List Node) (ws : List Ring) (p : Node)
    (c_b : Unused (vertex p) (vertex f) M → ⊥) (a_c : Unused (vertex e) (vertex p) M → ⊥) (live : is_open e ≡ true)
    (m : AllMarks M ((e ∷ (f ∷ ps)) ∷ ws)) where
  f_live : (vs : List Node) → ps ≡ p ∷ vs → is_open f ≡ true
  f_live vs h = not_false_true (is_open f)
      (λ g. c_b (mark_at M (vertex e) (e ∷ []) f (p ∷ vs) g (subst (λ (k : List Node). RingMarks M (e ∷ (f ∷ k))) h m.0)))

  p_live : (us : List Node) → ps ≡ us ++ (p ∷ []) → is_open p ≡ true
  p_live us h =
      not_false_true (is_open p)
      (λ g. a_c (mark_at M (vertex e) (e ∷ (f ∷ us)) p [] g (subst (λ (k : List Node). RingMarks M (e ∷ (f ∷ k))) h m.0)))

  in_ring : (us vs : List Node) → ps ≡ us ++ (p ∷ vs) → Stays (f ∷ us) p
      → Allowed e f ps ws (vertex p) 0 (suc (suc (length us))) (length (reached (e ∷ (f ∷ us)) false)) (end_or (vertex f) us)
      (start_or (vertex e) vs)
  in_ring [] [] h st = record {
    o = Close;
    ls = ws;
    does = on_close p h refl (f_live [] h) (p_live [] h) refl;
    names = rw h (name_close e f p live (f_live [] h) (p_live [] h));
    enter = refl;
    leave = refl;
    last = λ z w. refl;
    second = λ z w. refl;
  }
  in_ring [] (q ∷ qs) h st = record {
    o = Forward;
    ls = (opened (vertex e) ∷ (p ∷ (q ∷ qs))) ∷ ws;
    does = on_forward p q qs h refl (f_live (q ∷ qs) h) refl;
    names = rw h (name_forward e f p q qs live (f_live (q ∷ qs) h));
    enter = refl;
    leave = refl;
    last = λ z w. (let n : length ps ≡ suc (suc (length qs)) = ap length h in absurd (omega arith));
    second = λ z w. refl;
  }
  in_ring (q ∷ qs) [] h st =
      record {
        o = Backward;
        ls = (opened (vertex p) ∷ (f ∷ (q ∷ qs))) ∷ ws;
        does = on_backward q qs p h refl (p_live (q ∷ qs) h) refl;
        names =
            rw h (name_backward e f q qs p live (p_live (q ∷ qs) h));
        enter = refl;
        leave = refl;
        last = λ z w. refl;
        second = λ z w. absurd (omega arith);
      }
  in_ring (q ∷ qs) (v ∷ vs) h st =
      let n : length ((q ∷ qs) ++ (p ∷ (v ∷ vs))) ≡ length (q ∷ qs) + suc (suc (length vs)) = length-append (q ∷ qs) (p ∷ (v ∷ vs)) in
      record {
        o = Split (length (reached (f ∷ (q ∷ qs)) false));
        ls = fewer_first (opened (vertex p) ∷ (f ∷ (q ∷ qs))) (opened (vertex e) ∷ (p ∷ (v ∷ vs))) ws;
        does = on_split (q ∷ qs) p (v ∷ vs) h (refl, st) (omega arith) (omega arith) refl refl;
        names =
            rw h (name_split e f (q ∷ qs) p (v ∷ vs) live st (omega arith) (omega arith));
        enter = refl;
        leave = refl;
        last = λ z w. (let k : length ps ≡ length ((q ∷ qs) ++ (p ∷ (v ∷ vs))) = ap length h in absurd (omega arith));
        second = λ z w. absurd (omega arith);
      }

  -- c has none of the two places at the current edge
  pub allowed_at : (vertex p ≡ vertex e → ⊥) → (vertex p ≡ vertex f → ⊥) → (before : List Ring) (us vs : List Node) (behind : List Ring)
      → (e ∷ (f ∷ ps)) ∷ ws ≡ before ++ ((us ++ (p ∷ vs)) ∷ behind) → Stays us p
      → Allowed e f ps ws (vertex p) (length before) (length us) (length (reached us false)) (end_or (end_or (vertex p) vs) us)
      (start_or (start_or (vertex p) us) vs)
  allowed_at ne nf [] [] vs behind h st = absurd (ne (ap (λ (k : List Ring). vertex (get_or (get_or k 0 []) 0 (opened 0))) (sym h)))
  allowed_at ne nf [] (u ∷ []) vs behind h st = absurd (nf (ap (λ (k : List Ring). vertex (get_or (get_or k 0 []) 1 (opened 0))) (sym h)))
  allowed_at ne nf [] (u ∷ (v ∷ us)) vs behind h st =
      let eu : e ≡ u = ap (λ (k : List Ring). get_or (get_or k 0 []) 0 (opened 0)) h in
      let fv : f ≡ v = ap (λ (k : List Ring). get_or (get_or k 0 []) 1 (opened 0)) h in
      subst (λ (w : Node). Allowed e f ps ws (vertex p) 0 (suc (suc (length us))) (length (reached (w ∷ (v ∷ us)) false))
      (end_or (vertex v) us) (start_or (vertex w) vs)) eu
      (subst (λ (w : Node). Allowed e f ps ws (vertex p) 0 (suc (suc (length us))) (length (reached (e ∷ (w ∷ us)) false))
      (end_or (vertex w) us) (start_or (vertex e) vs)) fv
      (in_ring us vs (ap (λ (k : List Ring). drop 2 (get_or k 0 [])) h)
      (subst (λ (w : Node). Stays (w ∷ us) p) (sym fv) (after_e u v us p st))))
  allowed_at ne nf (w ∷ before) us vs behind h st = record {
    o = Union (suc (length before)) (length (reached us false));
    ls = (opened (vertex p) ∷ (f ∷ (ps ++ (opened (vertex e) ∷ (p ∷ (vs ++ us)))))) ∷ (before ++ behind);
    does = on_union before us p vs behind (ap (λ (k : List Ring). drop 1 k) h) refl (refl, st) refl refl;
    names = refl;
    enter = refl;
    leave = refl;
    last = λ z w. absurd (omega arith);
    second = λ z w. absurd (omega arith);
  }
