-- Marked edges keep having no other side; a ring all of whose edges are marked is a rim.
-- Assumes nothing.
use Prim.Native.Nat.{ℕ, ◌+◌}
use mathlib.Core.Bool.{Bool, true, false, false≢true}
use mathlib.Core.List.{List, [], ◌∷◌, ◌++◌}
use mathlib.Core.Path.{◌≡◌, sym, subst}
use mathlib.Core.Logic.{◌⊎◌, inl, inr}
use Rattle.rules.specs.declared.Triangle.{Triangle}
use Rattle.rules.specs.declared.Operation.{Operation}
use Rattle.rules.specs.declared.Operation.TheVariants.{New, Forward, Backward, Split, Close, Union}
use Rattle.rules.specs.Ring.{Node, opened, marked, Ring, vertex, start_or, onward}
use Rattle.rules.specs.Table.{in_order}
use Rattle.book.proofs.Closed.{Closed}
use Rattle.choice_theory.specs.Spots.{Unused}
use Rattle.choice_theory.specs.Full.{fewer, fewer_first}
use Rattle.choice_theory.proofs.Turning.Turn.{rest, jump}
use Rattle.choice_theory.proofs.Places.Corners.{end_or, Along, Around, Marks, RingMarks, AllMarks, Filled}
use Rattle.choice_theory.proofs.Steps.Surgery.{Surgery, on_new, on_forward, on_backward, on_close, on_split, on_union}
use Rattle.choice_theory.proofs.Places.Rings.{append_none, ring_swap}
use Rattle.choice_theory.proofs.Places.Sites.{all_marks_split}
use Rattle.choice_theory.proofs.Places.Onward.{Turned, onward_cases}

module _ (M : List Triangle) where
  pub marks_append : (us vs : List Node) (y : ℕ) → Marks M us (start_or y vs) → Marks M vs y → Marks M (us ++ vs) y
  marks_append [] vs y l m = m
  marks_append (u ∷ []) vs y l m = (l.0, m)
  marks_append (u ∷ (v ∷ us)) vs y l m = (l.0, marks_append (v ∷ us) vs y l.1 m)

  pub marks_split : (us vs : List Node) (y : ℕ) → Marks M (us ++ vs) y → Marks M us (start_or y vs) × Marks M vs y
  marks_split [] vs y l = (tt, l)
  marks_split (u ∷ []) vs y l = ((l.0, tt), l.1)
  marks_split (u ∷ (v ∷ us)) vs y l = let r = marks_split (v ∷ us) vs y l.1 in ((l.0, r.0), r.1)

  pub marks_swap : (us vs : List Node) → RingMarks M (us ++ vs) → RingMarks M (vs ++ us)
  marks_swap [] vs r = subst (RingMarks M) (sym (append_none vs)) r
  marks_swap (p ∷ us) [] r = subst (RingMarks M) (append_none (p ∷ us)) r
  marks_swap (p ∷ us) (q ∷ vs) r =
      let h = marks_split (p ∷ us) (q ∷ vs) (vertex p) r in marks_append (q ∷ vs) (p ∷ us) (vertex q) h.1 h.0

  unmarked : {A : Type 0} → true ≡ false → A
  unmarked h = absurd (false≢true (sym h))

  pub all_marks_append : (us vs : List Ring) → AllMarks M us → AllMarks M vs → AllMarks M (us ++ vs)
  all_marks_append [] vs r s = s
  all_marks_append (u ∷ us) vs r s = (r.0, all_marks_append us vs r.1 s)

  marks_shorter : (a b : List Node) (ws : List Ring) → RingMarks M a → RingMarks M b → AllMarks M ws → AllMarks M (fewer_first a b ws)
  unfolding in_order
  marks_shorter a b ws h k m = go (fewer a b)
    where
      go : (t : Bool) → AllMarks M (in_order t a b ws)
      go true = (h, (k, m))
      go false = (k, (h, m))

  -- an operation that builds makes no marks
  pub marks_step : (e f : Node) (ps : List Node) (ws ls : List Ring) (c : ℕ) (o : Operation) → Surgery e f ps ws ls c o
      → AllMarks M ((e ∷ (f ∷ ps)) ∷ ws) → AllMarks M ls
  marks_step e f ps ws ls c New (on_new q) m =
      rw q ((unmarked, marks_append (f ∷ ps) (opened (vertex e) ∷ []) c m.0.1 (unmarked, tt)), m.1)
  marks_step e f ps ws ls c Forward (on_forward p q qs sh k op l) m =
      let m' = subst (λ (w : List Node). RingMarks M (e ∷ (f ∷ w))) sh m.0 in
      rw l ((unmarked, m'.1.1), m.1)
  marks_step e f ps ws ls c Backward (on_backward q qs p sh k op l) m =
      let m' = subst (λ (w : List Node). RingMarks M (e ∷ (f ∷ w))) sh m.0 in
      rw l ((unmarked, (marks_split (f ∷ (q ∷ qs)) (p ∷ []) (vertex e) m'.1).0), m.1)
  marks_step e f ps ws ls c Close (on_close p sh k op op' l) m = rw l m.1
  marks_step e f ps ws ls c (Split i) (on_split us p vs sh n lu lv k l) m =
      let m' = subst (λ (w : List Node). RingMarks M (e ∷ (f ∷ w))) sh m.0 in
      let h = marks_split (f ∷ us) (p ∷ vs) (vertex e) m'.1 in
      rw l (marks_shorter (opened (vertex p) ∷ (f ∷ us)) (opened (vertex e) ∷ (p ∷ vs)) ws (unmarked, h.0) (unmarked, h.1) m.1)
  marks_step e f ps ws ls c (Union w j) (on_union before us p vs behind sh n i k l) m =
      let m' = all_marks_split M before ((us ++ (p ∷ vs)) ∷ behind) (subst (AllMarks M) sh m.1) in
      rw l (
        (
          unmarked,
          marks_append (f ∷ ps) (opened (vertex e) ∷ (p ∷ (vs ++ us))) (vertex p) m.0.1
              (unmarked, marks_swap us (p ∷ vs) m'.1.0),
        ),
        all_marks_append before behind m'.0 m'.1.1,
      )
  marks_step e f ps ws ls c Rattle.rules.specs.declared.Operation.TheVariants.Border x'' m = elim x'' [ ]
  marks_step e f ps ws ls c Rattle.rules.specs.declared.Operation.TheVariants.Start x3 m = elim x3 [ ]

  -- marking the current edge, which has no other side
  pub marks_border : (e f : Node) (ps : List Node) → Unused (vertex f) (vertex e) M → RingMarks M (e ∷ (f ∷ ps))
      → RingMarks M (f ∷ (ps ++ (marked (vertex e) ∷ [])))
  marks_border e f ps n m = marks_append (f ∷ ps) (marked (vertex e) ∷ []) (vertex f) m.1 ((λ h. n), tt)

  -- turning a ring to its next open edge
  pub marks_open : (ps : List Node) → RingMarks M ps → RingMarks M (onward [] ps)
  marks_open ps m = go (onward_cases ps)
    where
      go : ((onward [] ps ≡ []) × Closed ps) ⊎ Turned ps (onward [] ps) → RingMarks M (onward [] ps)
      go (inl r) = subst (RingMarks M) (sym r.0) tt
      go (inr t) = subst (RingMarks M) (sym t.turned) (marks_swap t.us (opened t.v ∷ t.vs) (subst (RingMarks M) t.whole m))

-- what holds of a ring turned to its next open edge held before
pub ring_back : (Q : ℕ → ℕ → ℕ → Type 0) (ps r : List Node) → Turned ps r → Around Q r → Around Q ps
ring_back Q ps r t h = subst (Around Q) (sym t.whole) (ring_swap Q (opened t.v ∷ t.vs) t.us (subst (Around Q) t.turned h))

-- each place of a rim is a jump
rim_seg : (M R : List Triangle) (x : ℕ) (p : Node) (ps : List Node) (y : ℕ) → Unused (vertex p) x M → Closed (p ∷ ps) → Marks M (p ∷ ps) y
    → Along (Filled M R) x (p ∷ ps) y
rim_seg M R x p [] y f c m = (jump f (m.0 c.0) rest, tt)
rim_seg M R x p (q ∷ ps) y f c m = (jump f (m.0 c.0) rest, rim_seg M R (vertex p) q ps y (m.0 c.0) c.1 m.1)

last_free : (M : List Triangle) (p : Node) (ps : List Node) (y : ℕ) → Closed (p ∷ ps) → Marks M (p ∷ ps) y
    → Unused y (end_or (vertex p) ps) M
last_free M p [] y c m = m.0 c.0
last_free M p (q ∷ ps) y c m = last_free M q ps y c.1 m.1

pub rim : (M R : List Triangle) (ps : List Node) → Closed ps → RingMarks M ps → Around (Filled M R) ps
rim M R [] c m = tt
rim M R (p ∷ ps) c m = rim_seg M R (end_or (vertex p) ps) p ps (vertex p) (last_free M p ps (vertex p) c m) c m
