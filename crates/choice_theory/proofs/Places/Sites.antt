-- The place that an operation names, as the packer sees it.
-- Assumes nothing.
use Prim.Native.Nat.{ℕ, zero, suc, ◌+◌, ◌-◌, ◌≤◌, ◌<◌}
use native.Mathlib.Omega.{arith}
use native.Mathlib.Numerals.{add-one}
use mathlib.Core.Bool.{Bool, true, false, ◌&&◌, not, false≢true}
use mathlib.Core.List.{List, [], ◌∷◌, ◌++◌, append_assoc}
use mathlib.Core.Path.{◌≡◌, refl, sym, ap, ap₂, ◌∙◌, subst}
use mathlib.Core.Logic.{◌⊎◌, inl, inr}
use lib.ListN.{length, length-append}
use lib.Dec.{eqb}
use borrow.Author.Tests.{eqb-true, eq-eqb, ne_eqb}
use Rattle.rules.specs.declared.Triangle.{Triangle}
use Rattle.rules.specs.declared.Operation.{Operation}
use Rattle.rules.specs.declared.Operation.TheVariants.{New, Forward, Backward, Split, Close, Union}
use Rattle.rules.specs.Ring.{Node, opened, marked, Ring, vertex, is_open, all_open, start_or, last_open, loop_at, reached, shown}
use Rattle.rules.specs.Choice.{operation_for, size_of, following}
use Rattle.rules.specs.Right.{EdgeIn, OpenAt}
use Rattle.book.specs.Shown.{shown_all}
use Rattle.book.proofs.Shown.{ends, Stays, Live, reached_first, reached_cut, reached_some, all_shown_append, all_shown_length, live_split}
use Rattle.book.proofs.Shown.{shown_live, waiting_shown, start_same, start_shown}
use Rattle.choice_theory.specs.Spots.{Unused}
use Rattle.choice_theory.proofs.Places.Corners.{end_or, Everywhere, Marks, RingMarks, AllMarks, Filled}
use Rattle.choice_theory.proofs.Steps.Surgery.{Surgery, on_new, on_forward, on_backward, on_close, on_split, on_union}
use Rattle.choice_theory.proofs.Places.Spots.{Site, Spotted, seat}
use Rattle.choice_theory.proofs.Places.Rings.{last_append}
use Rattle.choice_theory.proofs.Steps.Effects.{and_none, last_open_lem, not_forward, not_backward, shown_forward, shown_backward}
use Rattle.choice_theory.proofs.Steps.Effects.{shown_cut}
use Rattle.choice_theory.proofs.Places.Back.{Heirs, heirs_forward, heirs_backward, heirs_close, heirs_split, heirs_union}
use Rattle.choice_theory.proofs.Runs.Fate.{more, joined, none, at_a, at_b, at_c, rings_shorter}
use Rattle.counting.proofs.Bools.{and_both}
use Rattle.book.proofs.Sums.{start_append}

-- the edge from a place q of a ring is open or marked
edge_at : (first : ℕ) (us : List Node) (q : Node) (vs : List Node) → is_open q ≡ true
    → EdgeIn first (us ++ (q ∷ vs)) (length us) (vertex q) (start_or first vs)
edge_at first [] q vs h = (h, refl, refl)
edge_at first (u ∷ us) q vs h = edge_at first us q vs h

pub mark_at : (M : List Triangle) (y : ℕ) (us : List Node) (q : Node) (vs : List Node) → is_open q ≡ false → Marks M (us ++ (q ∷ vs)) y
    → Unused (start_or y vs) (vertex q) M
mark_at M y [] q vs h m = m.0 h
mark_at M y (u ∷ us) q vs h m = mark_at M y us q vs h m.1

ring_marks : (M : List Triangle) (l : List Node) → RingMarks M l → Marks M l (start_or 0 l)
ring_marks M [] m = tt
ring_marks M (p ∷ ps) m = m

status : (M : List Triangle) (l us : List Node) (q : Node) (vs : List Node) (y : ℕ) → l ≡ us ++ (q ∷ vs) → start_or (start_or 0 l) vs ≡ y
    → RingMarks M l
    → Unused y (vertex q) M ⊎ EdgeIn (start_or 0 l) l (length us) (vertex q) y
status M l us q vs y e n m = go (is_open q) refl
  where
    marks : Marks M (us ++ (q ∷ vs)) (start_or 0 l)
    marks = subst (λ (k : List Node). Marks M k (start_or 0 l)) e (ring_marks M l m)

    go : (t : Bool) → is_open q ≡ t → Unused y (vertex q) M ⊎ EdgeIn (start_or 0 l) l (length us) (vertex q) y
    go true h =
        inr (subst (λ (w : ℕ). EdgeIn (start_or 0 l) l (length us) (vertex q) w) n
        (subst (λ (k : List Node). EdgeIn (start_or 0 l) k (length us) (vertex q) (start_or (start_or 0 l) vs)) (sym e)
        (edge_at (start_or 0 l) us q vs h)))
    go false h = inl (subst (λ (w : ℕ). Unused w (vertex q) M) n (mark_at M (start_or 0 l) us q vs h marks))

open_at : (before : List Ring) (l : List Node) (behind : List Ring) (i x y : ℕ) → EdgeIn (start_or 0 l) l i x y
    → OpenAt (before ++ (l ∷ behind)) (length before) i x y
open_at [] l behind i x y h = h
open_at (b ∷ before) l behind i x y h = open_at before l behind i x y h

loop_len : (before : List Ring) (l : List Node) (behind : List Ring) → size_of (before ++ (l ∷ behind)) (length before) ≡ length l
unfolding loop_at
loop_len [] l behind = refl
loop_len (b ∷ before) l behind = loop_len before l behind

pub first_append : (x : ℕ) (us : List Node) (p : Node) (vs : List Node) → start_or x (us ++ (p ∷ vs)) ≡ start_or (vertex p) us
first_append x [] p vs = refl
first_append x (u ∷ us) p vs = refl

abbrev Snoc : List Node → Type 0
Snoc us = (us ≡ []) ⊎ ((fs : List Node) × (q : Node) × (us ≡ fs ++ (q ∷ [])))

snoc : (us : List Node) → Snoc us
snoc [] = inl refl
snoc (u ∷ us) = inr (go (snoc us))
  where
    go : Snoc us → (fs : List Node) × (q : Node) × (u ∷ us ≡ fs ++ (q ∷ []))
    go (inl e) = ([], u, ap (λ (k : List Node). u ∷ k) e)
    go (inr r) = (u ∷ r.0, r.1, ap (λ (k : List Node). u ∷ k) r.2)

after_next : (k i : ℕ) → suc i < k → following k i ≡ suc i
after_next k i h = rw (following, ne_eqb (i + 1) k (omega arith)) (add-one i)

after_last : (k i : ℕ) → suc i ≡ k → following k i ≡ 0
after_last k i h = rw (following, eq-eqb (i + 1) k (omega arith)) refl

-- any place of any ring
pub site : (M : List Triangle) (before : List Ring) (us : List Node) (p : Node) (vs : List Node) (behind : List Ring)
    → RingMarks M (us ++ (p ∷ vs))
    → Site M (before ++ ((us ++ (p ∷ vs)) ∷ behind)) (length before) (length us) (vertex p) (end_or (end_or (vertex p) vs) us)
    (start_or (start_or (vertex p) us) vs)
site M before us p vs behind m = by_front (snoc us) (snoc vs)
  where
    l : List Node
    l = us ++ (p ∷ vs)

    c : ℕ
    c = vertex p

    ls : List Ring
    ls = before ++ (l ∷ behind)

    first : start_or 0 l ≡ start_or c us
    first = first_append 0 us p vs

    leaves : Unused (start_or (start_or c us) vs) c M ⊎ OpenAt ls (length before) (length us) c (start_or (start_or c us) vs)
    leaves = up (status M l us p vs (start_or (start_or c us) vs) refl (ap (λ (w : ℕ). start_or w vs) first) m)
      where
        up : Unused (start_or (start_or c us) vs) c M ⊎ EdgeIn (start_or 0 l) l (length us) c (start_or (start_or c us) vs)
            → Unused (start_or (start_or c us) vs) c M ⊎ OpenAt ls (length before) (length us) c (start_or (start_or c us) vs)
        up (inl f) = inl f
        up (inr h) = inr (open_at before l behind _ _ _ h)

    enters : (fs : List Node) (q : Node) (ks : List Node) → l ≡ fs ++ (q ∷ ks) → start_or (start_or 0 l) ks ≡ c
        → end_or (end_or c vs) us ≡ vertex q
        → Unused c (end_or (end_or c vs) us) M ⊎ OpenAt ls (length before) (length fs) (end_or (end_or c vs) us) c
    enters fs q ks e n k = up (status M l fs q ks c e n m)
      where
        up : Unused c (vertex q) M ⊎ EdgeIn (start_or 0 l) l (length fs) (vertex q) c
            → Unused c (end_or (end_or c vs) us) M ⊎ OpenAt ls (length before) (length fs) (end_or (end_or c vs) us) c
        up (inl f) = inl (subst (λ (w : ℕ). Unused c w M) (sym k) f)
        up (inr h) = inr (subst (λ (w : ℕ). OpenAt ls (length before) (length fs) w c) (sym k) (open_at before l behind _ _ _ h))

    long : length l ≡ length us + suc (length vs)
    long = length-append us (p ∷ vs)

    size : size_of ls (length before) ≡ length l
    size = loop_len before l behind

    by_front : Snoc us → Snoc vs → Site M ls (length before) (length us) c (end_or (end_or c vs) us) (start_or (start_or c us) vs)
    by_front (inr r) w =
        let n : length us ≡ length r.0 + 1 = ap length r.2 ∙ length-append r.0 (r.1 ∷ []) in
        record {
          from = length r.0;
          enter =
              enters r.0 r.1 (p ∷ vs) (ap (λ (k : List Node). k ++ (p ∷ vs)) r.2 ∙ append_assoc r.0 (r.1 ∷ []) (p ∷ vs)) refl
              (ap (λ (k : List Node). end_or (end_or c vs) k) r.2 ∙ last_append (end_or c vs) r.0 r.1 []);
          leave = leaves;
          next = ap (λ (k : ℕ). following k (length r.0)) size
              ∙ (after_next (length l) (length r.0) (omega (arith, long)) ∙ omega arith);
        }
    by_front (inl e) (inr r) =
        let n : length vs ≡ length r.0 + 1 = ap length r.2 ∙ length-append r.0 (r.1 ∷ []) in
        let z : length us ≡ 0 = ap length e in
        record {
          from = suc (length r.0);
          enter =
              enters (p ∷ r.0) r.1 [] (ap₂ (λ (k w : List Node). k ++ (p ∷ w)) e r.2) (first ∙ ap (start_or c) e)
              (ap (λ (k : List Node). end_or (end_or c vs) k) e ∙ (ap (end_or c) r.2 ∙ last_append c r.0 r.1 []));
          leave = leaves;
          next = ap (λ (k : ℕ). following k (suc (length r.0))) size
              ∙ (after_last (length l) (suc (length r.0)) (omega (arith, long)) ∙ omega arith);
        }
    by_front (inl e) (inl g) =
        let z : length us ≡ 0 = ap length e in
        let z' : length vs ≡ 0 = ap length g in
        record {
          from = zero;
          enter =
              enters [] p [] (ap₂ (λ (k w : List Node). k ++ (p ∷ w)) e g) (first ∙ ap (start_or c) e)
              (ap₂ (λ (k w : List Node). end_or (end_or c w) k) e g);
          leave = leaves;
          next = ap (λ (k : ℕ). following k zero) size ∙ (after_last (length l) zero (omega (arith, long)) ∙ omega arith);
        }

-- the edge from a place of a ring is open in the ring shown, at the place counted there, or it is marked
status_shown : (M : List Triangle) (l us : List Node) (q : Node) (vs : List Node) (y : ℕ) → l ≡ us ++ (q ∷ vs) → Live (l ∷ [])
    → start_or (start_or 0 l) vs ≡ y → RingMarks M l
    → Unused y (vertex q) M ⊎ ((is_open q ≡ true) × EdgeIn (start_or 0 (shown l)) (shown l) (length (reached us false)) (vertex q) y)
status_shown M l us q vs y e g n m = go (is_open q) refl
  where
    marks : Marks M (us ++ (q ∷ vs)) (start_or 0 l)
    marks = subst (λ (k : List Node). Marks M k (start_or 0 l)) e (ring_marks M l m)

    parts : is_open q ≡ true → shown l ≡ reached us false ++ (q ∷ reached vs (not (is_open q)))
    parts h = shown_live l [] g ∙ (ap (λ (k : List Node). reached k false) e ∙ reached_cut us q vs (inl h))

    go : (t : Bool) → is_open q ≡ t
        → Unused y (vertex q) M ⊎ ((is_open q ≡ true) × EdgeIn (start_or 0 (shown l)) (shown l) (length (reached us false)) (vertex q) y)
    go true h =
        inr (
          h,
          subst (λ (w : ℕ). EdgeIn (start_or 0 (shown l)) (shown l) (length (reached us false)) (vertex q) w)
              (start_same (start_or 0 (shown l)) vs (is_open q) h ∙ (ap (λ (w : ℕ). start_or w vs) (start_shown 0 l) ∙ n))
              (subst (λ (k : List Node).
              EdgeIn (start_or 0 (shown l)) k (length (reached us false)) (vertex q)
              (start_or (start_or 0 (shown l)) (reached vs (not (is_open q)))))
              (sym (parts h)) (edge_at (start_or 0 (shown l)) (reached us false) q (reached vs (not (is_open q))) h)),
        )
    go false h = inl (subst (λ (w : ℕ). Unused w (vertex q) M) n (mark_at M (start_or 0 l) us q vs h marks))

-- any place of any ring, in the rings shown
pub site_shown : (M : List Triangle) (before : List Ring) (us : List Node) (p : Node) (vs : List Node) (behind : List Ring)
    → RingMarks M (us ++ (p ∷ vs)) → Live ((us ++ (p ∷ vs)) ∷ []) → Stays us p
    → Site M (shown_all (before ++ ((us ++ (p ∷ vs)) ∷ behind))) (length before) (length (reached us false)) (vertex p)
    (end_or (end_or (vertex p) vs) us) (start_or (start_or (vertex p) us) vs)
unfolding reached
site_shown M before us p vs behind m g st =
    subst (λ (k : ℕ). Site M (shown_all (before ++ (l ∷ behind))) k at c (end_or (end_or c vs) us) (start_or (start_or c us) vs))
    (all_shown_length before)
    (subst (λ (k : List Ring). Site M k (length (shown_all before)) at c (end_or (end_or c vs) us) (start_or (start_or c us) vs))
    (sym (all_shown_append before (l ∷ behind)))
    (by_front (snoc us) (snoc vs)))
  where
    l : List Node
    l = us ++ (p ∷ vs)

    c : ℕ
    c = vertex p

    at : ℕ
    at = length (reached us false)

    ls : List Ring
    ls = shown_all before ++ (shown l ∷ shown_all behind)

    n : ℕ
    n = length (shown_all before)

    parts : shown l ≡ reached us false ++ (p ∷ reached vs (not (is_open p)))
    parts = waiting_shown us p vs [] g st

    first : start_or 0 l ≡ start_or c us
    first = first_append 0 us p vs

    leaves : Unused (start_or (start_or c us) vs) c M ⊎ OpenAt ls n at c (start_or (start_or c us) vs)
    leaves = up (status_shown M l us p vs (start_or (start_or c us) vs) refl g (ap (λ (w : ℕ). start_or w vs) first) m)
      where
        up : Unused (start_or (start_or c us) vs) c M
            ⊎ ((is_open p ≡ true) × EdgeIn (start_or 0 (shown l)) (shown l) at c (start_or (start_or c us) vs))
            → Unused (start_or (start_or c us) vs) c M ⊎ OpenAt ls n at c (start_or (start_or c us) vs)
        up (inl f) = inl f
        up (inr h) = inr (open_at (shown_all before) (shown l) (shown_all behind) _ _ _ h.1)

    -- q stands before p, at place k of the ring shown if its edge is open
    enters : (fs : List Node) (q : Node) (ks : List Node) (k : ℕ) → l ≡ fs ++ (q ∷ ks) → start_or (start_or 0 l) ks ≡ c
        → end_or (end_or c vs) us ≡ vertex q
        → (is_open q ≡ true → length (reached fs false) ≡ k)
        → Unused c (end_or (end_or c vs) us) M ⊎ OpenAt ls n k (end_or (end_or c vs) us) c
    enters fs q ks k e w v i = up (status_shown M l fs q ks c e g w m)
      where
        up : Unused c (vertex q) M ⊎ ((is_open q ≡ true) × EdgeIn (start_or 0 (shown l)) (shown l) (length (reached fs false)) (vertex q) c)
            → Unused c (end_or (end_or c vs) us) M ⊎ OpenAt ls n k (end_or (end_or c vs) us) c
        up (inl f) = inl (subst (λ (z : ℕ). Unused c z M) (sym v) f)
        up (inr h) =
            inr (subst (λ (z : ℕ). OpenAt ls n k z c) (sym v)
            (subst (λ (z : ℕ). OpenAt ls n z (vertex q) c) (i h.0) (open_at (shown_all before) (shown l) (shown_all behind) _ _ _ h.1)))

    long : length (shown l) ≡ at + suc (length (reached vs (not (is_open p))))
    long = ap length parts ∙ length-append (reached us false) (p ∷ reached vs (not (is_open p)))

    size : size_of ls n ≡ length (shown l)
    size = loop_len (shown_all before) (shown l) (shown_all behind)

    -- a run that ends with an open edge has that place last
    last_one : (fs : List Node) (q : Node) → is_open q ≡ true → length (reached (fs ++ (q ∷ [])) false) ≡ length (reached fs false) + 1
    last_one fs q h =
        ap length (reached_cut fs q [] (inl h))
        ∙ (length-append (reached fs false) (q ∷ reached [] (not (is_open q)))
        ∙ ap (λ (k : ℕ). length (reached fs false) + suc k) (none (not (is_open q))))
      where
        none : (t : Bool) → length (reached [] t) ≡ 0
        none t = refl

    by_front : Snoc us → Snoc vs → Site M ls n at c (end_or (end_or c vs) us) (start_or (start_or c us) vs)
    by_front (inr r) w =
        let some : 1 ≤ at = (let z : length us ≡ length r.0 + 1 = ap length r.2 ∙ length-append r.0 (r.1 ∷ []) in
        reached_some us true refl (omega arith)) in
        record {
          from = at - 1;
          enter =
              enters r.0 r.1 (p ∷ vs) (at - 1)
              (ap (λ (k : List Node). k ++ (p ∷ vs)) r.2 ∙ append_assoc r.0 (r.1 ∷ []) (p ∷ vs)) refl
              (ap (λ (k : List Node). end_or (end_or c vs) k) r.2 ∙ last_append (end_or c vs) r.0 r.1 [])
              (λ h. let z : at ≡ length (reached r.0 false) + 1 =
              ap (λ (k : List Node). length (reached k false)) r.2 ∙ last_one r.0 r.1 h in omega arith);
          leave = leaves;
          next = ap (λ (k : ℕ). following k (at - 1)) size ∙ (after_next (length (shown l)) (at - 1) (omega (arith, long)) ∙ omega arith);
        }
    by_front (inl e) (inr r) =
        let z : at ≡ 0 = ap (λ (k : List Node). length (reached k false)) e in
        record {
          from = length (shown l) - 1;
          enter =
              enters (p ∷ r.0) r.1 [] (length (shown l) - 1) (ap₂ (λ (k w : List Node). k ++ (p ∷ w)) e r.2)
              (first ∙ ap (start_or c) e)
              (ap (λ (k : List Node). end_or (end_or c vs) k) e ∙ (ap (end_or c) r.2 ∙ last_append c r.0 r.1 []))
              (λ h. let y : length (shown l) ≡ length (reached (p ∷ r.0) false) + 1 =
              ap length (shown_live l [] g)
              ∙ (ap₂ (λ (k w : List Node). length (reached (k ++ (p ∷ w)) false)) e r.2 ∙ last_one (p ∷ r.0) r.1 h) in
              omega arith);
          leave = leaves;
          next = ap (λ (k : ℕ). following k (length (shown l) - 1)) size
              ∙ (after_last (length (shown l)) (length (shown l) - 1) (omega (arith, long)) ∙ omega arith);
        }
    by_front (inl e) (inl h) =
        let z : at ≡ 0 = ap (λ (k : List Node). length (reached k false)) e in
        record {
          from = length (shown l) - 1;
          enter =
              enters [] p [] (length (shown l) - 1) (ap₂ (λ (k w : List Node). k ++ (p ∷ w)) e h) (first ∙ ap (start_or c) e)
              (ap₂ (λ (k w : List Node). end_or (end_or c w) k) e h)
              (λ j. let y : length (shown l) ≡ length (reached [] false) + 1 =
              ap length (shown_live l [] g)
              ∙ (ap₂ (λ (k w : List Node). length (reached (k ++ (p ∷ w)) false)) e h ∙ last_one [] p j) in omega arith);
          leave = leaves;
          next = ap (λ (k : ℕ). following k (length (shown l) - 1)) size
              ∙ (after_last (length (shown l)) (length (shown l) - 1) (omega (arith, long)) ∙ omega arith);
        }

-- which operation a place of the current ring names
abbrev tested : Bool → Bool → Bool → ℕ → Operation
tested u v w i = elim u [ true ↦ Close | false ↦ elim v [ true ↦ Forward | false ↦ elim w [ true ↦ Backward | false ↦ Split (i - 1) ] ] ]

op_forward : (f p : Node) (qs : List Node) → is_open f ≡ true
    → (eqb (suc (length (f ∷ (p ∷ qs)))) 3 ≡ true → all_open (f ∷ (p ∷ qs)) ≡ true → ⊥) → operation_for (f ∷ (p ∷ qs)) 0 2 ≡ Forward
op_forward f p qs h g =
    let l = f ∷ (p ∷ qs) in
    let k = suc (length l) in
    ap₂ (λ (u v : Bool). tested u v (eqb (2 + 1) k && last_open l) 2) (and_none (eqb k 3) (all_open l) g) h

op_backward : (f : Node) (qs : List Node) (p : Node) → is_open p ≡ true → (is_open f ≡ true → 1 ≤ length qs)
    → (eqb (suc (length (f ∷ (qs ++ (p ∷ []))))) 3 ≡ true → all_open (f ∷ (qs ++ (p ∷ []))) ≡ true → ⊥)
    → operation_for (f ∷ (qs ++ (p ∷ []))) 0 (suc (suc (length qs))) ≡ Backward
op_backward f qs p h s g =
    let l = f ∷ (qs ++ (p ∷ [])) in
    let k = suc (length l) in
    let i = suc (suc (length qs)) in
    let n : length l ≡ length (f ∷ qs) + 1 = length-append (f ∷ qs) (p ∷ []) in
    ap₂ (λ (u v : Bool). tested u v (eqb (i + 1) k && last_open l) i) (and_none (eqb k 3) (all_open l) g)
    (and_none (eqb i 2) (is_open f) (λ x y. let z = eqb-true i 2 x in let w = s y in omega arith))
    ∙ ap (λ (w : Bool). tested false false w i)
    (and_both (eqb (i + 1) k) (last_open l) (eq-eqb (i + 1) k (omega arith)) (last_open_lem (f ∷ qs) p ∙ h))

op_split : (f : Node) (us : List Node) (p : Node) (vs : List Node) → (is_open f ≡ true → 1 ≤ length us) → (is_open p ≡ true → 1 ≤ length vs)
    → operation_for (f ∷ (us ++ (p ∷ vs))) 0 (suc (suc (length us))) ≡ Split (suc (length us))
unfolding all_open
op_split f us p vs lu lv =
    let l = f ∷ (us ++ (p ∷ vs)) in
    let k = suc (length l) in
    let i = suc (suc (length us)) in
    let n : length l ≡ length (f ∷ us) + suc (length vs) = length-append (f ∷ us) (p ∷ vs) in
    ap₂ (λ (u v : Bool). tested u v (eqb (i + 1) k && last_open l) i)
    (and_none (eqb k 3) (all_open l) (λ x y. let z = eqb-true k 3 x in let w = lu (first_of f (us ++ (p ∷ vs)) y) in omega arith))
    (and_none (eqb i 2) (is_open f) (λ x y. let z = eqb-true i 2 x in let w = lu y in omega arith))
    ∙ (ap (λ (w : Bool). tested false false w i)
    (and_none (eqb (i + 1) k) (last_open l) (λ x y. ended_open vs (let z = eqb-true (i + 1) k x in omega arith) y lv))
    ∙ ap Split (omega arith))
  where
    first_of : (q : Node) (qs : List Node) → all_open (q ∷ qs) ≡ true → is_open q ≡ true
    first_of (opened v) qs h = refl
    first_of (marked v) qs h = h

    ended_open : (ks : List Node) → length ks ≡ 0 → last_open ((f ∷ us) ++ (p ∷ ks)) ≡ true → (is_open p ≡ true → 1 ≤ length ks) → ⊥
    ended_open [] h g m = let z = m (sym (last_open_lem (f ∷ us) p) ∙ g) in omega arith
    ended_open (k ∷ ks) h g m = omega arith

-- the number of a place in the ring shown, after e and f
seat_in_lem : (e f : Node) (us : List Node) → is_open e ≡ true
    → length (reached (e ∷ (f ∷ us)) false) ≡ suc (suc (length (reached us (not (is_open f)))))
seat_in_lem e f us h =
    ap length (reached_first e (f ∷ us))
    ∙ (ap (λ (t : Bool). suc (length (reached (f ∷ us) (not t)))) h ∙ ap (λ (k : List Node). suc (length k)) (reached_first f us))

pub name_close : (e f p : Node) → is_open e ≡ true → is_open f ≡ true → is_open p ≡ true
    → operation_for (reached (f ∷ (p ∷ [])) false) 0 (length (reached (e ∷ (f ∷ [])) false)) ≡ Close
unfolding reached all_open
name_close (opened u) (opened v) (opened w) h g k = refl
name_close (marked u) f p h g k = absurd (false≢true h)
name_close (opened u) (marked v) p h g k = absurd (false≢true g)
name_close (opened u) (opened v) (marked w) h g k = absurd (false≢true k)

pub name_forward : (e f p q : Node) (qs : List Node) → is_open e ≡ true → is_open f ≡ true
    → operation_for (reached (f ∷ (p ∷ (q ∷ qs))) false) 0 (length (reached (e ∷ (f ∷ [])) false)) ≡ Forward
unfolding reached
name_forward e f p q qs h g =
    ap₂ (λ (l : List Node) (i : ℕ). operation_for l 0 i) (shown_forward e f p q qs g) (seat_in_lem e f [] h ∙ none (not (is_open f)))
    ∙ op_forward f p (reached (q ∷ qs) (not (is_open p))) g (not_forward f p q qs)
  where
    none : (t : Bool) → suc (suc (length (reached [] t))) ≡ 2
    none t = refl

pub name_backward : (e f q : Node) (qs : List Node) (p : Node) → is_open e ≡ true → is_open p ≡ true
    → operation_for (reached (f ∷ ((q ∷ qs) ++ (p ∷ []))) false) 0 (length (reached (e ∷ (f ∷ (q ∷ qs))) false)) ≡ Backward
name_backward e f q qs p h g =
    ap₂ (λ (l : List Node) (i : ℕ). operation_for l 0 i) (shown_backward e f (q ∷ qs) p g) (seat_in_lem e f (q ∷ qs) h)
    ∙ op_backward f (reached (q ∷ qs) (not (is_open f))) p g (λ k. reached_some (q ∷ qs) (is_open f) k (omega arith))
    (not_backward f q qs p)

pub name_split : (e f : Node) (us : List Node) (p : Node) (vs : List Node) → is_open e ≡ true → Stays (f ∷ us) p → 1 ≤ length us
    → 1 ≤ length vs
    → operation_for (reached (f ∷ (us ++ (p ∷ vs))) false) 0 (length (reached (e ∷ (f ∷ us)) false))
    ≡ Split (length (reached (f ∷ us) false))
name_split e f us p vs h st lu lv =
    ap₂ (λ (l : List Node) (i : ℕ). operation_for l 0 i) (shown_cut e f us p vs st) (seat_in_lem e f us h)
    ∙ (op_split f (reached us (not (is_open f))) p (reached vs (not (is_open p))) (λ k. reached_some us (is_open f) k lu)
    (λ k. reached_some vs (is_open p) k lv)
    ∙ ap Split (sym (ap length (reached_first f us))))

pub last_join : (x : ℕ) (us vs : List Node) → end_or x (us ++ vs) ≡ end_or (end_or x us) vs
last_join x [] vs = refl
last_join x (u ∷ us) vs = last_join (vertex u) us vs

-- the place that an operation names, as it stands in the full rings and in those shown
pub record Named (M R : List Triangle) (e f : Node) (ps : List Node) (ws : List Ring) (c : ℕ) (o : Operation) : Type 0 where
  pub ring : ℕ
  pub at : ℕ
  pub x : ℕ
  pub y : ℕ
  pub spot : Spotted ((e ∷ (f ∷ ps)) ∷ ws) ring at c x y
  pub seen : Site M (shown_all ((e ∷ (f ∷ ps)) ∷ ws)) ring (seat spot) c x y
  pub heirs : Heirs (Filled M R) (vertex e) (vertex f) c x y
  pub names : operation_for (reached (f ∷ ps) false) ring (seat spot) ≡ o

pub all_marks_split : (M : List Triangle) (us vs : List Ring) → AllMarks M (us ++ vs) → AllMarks M us × AllMarks M vs
all_marks_split M [] vs m = (tt, m)
all_marks_split M (u ∷ us) vs m = let r = all_marks_split M us vs m.1 in ((m.0, r.0), r.1)

-- places that stay
pub after_open : (e f p : Node) → is_open f ≡ true → Stays (e ∷ (f ∷ [])) p
unfolding ends
after_open e f p h = inr (ap not h)

pub before_f : (e f : Node) (us : List Node) (p : Node) → Stays (f ∷ us) p → Stays (e ∷ (f ∷ us)) p
unfolding ends
before_f e f us p h = h

pub after_e : (e f : Node) (us : List Node) (p : Node) → Stays (e ∷ (f ∷ us)) p → Stays (f ∷ us) p
unfolding ends
after_e e f us p h = h

pub alone : (l : Ring) (ls : List Ring) → Live (l ∷ ls) → Live (l ∷ [])
alone (p ∷ ps) ls g = (g.0, tt)
alone [] ls g = g

pub named : (M R : List Triangle) (e f : Node) (ps : List Node) (ws ls : List Ring) (c : ℕ) (o : Operation) → Surgery e f ps ws ls c o
    → Live ((e ∷ (f ∷ ps)) ∷ ws) → AllMarks M ((e ∷ (f ∷ ps)) ∷ ws) → Everywhere (Filled M R) ls → (o ≡ New) ⊎ Named M R e f ps ws c o
named M R e f ps ws ls c New (on_new q) g m r = inl refl
named M R e f ps ws ls c Forward (on_forward p q qs sh k op l) g m r =
    let r' = subst (Everywhere (Filled M R)) l r in
    rw (sh, k)
    (inr
    (record {
      ring = 0;
      at = 2;
      x = vertex f;
      y = vertex q;
      spot = record {
        before = [];
        us = e ∷ (f ∷ []);
        p = p;
        vs = q ∷ qs;
        behind = ws;
        whole = refl;
        number = refl;
        position = refl;
        own =
            refl;
        enter = refl;
        leave = refl;
        stays = after_open e f p op;
      };
      seen = site_shown M [] (e ∷ (f ∷ [])) p (q ∷ qs) ws (subst (λ (w : List Node). RingMarks M (e ∷ (f ∷ w))) sh m.0) (g.0, tt)
          (after_open e f p op);
      heirs =
          heirs_forward _ _ (more M R e f p) (joined M R e f p) (none M R e f p) e f p (at_a M R e f p) (at_b M R e f p) (at_c M R e f p) q
          qs r'.0;
      names = name_forward e f p q qs g.0 op;
    }))
named M R e f ps ws ls c Backward (on_backward q qs p sh k op l) g m r =
    let r' = subst (Everywhere (Filled M R)) l r in
    rw (sh, k)
    (inr
    (record {
      ring = 0;
      at = suc (suc (suc (length qs)));
      x = end_or (vertex q) qs;
      y = vertex e;
      spot = record {
        before = [];
        us = e ∷ (f ∷ (q ∷ qs));
        p = p;
        vs = [];
        behind = ws;
        whole = refl;
        number = refl;
        position = refl;
        own =
            refl;
        enter = refl;
        leave = refl;
        stays = inl op;
      };
      seen = site_shown M [] (e ∷ (f ∷ (q ∷ qs))) p [] ws (subst (λ (w : List Node). RingMarks M (e ∷ (f ∷ w))) sh m.0) (g.0, tt)
          (inl op);
      heirs =
          heirs_backward _ _ (more M R e f p) (joined M R e f p) (none M R e f p) e f p (at_a M R e f p) (at_b M R e f p) (at_c M R e f p)
          (q ∷ qs) r'.0;
      names = name_backward e f q qs p g.0 op;
    }))
named M R e f ps ws ls c Close (on_close p sh k op op' l) g m r =
    rw (sh, k)
    (inr
    (record {
      ring = 0;
      at = 2;
      x = vertex f;
      y = vertex e;
      spot = record {
        before = [];
        us = e ∷ (f ∷ []);
        p = p;
        vs = [];
        behind = ws;
        whole = refl;
        number = refl;
        position = refl;
        own =
            refl;
        enter = refl;
        leave = refl;
        stays = inl op';
      };
      seen = site_shown M [] (e ∷ (f ∷ [])) p [] ws (subst (λ (w : List Node). RingMarks M (e ∷ (f ∷ w))) sh m.0) (g.0, tt) (inl op');
      heirs =
          heirs_close _ _ (more M R e f p) (joined M R e f p) (none M R e f p) e f p (at_a M R e f p) (at_b M R e f p) (at_c M R e f p);
      names = name_close e f p g.0 op op';
    }))
named M R e f ps ws ls c (Split i) (on_split us p vs sh n lu lv k l) g m r =
    let r' = rings_shorter (Filled M R) (opened (vertex p) ∷ (f ∷ us)) (opened (vertex e) ∷ (p ∷ vs)) ws
    (subst (Everywhere (Filled M R)) l r) in
    rw (sh, k)
    (inr
    (record {
      ring = 0;
      at = suc (suc (length us));
      x = end_or (vertex f) us;
      y = start_or (vertex e) vs;
      spot = record {
        before = [];
        us = e ∷ (f ∷ us);
        p = p;
        vs = vs;
        behind = ws;
        whole = refl;
        number = refl;
        position = refl;
        own =
            refl;
        enter = refl;
        leave = refl;
        stays = before_f e f us p n.1;
      };
      seen = site_shown M [] (e ∷ (f ∷ us)) p vs ws (subst (λ (w : List Node). RingMarks M (e ∷ (f ∷ w))) sh m.0) (g.0, tt)
          (before_f e f us p n.1);
      heirs =
          heirs_split _ _ (more M R e f p) (joined M R e f p) (none M R e f p) e f p (at_a M R e f p) (at_b M R e f p) (at_c M R e f p) us
          vs r'.0 r'.1;
      names = name_split e f us p vs g.0 n.1 lu lv ∙ ap Split n.0;
    }))
named M R e f ps ws ls c (Union w j) (on_union before us p vs behind sh n i k l) g m r =
    let r' = subst (Everywhere (Filled M R)) l r in
    let m' = all_marks_split M before ((us ++ (p ∷ vs)) ∷ behind) (subst (AllMarks M) sh m.1) in
    let h =
    heirs_union _ _ (more M R e f p) (joined M R e f p) (none M R e f p) e f p (at_a M R e f p) (at_b M R e f p) (at_c M R e f p) ps
    (vs ++ us) r'.0 in
    rw (sh, k)
    (inr
    (record {
      ring = suc (length before);
      at = length us;
      x = end_or (end_or (vertex p) vs) us;
      y = start_or (start_or (vertex p) us) vs;
      spot = record {
        before = (e ∷ (f ∷ ps)) ∷ before;
        us = us;
        p = p;
        vs = vs;
        behind = behind;
        whole = refl;
        number = refl;
        position =
            refl;
        own = refl;
        enter = refl;
        leave = refl;
        stays = i.1;
      };
      seen = site_shown M ((e ∷ (f ∷ ps)) ∷ before) us p vs behind m'.1.0
          (alone (us ++ (p ∷ vs)) behind (live_split before ((us ++ (p ∷ vs)) ∷ behind) (subst Live sh g.1)).1) i.1;
      heirs =
          record {
            enter = subst (λ (v : ℕ). Filled M R v (vertex p) (vertex f)) (last_join (vertex p) vs us) h.enter;
            leave = subst (λ (v : ℕ). Filled M R (vertex e) (vertex p) v) (start_append (vertex p) vs us) h.leave;
          };
      names = ap₂ Union n i.0;
    }))
named M R e f ps ws ls c Rattle.rules.specs.declared.Operation.TheVariants.Border x4 g m r = elim x4 [ ]
named M R e f ps ws ls c Rattle.rules.specs.declared.Operation.TheVariants.Start x5 g m r = elim x5 [ ]
