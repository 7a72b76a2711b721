-- From an open edge to the place that it leaves, and to the place that it enters.
-- Assumes nothing.
use Prim.Native.Nat.{ℕ, zero, suc, ◌+◌}
use mathlib.Core.Bool.{true, false, not}
use mathlib.Core.List.{List, [], ◌∷◌, ◌++◌, append_assoc}
use mathlib.Core.Path.{◌≡◌, refl, sym, ap, ◌∙◌, subst}
use mathlib.Core.Logic.{inl, inr}
use lib.ListN.{length}
use Rattle.rules.specs.declared.Triangle.{Triangle}
use Rattle.rules.specs.Ring.{Node, Ring, vertex, is_open, start_or}
use Rattle.rules.specs.Right.{EdgeIn, OpenAt}
use Rattle.book.specs.Shown.{shown_all}
use Rattle.book.proofs.Shown.{ends, Live, live_split, ends_last}
use Rattle.choice_theory.proofs.Places.Corners.{end_or, Everywhere, AllMarks}
use Rattle.choice_theory.proofs.Places.Spots.{Site, Spotted, seat}
use Rattle.choice_theory.proofs.Places.Rings.{ring_swap, last_append}
use Rattle.choice_theory.proofs.Runs.Fate.{rings_split}
use Rattle.choice_theory.proofs.Places.Sites.{site, site_shown, alone, all_marks_split, last_join, first_append}
use Rattle.book.proofs.Sums.{start_append}

-- what holds at each place holds there
pub spotted_holds : (Q : ℕ → ℕ → ℕ → Type 0) {ls : List Ring} {l i c x y : ℕ} → Spotted ls l i c x y → Everywhere Q ls → Q x c y
spotted_holds Q {ls} {l} {i} {c} {x} {y} s r =
    let k = (rings_split Q s.before ((s.us ++ (s.p ∷ s.vs)) ∷ s.behind) (subst (Everywhere Q) s.whole r)).1.0 in
    let h = (ring_swap Q s.us (s.p ∷ s.vs) k).0 in
    subst (λ (v : ℕ). Q v c y) (last_join (vertex s.p) s.vs s.us ∙ s.enter)
    (subst (λ (v : ℕ). Q (end_or (vertex s.p) (s.vs ++ s.us)) v y) s.own
    (subst (λ (v : ℕ). Q (end_or (vertex s.p) (s.vs ++ s.us)) (vertex s.p) v)
    (start_append (vertex s.p) s.vs s.us ∙ s.leave) h))

-- the packer's sight of it
pub spotted_site : (M : List Triangle) {ls : List Ring} {l i c x y : ℕ} → Spotted ls l i c x y → AllMarks M ls → Site M ls l i c x y
spotted_site M {ls} {l} {i} {c} {x} {y} s m =
    let k = (all_marks_split M s.before ((s.us ++ (s.p ∷ s.vs)) ∷ s.behind) (subst (AllMarks M) s.whole m)).1.0 in
    rw (s.whole, ← s.number, ← s.position, ← s.own, ← s.enter, ← s.leave)
    (site M s.before s.us s.p s.vs s.behind k)

-- and its place in the rings shown
pub spotted_seen : (M : List Triangle) {ls : List Ring} {l i c x y : ℕ} (s : Spotted ls l i c x y) → AllMarks M ls → Live ls
    → Site M (shown_all ls) l (seat s) c x y
spotted_seen M {ls} {l} {i} {c} {x} {y} s m g =
    let k = (all_marks_split M s.before ((s.us ++ (s.p ∷ s.vs)) ∷ s.behind) (subst (AllMarks M) s.whole m)).1.0 in
    let h = alone (s.us ++ (s.p ∷ s.vs)) s.behind
    (live_split s.before ((s.us ++ (s.p ∷ s.vs)) ∷ s.behind) (subst Live s.whole g)).1 in
    rw (s.whole, ← s.number, ← s.own, ← s.enter, ← s.leave)
    (site_shown M s.before s.us s.p s.vs s.behind k h s.stays)

record Edged (first : ℕ) (l : List Node) (i x y : ℕ) : Type 0 where
  us : List Node
  p : Node
  vs : List Node
  whole : l ≡ us ++ (p ∷ vs)
  position : length us ≡ i
  own : vertex p ≡ x
  next : start_or first vs ≡ y
  live : is_open p ≡ true

edged : (first : ℕ) (l : List Node) (i x y : ℕ) → EdgeIn first l i x y → Edged first l i x y
edged first (p ∷ ps) zero x y h = record { us = []; p = p; vs = ps; whole = refl; position = refl; own = h.1; next = h.2; live = h.0 }
edged first (p ∷ ps) (suc i) x y h =
    let r = edged first ps i x y h in
    record {
      us = p ∷ r.us;
      p = r.p;
      vs = r.vs;
      whole = ap (λ (k : List Node). p ∷ k) r.whole;
      position = ap suc r.position;
      own = r.own;
      next = r.next;
      live = r.live;
    }
edged first [] i x y h = elim h [ ]

more_before : (w : List Node) {ls : List Ring} {l i c x y : ℕ} → Spotted ls l i c x y → Spotted (w ∷ ls) (suc l) i c x y
more_before w s =
    record {
      before = w ∷ s.before;
      us = s.us;
      p = s.p;
      vs = s.vs;
      behind = s.behind;
      whole = ap (λ (k : List Ring). w ∷ k) s.whole;
      number = ap suc s.number;
      position = s.position;
      own = s.own;
      enter = s.enter;
      leave = s.leave;
      stays = s.stays;
    }

-- the place that an open edge leaves
pub place_leaving : (ls : List Ring) (l i c y : ℕ) → OpenAt ls l i c y → (x : ℕ) × Spotted ls l i c x y
place_leaving (w ∷ ws) zero i c y h =
    let r = edged (start_or 0 w) w i c y h in (
      end_or (end_or (vertex r.p) r.vs) r.us,
      record {
        before = [];
        us = r.us;
        p = r.p;
        vs = r.vs;
        behind = ws;
        whole = ap (λ (k : List Node). k ∷ ws) r.whole;
        number = refl;
        position = r.position;
        own = r.own;
        enter = refl;
        leave =
            ap (λ (v : ℕ). start_or v r.vs) (sym (ap (start_or 0) r.whole ∙ first_append 0 r.us r.p r.vs)) ∙ r.next;
        stays = inl r.live;
      },
    )
place_leaving (w ∷ ws) (suc l) i c y h = let r = place_leaving ws l i c y h in (r.0, more_before w r.1)
place_leaving [] l i c y h = elim h [ ]

-- the place that an open edge enters
pub record Entered (ls : List Ring) (l c x : ℕ) : Type 0 where
  pub at : ℕ
  pub y : ℕ
  pub place : Spotted ls l at c x y

entered_ring : (w : List Node) (ws : List Ring) (x c : ℕ) (us : List Node) (q : Node) (vs : List Node) → w ≡ us ++ (q ∷ vs)
    → vertex q ≡ x → start_or (start_or (vertex q) us) vs ≡ c → is_open q ≡ true → Entered (w ∷ ws) 0 c x
unfolding ends
entered_ring w ws x c us q (p ∷ vs) e o n h = record {
  at = length (us ++ (q ∷ []));
  y = start_or (start_or (vertex p) (us ++ (q ∷ []))) vs;
  place =
      record {
        before = [];
        us = us ++ (q ∷ []);
        p = p;
        vs = vs;
        behind = ws;
        whole = ap (λ (k : List Node). k ∷ ws) (e ∙ sym (append_assoc us (q ∷ []) (p ∷ vs)));
        number = refl;
        position = refl;
        own = n;
        enter = last_append (end_or (vertex p) vs) us q [] ∙ o;
        leave = refl;
        stays = inr (ends_last us q false ∙ ap not h);
      };
}
entered_ring w ws x c [] q [] e o n h = record {
  at = 0;
  y = vertex q;
  place =
      record {
        before = [];
        us = [];
        p = q;
        vs = [];
        behind = ws;
        whole = ap (λ (k : List Node). k ∷ ws) e;
        number = refl;
        position = refl;
        own = n;
        enter = o;
        leave = refl;
        stays = inr refl;
      };
}
entered_ring w ws x c (p ∷ us) q [] e o n h = record {
  at = 0;
  y = start_or (vertex p) (us ++ (q ∷ []));
  place =
      record {
        before = [];
        us = [];
        p = p;
        vs = us ++ (q ∷ []);
        behind = ws;
        whole = ap (λ (k : List Node). k ∷ ws) e;
        number = refl;
        position = refl;
        own = n;
        enter = last_append (vertex p) us q [] ∙ o;
        leave = refl;
        stays = inr refl;
      };
}

pub place_entered : (ls : List Ring) (l i x c : ℕ) → OpenAt ls l i x c → Entered ls l c x
place_entered (w ∷ ws) zero i x c h =
    let r = edged (start_or 0 w) w i x c h in
    entered_ring w ws x c r.us r.p r.vs r.whole r.own
    (ap (λ (v : ℕ). start_or v r.vs) (sym (ap (start_or 0) r.whole ∙ first_append 0 r.us r.p r.vs)) ∙ r.next) r.live
place_entered (w ∷ ws) (suc l) i x c h =
    let r = place_entered ws l i x c h in record { at = r.at; y = r.y; place = more_before w r.place }
place_entered [] l i x c h = elim h [ ]
