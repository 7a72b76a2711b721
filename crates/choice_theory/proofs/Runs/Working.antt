-- Operations that the machine accepts, from a state with no loop to one with no loop, are a run.
-- Assumes nothing.
use Prim.Native.Nat.{ℕ, suc, ◌+◌, ◌≤◌, ◌<◌, max}
use native.Mathlib.Omega.{arith}
use native.Mathlib.Numerals.{add-one}
use mathlib.Core.Bool.{true}
use mathlib.Core.List.{List, [], ◌∷◌, ◌++◌, append_assoc}
use mathlib.Core.Path.{◌≡◌, refl, sym, ap, ◌∙◌, subst}
use lib.ListN.{length}
use Rattle.rules.specs.declared.Triangle.{Triangle}
use Rattle.rules.specs.declared.Operation.{Operation}
use Rattle.rules.specs.declared.Operation.TheVariants.{New, Forward, Backward, Border, Split, Close, Union, Start}
use Rattle.rules.specs.Triangle.{tri, Edge, at_p, at_q, at_r, In, here, there}
use Rattle.rules.specs.Ring.{Node, Ring, vertex, reached, places}
use Rattle.rules.specs.Table.{Side, glued, builds, marks, effect, edge_rule}
use Rattle.rules.specs.Machine.{Machine, after_build, after_mark, built, declared, operation}
use Rattle.book.specs.Numbers.{LoopsBelow}
use Rattle.book.specs.Shown.{shown_all}
use Rattle.book.proofs.Parts.{building_of, marking_of}
use Rattle.choice_theory.specs.Works.{Works, w_none, w_built, w_declared}
use Rattle.choice_theory.specs.Full.{with_ring, full_at, full_after, new_numbers}
use Rattle.choice_theory.proofs.Places.Corners.{Everywhere}
use Rattle.choice_theory.proofs.Steps.Surgery.{triangle_at, after_border, Surgery, on_new, on_forward, on_backward, on_close, on_split}
use Rattle.choice_theory.proofs.Steps.Surgery.{on_union}
use Rattle.choice_theory.proofs.Steps.Tally.{glues_a, glues_b, side_of}
use Rattle.choice_theory.proofs.Steps.Surgeries.{Lifted, Builds, surgery_of}
use Rattle.choice_theory.proofs.Steps.Full.{surgery_full}
use Rattle.choice_theory.proofs.Steps.Legal.{legal_step}
use Rattle.choice_theory.proofs.Steps.First.{legal_first}
use Rattle.choice_theory.proofs.Places.Exists.{Used}
use Rattle.choice_theory.proofs.Places.Standing.{legal_used}
use Rattle.choice_theory.proofs.Steps.Bordering.{with_rim, rim_of}
use Rattle.choice_theory.proofs.Steps.Progress.{AllGood, good_live, good_step, good_border}
use Rattle.choice_theory.proofs.Runs.Machine.{Run, r_done, r_start, r_build, r_border, Sound, sound_border}
use Rattle.choice_theory.proofs.Runs.Tracking.{first_ring, shown_places, shown_loops, peak, Within, numbered_after, numbering, up_to}
use Rattle.choice_theory.proofs.Steps.Allowances.{OnlyStart, only_start, OnlyBorder, only_border}
use Rattle.choice_theory.proofs.Steps.Rules.{Rules, rules_of}
use Rattle.choice_theory.proofs.Steps.Operating.{Room, built_of, declared_of}
use Rattle.choice_theory.proofs.Places.Below.{below_step, below_border}

-- a run to the machine n, from the full rings ls, and what the machine counts along it
pub record WorkedAt (n : Machine) (P L a b u : ℕ) (B : List Triangle) (ls rims : List Ring) (os : List Operation) : Type 0 where
  pub order : List Triangle
  pub run : Run n.triangles B rims ls os order
  pub in_places : Within shown_places P run
  pub in_loops : Within shown_loops L run
  pub most_places_lem : n.most_places ≡ peak shown_places a run
  pub most_loops_lem : n.most_loops ≡ peak shown_loops b run
  pub numbers : up_to n.used ≡ numbering (up_to u) run

abbrev pub Worked : Machine → Machine → List Ring → List Ring → List Operation → Type 0
Worked n m full rims os =
    WorkedAt n m.stated.places m.stated.loops m.most_places m.most_loops m.used m.triangles full rims os

same_up : (u : ℕ) → up_to (u + 0) ≡ up_to u
same_up u = let e : u + 0 ≡ u = omega arith in ap up_to e

numbers_after : {e f : Node} {ps : List Node} {ws ls : List Ring} {c : ℕ} (u : ℕ) (o : Operation) → Surgery e f ps ws ls c o
    → (o ≡ New → c ≡ u)
    → up_to (u + new_numbers o) ≡ numbered_after o c (up_to u)
numbers_after u New (on_new q) n = ap up_to (add-one u) ∙ ap (λ (v : ℕ). up_to u ++ (v ∷ [])) (sym (n refl))
numbers_after u Forward (on_forward p q qs sh k op l) n = same_up u
numbers_after u Backward (on_backward q qs p sh k op l) n = same_up u
numbers_after u Close (on_close p sh k op op' l) n = same_up u
numbers_after u (Split i) (on_split us p vs sh m lu lv k l) n = same_up u
numbers_after u (Union w j) (on_union before us p vs behind sh m i k l) n = same_up u
numbers_after {e = e} {f = f} {ps = ps} {ws = ws} {ls = ls} {c = c} u Border x'' n = elim x'' [ ]
numbers_after {e = e} {f = f} {ps = ps} {ws = ws} {ls = ls} {c = c} u Start x3 n = elim x3 [ ]

-- The machine has the loops shown of full rings, in which no place has left and every marked edge is one of the model. Every ring has
-- its current edge open and three places or more; all vertices have numbers below the next unused one.
pub record Ready (m : Machine) (full rims : List Ring) : Type 0 where
  pub shows : m.loops ≡ shown_all full
  pub good : AllGood full
  pub low : (x y z : ℕ) → In x y z m.triangles → x < m.used
  pub rings : LoopsBelow m.used full
  pub sound : Sound m.triangles rims full

-- an operation that builds, at the current edge
module _ (m : Machine) (e f : Node) (ps : List Node) (ws rims ls : List Ring) (o : Operation) (t : Triangle) (pq qr rp : Side) (n s k : ℕ)
    (ready : Ready m ((e ∷ (f ∷ ps)) ∷ ws) rims) (b : Builds o m.used e f ps ws ls t pq qr rp n s k)
    (rule : edge_rule t pq qr rp m.triangles ≡ true)
    (room : Room m ls) where
  rules : Rules (triangle_at e f t.r) (glues_a o) (glues_b o) m.triangles
  rules =
      rules_of (triangle_at e f t.r) (glues_a o) (glues_b o) m.triangles
      (subst (λ (k : Triangle). edge_rule k glued (side_of (glues_a o)) (side_of (glues_b o)) m.triangles ≡ true) b.triangle
      (subst (λ (k : Side). edge_rule t k (side_of (glues_a o)) (side_of (glues_b o)) m.triangles ≡ true) b.side_ba
      (subst (λ (k : Side). edge_rule t pq k (side_of (glues_b o)) m.triangles ≡ true) b.side_ac
      (subst (λ (k : Side). edge_rule t pq qr k m.triangles ≡ true) b.side_cb rule))))

  used : Everywhere (Used m.triangles) ((e ∷ (f ∷ ps)) ∷ ws)
  used = legal_used m.triangles ((e ∷ (f ∷ ps)) ∷ ws) rims ready.sound

  -- the operation on the full rings: a marked edge between c and e, or f and c, would be used
  pub lift : Lifted e f ps ws ls t.r o
  lift =
      b.surgery
      (λ g q. (let u = used.0.0.0 in (rules.rule_a g).1 u.0 (subst (λ (v : ℕ). In v (vertex e) u.0 m.triangles) q u.1)))
      (λ g q. (let u = used.0.1.0.1 in (rules.rule_b g).1 u.0 (subst (λ (v : ℕ). In (vertex f) v u.0 m.triangles) q u.1)))

  below : (t.r < m.used + new_numbers o) × LoopsBelow (m.used + new_numbers o) lift.full
  below = below_step e f ps ws lift.full t.r m.used o lift.does b.next ready.rings

  count : m.used + n ≡ m.used + new_numbers o
  count = ap (λ (v : ℕ). m.used + v) b.news

  low_next : (x y z : ℕ) → In x y z (t ∷ m.triangles) → x < m.used + n
  low_next x y z i = go (subst (λ (v : Triangle). In x y z (v ∷ m.triangles)) b.triangle i)
    where
      go : In x y z (triangle_at e f t.r ∷ m.triangles) → x < m.used + n
      go (here (at_p u v w)) = let h = ready.rings.0.1.0 in omega arith
      go (here (at_q u v w)) = let h = ready.rings.0.0 in omega arith
      go (here (at_r u v w)) = let h = below.0 in omega (arith, count)
      go (there j) = let h = ready.low x y z j in omega arith

  apart : ((vertex e ≡ vertex f) → ⊥) × ((vertex f ≡ t.r) → ⊥) × ((t.r ≡ vertex e) → ⊥)
  apart = (λ h. rules.apart.0 (sym h), λ h. rules.apart.2 (sym h), λ h. rules.apart.1 (sym h))

  pub ready_built : Ready (after_build m (building_of ls t pq qr rp n s k)) lift.full rims
  ready_built = record {
    shows = lift.shows;
    good = good_step e f ps ws lift.full t.r o lift.does ready.good;
    low = low_next;
    rings = subst (λ (v : ℕ). LoopsBelow v lift.full) (sym count) below.1;
    sound =
        subst (λ (v : Triangle). Sound (v ∷ m.triangles) rims lift.full) (sym b.triangle)
        (legal_step m.triangles e f ps ws lift.full rims t.r o lift.does rules.rule_a rules.rule_b apart.0 apart.1
        apart.2 ready.sound);
  }

  not_yet : o ≡ New → (x y : ℕ) → In t.r x y m.triangles → ⊥
  not_yet h x y i = let l = ready.low t.r x y i in let g = b.next h in omega arith

  abbrev At : ℕ → ℕ → ℕ → Triangle → Machine → List Operation → Type 0
  At p q u v end os =
      WorkedAt end m.stated.places m.stated.loops (max m.most_places p) (max m.most_loops q) u (v ∷ m.triangles) lift.full
      rims os

  pub worked_built : (end : Machine) (os : List Operation) → Worked end (after_build m (building_of ls t pq qr rp n s k)) lift.full rims os
      → Worked end m ((e ∷ (f ∷ ps)) ∷ ws) rims (o ∷ os)
  worked_built end os w0 =
      go
      (subst (λ (r : List Ring). At (places r) (length r) (m.used + new_numbers o) (triangle_at e f t.r) end os) lift.shows
      (subst (λ (v : ℕ). At (places ls) (length ls) v (triangle_at e f t.r) end os) count
      (subst (λ (v : Triangle). At (places ls) (length ls) (m.used + n) v end os) b.triangle w0)))
    where
      go : At (shown_places lift.full) (shown_loops lift.full) (m.used + new_numbers o) (triangle_at e f t.r) end os
          → Worked end m ((e ∷ (f ∷ ps)) ∷ ws) rims (o ∷ os)
      go w = record {
        order = triangle_at e f t.r ∷ w.order;
        run = r_build (good_live ((e ∷ (f ∷ ps)) ∷ ws) ready.good) lift.does rules.rule_a rules.rule_b apart not_yet w.run;
        in_places = (subst (λ (r : List Ring). places r ≤ m.stated.places) lift.shows room.places, w.in_places);
        in_loops = (subst (λ (r : List Ring). length r ≤ m.stated.loops) lift.shows room.loops, w.in_loops);
        most_places_lem = w.most_places_lem;
        most_loops_lem = w.most_loops_lem;
        numbers = w.numbers ∙ ap (λ (vs : List ℕ). numbering vs w.run) (numbers_after m.used o lift.does b.next);
      }

-- start
module _ (m : Machine) (rims ls : List Ring) (o : Operation) (t : Triangle) (pq qr rp : Side) (n s k : ℕ) (ready : Ready m [] rims)
    (b : OnlyStart o m.used (builds (building_of ls t pq qr rp n s k))) (room : Room m ls) where
  abbrev first : Triangle
  first = tri m.used (suc m.used) (suc (suc m.used))

  abbrev ring : List Ring
  ring = first_ring m.used (suc m.used) (suc (suc m.used))

  low_start : (x y z : ℕ) → In x y z (t ∷ m.triangles) → x < m.used + n
  unfolding OnlyStart
  low_start x y z i = go (subst (λ (v : Triangle). In x y z (v ∷ m.triangles)) b.2 i)
    where
      go : In x y z (first ∷ m.triangles) → x < m.used + n
      go (here (at_p u v w)) = let h = b.3 in omega arith
      go (here (at_q u v w)) = let h = b.3 in omega arith
      go (here (at_r u v w)) = let h = b.3 in omega arith
      go (there j) = let h = ready.low x y z j in omega arith

  none : (x : ℕ) → m.used ≤ x → (y z : ℕ) → In x y z m.triangles → ⊥
  none x h y z i = let l = ready.low x y z i in omega arith

  ready_start : Ready (after_build m (building_of ls t pq qr rp n s k)) ring rims
  unfolding OnlyStart reached
  ready_start = record {
    shows = b.1;
    good = ((refl, omega arith), tt);
    low = low_start;
    rings = ((let h = b.3 in omega arith, (let h = b.3 in omega arith, (let h = b.3 in omega arith, tt))), tt);
    sound =
        subst (λ (v : Triangle). Sound (v ∷ m.triangles) rims ring) (sym b.2)
        (legal_first m.triangles rims m.used (suc m.used) (suc (suc m.used))
        (λ h. omega arith, λ h. omega arith, λ h. omega arith)
        (none m.used (omega arith)) (none (suc m.used) (omega arith)) (none (suc (suc m.used)) (omega arith)) ready.sound);
  }

  up_start : up_to (m.used + n) ≡ up_to m.used ++ (m.used ∷ (suc m.used ∷ (suc (suc m.used) ∷ [])))
  unfolding OnlyStart
  up_start =
      let h = b.3 in
      let e : m.used + n ≡ suc (suc (suc m.used)) = omega arith in
      ap up_to e
      ∙ (append_assoc (up_to m.used ++ (m.used ∷ [])) (suc m.used ∷ []) (suc (suc m.used) ∷ [])
      ∙ append_assoc (up_to m.used) (m.used ∷ []) (suc m.used ∷ (suc (suc m.used) ∷ [])))

  worked_start : (end : Machine) (os : List Operation) → Worked end (after_build m (building_of ls t pq qr rp n s k)) ring rims os
      → Worked end m [] rims (o ∷ os)
  unfolding OnlyStart reached
  worked_start end os w0 =
      subst (λ (k : Operation). Worked end m [] rims (k ∷ os)) (sym b.0)
      (go
      (subst (λ (r : List Ring). places r ≤ m.stated.places) b.1 room.places)
      (subst (λ (r : List Ring). length r ≤ m.stated.loops) b.1 room.loops)
      (subst (λ (r : List Ring).
      WorkedAt end m.stated.places m.stated.loops (max m.most_places (places r)) (max m.most_loops (length r)) (m.used + n)
      (first ∷ m.triangles) ring rims os) b.1
      (subst (λ (v : Triangle).
      WorkedAt end m.stated.places m.stated.loops (max m.most_places (places ls)) (max m.most_loops (length ls))
      (m.used + n) (v ∷ m.triangles) ring rims os) b.2 w0)))
    where
      go : shown_places ring ≤ m.stated.places → shown_loops ring ≤ m.stated.loops
          → WorkedAt end m.stated.places m.stated.loops (max m.most_places (shown_places ring))
          (max m.most_loops (shown_loops ring)) (m.used + n) (first ∷ m.triangles) ring rims os
          → Worked end m [] rims (Start ∷ os)
      go hp hl w = record {
        order = first ∷ w.order;
        run =
            r_start (none m.used (omega arith)) (none (suc m.used) (omega arith)) (none (suc (suc m.used)) (omega arith))
            (λ h. omega arith, λ h. omega arith, λ h. omega arith) w.run;
        in_places = (hp, w.in_places);
        in_loops = (hl, w.in_loops);
        most_places_lem = w.most_places_lem;
        most_loops_lem = w.most_loops_lem;
        numbers = w.numbers ∙ ap (λ (vs : List ℕ). numbering vs w.run) up_start;
      }

-- border
module _ (m : Machine) (e f : Node) (ps : List Node) (ws rims ls : List Ring) (o : Operation) (d : Edge) (n : ℕ)
    (ready : Ready m ((e ∷ (f ∷ ps)) ∷ ws) rims)
    (b : OnlyBorder o e f ps ws (marks (marking_of ls d n))) (room : Room m ls) where
  abbrev next : List Ring
  next = with_ring (after_border e f ps) ws

  abbrev rims_next : List Ring
  rims_next = with_rim (after_border e f ps) (rim_of e f ps) rims

  ready_border : Ready (after_mark m (marking_of ls d n)) next rims_next
  unfolding OnlyBorder
  ready_border = record {
    shows = b.1;
    good = good_border e f ps ws ready.good (after_border e f ps) refl;
    low = ready.low;
    rings = below_border m.used e f ps ws ready.rings;
    sound = sound_border m.triangles rims ws e f ps ready.sound;
  }

  worked_border : (end : Machine) (os : List Operation) → Worked end (after_mark m (marking_of ls d n)) next rims_next os
      → Worked end m ((e ∷ (f ∷ ps)) ∷ ws) rims (o ∷ os)
  unfolding OnlyBorder
  worked_border end os w0 =
      subst (λ (k : Operation). Worked end m ((e ∷ (f ∷ ps)) ∷ ws) rims (k ∷ os)) (sym b.0)
      (go
      (subst (λ (r : List Ring). places r ≤ m.stated.places) b.1 room.places)
      (subst (λ (r : List Ring). length r ≤ m.stated.loops) b.1 room.loops)
      (subst (λ (r : List Ring).
      WorkedAt end m.stated.places m.stated.loops (max m.most_places (places r)) (max m.most_loops (length r)) m.used
      m.triangles next rims_next os) b.1 w0))
    where
      go : shown_places next ≤ m.stated.places → shown_loops next ≤ m.stated.loops
          → WorkedAt end m.stated.places m.stated.loops (max m.most_places (shown_places next))
          (max m.most_loops (shown_loops next)) m.used m.triangles next rims_next os
          → Worked end m ((e ∷ (f ∷ ps)) ∷ ws) rims (Border ∷ os)
      go hp hl w = record {
        order = w.order;
        run = r_border ready.good.0.0 w.run;
        in_places = (hp, w.in_places);
        in_loops = (hl, w.in_loops);
        most_places_lem = w.most_places_lem;
        most_loops_lem = w.most_loops_lem;
        numbers = w.numbers;
      }

-- one operation that builds, and one that marks
pub record Step (m m' : Machine) (o : Operation) (full rims : List Ring) : Type 0 where
  pub full_after_lem : List Ring
  pub rims_after : List Ring
  pub ready : Ready m' full_after_lem rims_after
  pub follows : full_after_lem ≡ full_after o m.used full
  pub used : m'.used ≡ m.used + new_numbers o
  pub most : m'.most_places ≡ max m.most_places (places m'.loops)
  pub worked : (end : Machine) (os : List Operation) → Worked end m' full_after_lem rims_after os → Worked end m full rims (o ∷ os)

pub step_built : (m m' : Machine) (o : Operation) (t : Triangle) (full rims : List Ring) → operation m o ≡ built t m' → Ready m full rims
    → Step m m' o full rims
unfolding effect OnlyStart
step_built m m' o t [] rims h ready =
    let b = built_of m (effect o m.used m.loops) t m' h in
    let r : OnlyStart o m.used (builds (building_of b.ls t b.pq b.qr b.rp b.news b.starts b.unions)) =
    subst (OnlyStart o m.used) (sym (ap (effect o m.used) ready.shows) ∙ b.effect) (only_start o m.used) in
    record {
      full_after_lem = first_ring m.used (suc m.used) (suc (suc m.used));
      rims_after = rims;
      follows = refl;
      used = ap (λ (k : Machine). k.used) b.after ∙ ap (λ (v : ℕ). m.used + v) r.3
          ∙ ap (λ (k : Operation). m.used + new_numbers k) (sym r.0);
      most = subst (λ (k : Machine). k.most_places ≡ max m.most_places (places k.loops)) (sym b.after) refl;
      ready =
          subst (λ (k : Machine). Ready k (first_ring m.used (suc m.used) (suc (suc m.used))) rims) (sym b.after)
          (ready_start m rims b.ls o t b.pq b.qr b.rp b.news b.starts b.unions ready r b.room);
      worked =
          λ end os w.
          worked_start m rims b.ls o t b.pq b.qr b.rp b.news b.starts b.unions ready r b.room end os
          (subst (λ (k : Machine). Worked end k (first_ring m.used (suc m.used) (suc (suc m.used))) rims os) b.after w);
    }
step_built m m' o t ([] ∷ ws) rims h ready = absurd ready.good.0
step_built m m' o t ((e ∷ []) ∷ ws) rims h ready = let k = ready.good.0.1 in absurd (omega arith)
step_built m m' o t ((e ∷ (f ∷ ps)) ∷ ws) rims h ready =
    let b = built_of m (effect o m.used m.loops) t m' h in
    let a =
    surgery_of o m.used e f ps ws b.ls t b.pq b.qr b.rp b.news b.starts b.unions
    (good_live ((e ∷ (f ∷ ps)) ∷ ws) ready.good).1
    (sym (ap (effect o m.used) ready.shows) ∙ b.effect) in
    let x = lift m e f ps ws rims b.ls o t b.pq b.qr b.rp b.news b.starts b.unions ready a b.rule b.room in
    record {
      full_after_lem = x.full;
      rims_after = rims;
      follows = surgery_full m.used o x.does a.next;
      used = ap (λ (k : Machine). k.used) b.after ∙ ap (λ (v : ℕ). m.used + v) a.news;
      most = subst (λ (k : Machine). k.most_places ≡ max m.most_places (places k.loops)) (sym b.after) refl;
      ready =
          subst (λ (k : Machine). Ready k x.full rims) (sym b.after)
          (ready_built m e f ps ws rims b.ls o t b.pq b.qr b.rp b.news b.starts b.unions ready a b.rule b.room);
      worked =
          λ end os w.
          worked_built m e f ps ws rims b.ls o t b.pq b.qr b.rp b.news b.starts b.unions ready a b.rule b.room
          end os
          (subst (λ (k : Machine). Worked end k x.full rims os) b.after w);
    }

pub step_declared : (m m' : Machine) (o : Operation) (d : Edge) (full rims : List Ring) → operation m o ≡ declared d m' → Ready m full rims
    → Step m m' o full rims
unfolding effect OnlyStart OnlyBorder full_at
step_declared m m' o d [] rims h ready =
    let b = declared_of m (effect o m.used m.loops) d m' h in
    absurd (subst (OnlyStart o m.used) (sym (ap (effect o m.used) ready.shows) ∙ b.effect) (only_start o m.used))
step_declared m m' o d ([] ∷ ws) rims h ready = absurd ready.good.0
step_declared m m' o d ((e ∷ []) ∷ ws) rims h ready = let k = ready.good.0.1 in absurd (omega arith)
step_declared m m' o d ((e ∷ (f ∷ ps)) ∷ ws) rims h ready =
    let b = declared_of m (effect o m.used m.loops) d m' h in
    let a : OnlyBorder o e f ps ws (marks (marking_of b.ls d b.rim)) =
    subst (OnlyBorder o e f ps ws) (sym (ap (effect o m.used) ready.shows) ∙ b.effect) (only_border o m.used e f ps ws) in
    let next = with_ring (after_border e f ps) ws in
    let rims' = with_rim (after_border e f ps) (rim_of e f ps) rims in
    record {
      full_after_lem = next;
      rims_after = rims';
      follows = ap (λ (k : Operation). full_at k m.used e (f ∷ ps) ws) (sym a.0);
      used = ap (λ (k : Machine). k.used) b.after ∙ omega (arith, ap new_numbers a.0);
      most = subst (λ (k : Machine). k.most_places ≡ max m.most_places (places k.loops)) (sym b.after) refl;
      ready = subst (λ (k : Machine). Ready k next rims') (sym b.after)
          (ready_border m e f ps ws rims b.ls o d b.rim ready a b.room);
      worked =
          λ end os w. worked_border m e f ps ws rims b.ls o d b.rim ready a b.room end os
          (subst (λ (k : Machine). Worked end k next rims' os) b.after w);
    }

pub none_shown : (ls : List Ring) → shown_all ls ≡ [] → ls ≡ []
none_shown [] h = refl
none_shown (l ∷ ls) h = let z : suc (length (shown_all ls)) ≡ 0 = ap length h in absurd (omega arith)

-- all operations
pub works : {m n : Machine} {os : List Operation} → Works m os n → (full rims : List Ring) → Ready m full rims → n.loops ≡ []
    → Worked n m full rims os
works {m} w_none full rims ready e =
    subst (λ (k : List Ring). Worked m m k rims []) (sym (none_shown full (sym ready.shows ∙ e)))
    (record { order = []; run = r_done; in_places = tt; in_loops = tt; most_places_lem = refl; most_loops_lem = refl; numbers = refl })
works {m} {n} (w_built {m' = m'} {o = o} {os = os} {t = t} h w) full rims ready e =
    let r = step_built m m' o t full rims h ready in r.worked n os (works w r.full_after_lem r.rims_after r.ready e)
works {m} {n} (w_declared {m' = m'} {o = o} {os = os} {d = d} h w) full rims ready e =
    let r = step_declared m m' o d full rims h ready in r.worked n os (works w r.full_after_lem r.rims_after r.ready e)

pub works_ready : {m n : Machine} {os : List Operation} → Works m os n → (full rims : List Ring) → Ready m full rims
    → (after : List Ring) × (ended : List Ring) × Ready n after ended
works_ready w_none full rims ready = (full, rims, ready)
works_ready {m} (w_built {m' = m'} {o = o} {t = t} h w) full rims ready =
    let r = step_built m m' o t full rims h ready in works_ready w r.full_after_lem r.rims_after r.ready
works_ready {m} (w_declared {m' = m'} {o = o} {d = d} h w) full rims ready =
    let r = step_declared m m' o d full rims h ready in works_ready w r.full_after_lem r.rims_after r.ready

-- the counts stated stay
pub works_stated : {m n : Machine} {os : List Operation} → Works m os n → n.stated ≡ m.stated
works_stated w_none = refl
works_stated {m} (w_built {m' = m'} {o = o} {t = t} h w) =
    works_stated w ∙ ap (λ (k : Machine). k.stated) (built_of m (effect o m.used m.loops) t m' h).after
works_stated {m} (w_declared {m' = m'} {o = o} {d = d} h w) =
    works_stated w ∙ ap (λ (k : Machine). k.stated) (declared_of m (effect o m.used m.loops) d m' h).after
