-- A run over any vertex numbers is accepted by the machine: it builds the same triangles, each vertex under the number that it
-- gets in the order of first use.
-- Assumes nothing.
use Prim.Native.Nat.{ℕ, suc, ◌+◌, ◌≤◌, max}
use native.Mathlib.Omega.{arith}
use mathlib.Core.Bool.{true, false}
use mathlib.Core.List.{List, [], ◌∷◌, ◌++◌}
use mathlib.Core.Path.{◌≡◌, refl, sym, ap, ap₂, ◌∙◌, subst}
use lib.ListN.{length, length-append}
use Rattle.rules.specs.declared.Triangle.{Triangle}
use Rattle.rules.specs.declared.Operation.{Operation}
use Rattle.rules.specs.declared.Operation.TheVariants.{New, Forward, Backward, Border, Split, Close, Union, Start}
use Rattle.rules.specs.Triangle.{tri, edge, at_p, at_q, at_r, In, here, there}
use Rattle.rules.specs.Ring.{Node, Ring, vertex, reached, places}
use Rattle.rules.specs.Table.{glued, fresh, at_rest, effect, edge_rule}
use Rattle.rules.specs.Machine.{Machine, after_build, after_mark, built, operation}
use Rattle.book.specs.Shown.{shown_all}
use Rattle.book.proofs.Shown.{Live}
use Rattle.book.proofs.Parts.{building_of, marking_of}
use Rattle.choice_theory.specs.Spots.{Unused}
use Rattle.choice_theory.specs.Full.{with_ring, new_numbers}
use Rattle.choice_theory.specs.Works.{Works, w_none, w_built, w_declared}
use Rattle.choice_theory.proofs.Steps.Surgery.{triangle_at, after_border, Surgery, on_new, on_forward, on_backward, on_close, on_split}
use Rattle.choice_theory.proofs.Steps.Surgery.{on_union}
use Rattle.choice_theory.proofs.Steps.Tally.{glues_a, glues_b, side_of, unions_of}
use Rattle.mesh_theory.proofs.Fans.Corners.{in_next}
use Rattle.choice_theory.proofs.Steps.Effects.{allows_any, border_marks}
use Rattle.choice_theory.proofs.Runs.Machine.{Run, r_done, r_start, r_build, r_border}
use Rattle.choice_theory.proofs.Places.Numbering.{Met}
use Rattle.choice_theory.proofs.Runs.Tracking.{first_ring, shown_places, shown_loops, peak, Within, numbered_after, numbering}
use Rattle.choice_theory.proofs.Runs.Tracking.{numbering_grows, Agrees}
use Rattle.choice_theory.proofs.Steps.Rules.{Rules, rule_of, rule_fresh}
use Rattle.choice_theory.proofs.Steps.Operating.{within_of, operation_built, operation_declared}
use Rattle.choice_theory.proofs.Places.Renaming.{node, nodes, rings, triangles, vertex_node, shown_places_named, shown_loops_named}
use Rattle.choice_theory.proofs.Places.Renaming.{live_named, length_triangles, surgery_named, border_named}

-- what is built stays built
pub run_keeps : {M B : List Triangle} {rims ls : List Ring} {os : List Operation} {R : List Triangle} → Run M B rims ls os R → (x y z : ℕ)
    → In x y z B → In x y z M
run_keeps r_done x y z i = i
run_keeps (r_start np nq nr d run) x y z i = run_keeps run x y z (there i)
run_keeps (r_build v s ra rb d new run) x y z i = run_keeps run x y z (there i)
run_keeps (r_border v run) x y z i = run_keeps run x y z i

pub run_count : {M B : List Triangle} {rims ls : List Ring} {os : List Operation} {R : List Triangle} → Run M B rims ls os R
    → length M ≡ length R + length B
run_count r_done = omega arith
run_count (r_start np nq nr d run) = let h = run_count run in omega arith
run_count (r_build v s ra rb d new run) = let h = run_count run in omega arith
run_count (r_border v run) = run_count run

grows_by : {M B : List Triangle} {rims ls : List Ring} {os : List Operation} {R : List Triangle} (run : Run M B rims ls os R) (vs : List ℕ)
    → length vs ≤ length (numbering vs run)
grows_by run vs =
    let h = numbering_grows run vs in
    let k = length-append vs h.0 in
    let e : length (numbering vs run) ≡ length (vs ++ h.0) = ap length h.1 in
    omega arith

count_after : {e f : Node} {ps : List Node} {ws ls : List Ring} {c : ℕ} (o : Operation) (vs : List ℕ) → Surgery e f ps ws ls c o
    → length (numbered_after o c vs) ≡ length vs + new_numbers o
count_after {c = c} New vs (on_new q) = length-append vs (c ∷ [])
count_after Forward vs (on_forward p q qs sh k op l) = omega arith
count_after Backward vs (on_backward q qs p sh k op l) = omega arith
count_after Close vs (on_close p sh k op op' l) = omega arith
count_after (Split i) vs (on_split us p ws sh m lu lv k l) = omega arith
count_after (Union w j) vs (on_union before us p ws behind sh m i k l) = omega arith
count_after {e = e} {f = f} {ps = ps} {ws = ws} {ls = ls} {c = c} Border vs x' = elim x' [ ]
count_after {e = e} {f = f} {ps = ps} {ws = ws} {ls = ls} {c = c} Start vs x'' = elim x'' [ ]

module _ (name : ℕ → ℕ) (M : List Triangle) (tells : (x y : ℕ) → Met x M → name x ≡ name y → x ≡ y) where
  -- a triangle under other names
  pub in_named : (B : List Triangle) (x y z : ℕ) → In x y z (triangles name B)
      → (u : ℕ) × (v : ℕ) × (w : ℕ) × In u v w B × (name u ≡ x) × (name v ≡ y) × (name w ≡ z)
  in_named (t ∷ B) x y z (here (at_p a b c)) = (t.p, t.q, t.r, here (at_p refl refl refl), a, b, c)
  in_named (t ∷ B) x y z (here (at_q a b c)) = (t.q, t.r, t.p, here (at_q refl refl refl), a, b, c)
  in_named (t ∷ B) x y z (here (at_r a b c)) = (t.r, t.p, t.q, here (at_r refl refl refl), a, b, c)
  in_named (t ∷ B) x y z (there i) = let r = in_named B x y z i in (r.0, r.1, r.2, there r.3, r.4, r.5, r.6)
  in_named [] x y z x3 = elim x3 [ ]

  -- an unused edge stays unused
  pub unused_named : (B : List Triangle) → ((x y z : ℕ) → In x y z B → In x y z M) → (x y : ℕ) → Unused x y B
      → Unused (name x) (name y) (triangles name B)
  unused_named B sub x y h z i =
      let r = in_named B (name x) (name y) z i in
      let a : r.0 ≡ x = tells r.0 x (r.1, r.2, sub _ _ _ r.3) r.4 in
      let b : r.1 ≡ y = tells r.1 y (r.2, r.0, in_next (sub _ _ _ r.3)) r.5 in
      h r.2 (subst (λ (v : ℕ). In x v r.2 B) b (subst (λ (v : ℕ). In v r.1 r.2 B) a r.3))

  both_named : (B : List Triangle) → ((x y z : ℕ) → In x y z B → In x y z M) → (x y : ℕ) → Unused x y B × Unused y x B
      → Unused (name x) (name y) (triangles name B) × Unused (name y) (name x) (triangles name B)
  both_named B sub x y h = (unused_named B sub x y h.0, unused_named B sub y x h.1)

  -- what the machine comes to
  pub record Reached (m : Machine) (os : List Operation) (u a b : ℕ) : Type 0 where
    pub end : Machine
    pub works : Works m os end
    pub all_built : end.triangles ≡ triangles name M
    pub no_loop : end.loops ≡ []
    pub used : end.used ≡ u
    pub most_places_lem : end.most_places ≡ a
    pub most_loops_lem : end.most_loops ≡ b
    pub stated : end.stated ≡ m.stated

  reached_at : (m : Machine) (os : List Operation) (u a b a' b' : ℕ) → a ≡ a' → b ≡ b' → Reached m os u a b → Reached m os u a' b'
  reached_at m os u a b a' b' h k r = subst (λ (x : ℕ). Reached m os u x b') h (subst (λ (x : ℕ). Reached m os u a x) k r)

  -- the triangle that an operation builds, and the machine after it
  abbrev built_by : Node → Node → ℕ → Triangle
  built_by e f c = triangle_at (node name e) (node name f) (name c)

  abbrev machine_by : Machine → Node → Node → ℕ → Operation → List Ring → Machine
  machine_by m e f c o ls =
      after_build m (building_of (shown_all (rings name ls)) (built_by e f c) glued (side_of (glues_a o)) (side_of (glues_b o))
      (new_numbers o) 0
      (unions_of o))

  -- an operation that builds
  module _ (m : Machine) (B : List Triangle) (ws ls : List Ring) (e f : Node) (ps : List Node) (c : ℕ) (o : Operation) (vs : List ℕ)
      (live : Live ws) (does : Surgery e f ps ws ls c o)
      (rule_a : glues_a o ≡ false → Unused (vertex e) c B × Unused c (vertex e) B)
      (rule_b : glues_b o ≡ false → Unused c (vertex f) B × Unused (vertex f) c B)
      (apart : ((vertex e ≡ vertex f) → ⊥) × ((vertex f ≡ c) → ⊥) × ((c ≡ vertex e) → ⊥))
      (sub : (x y z : ℕ) → In x y z (triangle_at e f c ∷ B) → In x y z M)
      (ht : m.triangles ≡ triangles name B) (hl : m.loops ≡ shown_all (rings name ((e ∷ (f ∷ ps)) ∷ ws))) (hu : m.used ≡ length vs)
      (next : o ≡ New → name c ≡ length vs)
      (vertices : length (numbered_after o c vs) ≤ m.stated.vertices) (many : suc (length B) ≤ m.stated.triangles)
      (in_places : shown_places ls ≤ m.stated.places)
      (in_loops : shown_loops ls ≤ m.stated.loops) where
    named : tri (name (vertex f)) (name (vertex e)) (name c) ≡ built_by e f c
    named = ap₂ (λ (x y : ℕ). tri x y (name c)) (sym (vertex_node name f)) (sym (vertex_node name e))

    used_next : m.used + new_numbers o ≡ length (numbered_after o c vs)
    used_next = ap (λ (u : ℕ). u + new_numbers o) hu ∙ sym (count_after o vs does)

    rules_named : Rules (tri (name (vertex f)) (name (vertex e)) (name c)) (glues_a o) (glues_b o) (triangles name B)
    rules_named = record {
      apart = (
        λ h. apart.0 (sym (tells (vertex f) (vertex e) met_f h)),
        λ h. apart.2 (sym (tells (vertex e) c met_e h)),
        λ h. apart.1 (sym (tells c (vertex f) met_c h)),
      );
      rule_a = λ g. both_named B below (vertex e) c (rule_a g);
      rule_b = λ g. both_named B below c (vertex f) (rule_b g);
    }
      where
        below : (x y z : ℕ) → In x y z B → In x y z M
        below x y z i = sub x y z (there i)

        met_f : Met (vertex f) M
        met_f = (vertex e, c, sub _ _ _ (here (at_p refl refl refl)))

        met_e : Met (vertex e) M
        met_e = (c, vertex f, sub _ _ _ (here (at_q refl refl refl)))

        met_c : Met c M
        met_c = (vertex f, vertex e, sub _ _ _ (here (at_r refl refl refl)))

    rule_next : edge_rule (built_by e f c) glued (side_of (glues_a o)) (side_of (glues_b o)) m.triangles ≡ true
    rule_next =
        rule_of (built_by e f c) (glues_a o) (glues_b o) m.triangles
        (subst (λ (ts : List Triangle). Rules (built_by e f c) (glues_a o) (glues_b o) ts) (sym ht)
        (subst (λ (t : Triangle). Rules t (glues_a o) (glues_b o) (triangles name B)) named rules_named))

    accepts_build : operation m o ≡ built (built_by e f c) (machine_by m e f c o ls)
    unfolding effect
    accepts_build =
        operation_built m o (shown_all (rings name ls)) (built_by e f c) glued (side_of (glues_a o)) (side_of (glues_b o)) (new_numbers o) 0
        (unions_of o)
        (ap (effect o m.used) hl
        ∙ allows_any o m.used (node name e) (node name f) (nodes name ps) (rings name ws) (rings name ls) (name c)
        (live_named name ws live) (surgery_named name e f ps ws ls c o does) (λ h. next h ∙ sym hu))
        (within_of (machine_by m e f c o ls)
        (let h = used_next in omega arith)
        (let h : length m.triangles ≡ length (triangles name B) = ap length ht in let k = length_triangles name B in omega arith)
        (let h = shown_places_named name ls in omega arith)
        (let h = shown_loops_named name ls in omega arith))
        rule_next

    reached_build : (os : List Operation) (u a b : ℕ) → Reached (machine_by m e f c o ls) os u a b → Reached m (o ∷ os) u a b
    reached_build os u a b r = record {
      end = r.end;
      works = w_built accepts_build r.works;
      all_built = r.all_built;
      no_loop = r.no_loop;
      used = r.used;
      most_places_lem = r.most_places_lem;
      most_loops_lem = r.most_loops_lem;
      stated = r.stated;
    }

  -- start
  abbrev machine_start : Machine → Machine
  machine_start m =
      let u = m.used in
      after_build m (building_of (first_ring u (suc u) (suc (suc u))) (tri u (suc u) (suc (suc u))) fresh fresh fresh 3 1 0)

  module _ (m : Machine) (B : List Triangle) (p q r : ℕ) (vs : List ℕ)
      (none_p : (m n : ℕ) → In p m n B → ⊥) (none_q : (m n : ℕ) → In q m n B → ⊥) (none_r : (m n : ℕ) → In r m n B → ⊥)
      (apart : ((p ≡ q) → ⊥) × ((q ≡ r) → ⊥) × ((r ≡ p) → ⊥)) (sub : (x y z : ℕ) → In x y z (tri p q r ∷ B) → In x y z M)
      (ht : m.triangles ≡ triangles name B) (hl : m.loops ≡ []) (hu : m.used ≡ length vs)
      (next : (name p ≡ length vs) × (name q ≡ suc (length vs)) × (name r ≡ suc (suc (length vs))))
      (vertices : length (vs ++ (p ∷ (q ∷ (r ∷ [])))) ≤ m.stated.vertices) (many : suc (length B) ≤ m.stated.triangles)
      (in_places : shown_places (first_ring p q r) ≤ m.stated.places) (in_loops : shown_loops (first_ring p q r) ≤ m.stated.loops) where
    at_p' : name p ≡ m.used
    at_p' = next.0 ∙ sym hu

    at_q' : name q ≡ suc m.used
    at_q' = next.1 ∙ ap suc (sym hu)

    at_r' : name r ≡ suc (suc m.used)
    at_r' = next.2 ∙ ap (λ (u : ℕ). suc (suc u)) (sym hu)

    first_named : tri (name p) (name q) (name r) ≡ tri m.used (suc m.used) (suc (suc m.used))
    first_named = rw (at_p', at_q', at_r') refl

    ring_named : first_ring m.used (suc m.used) (suc (suc m.used)) ≡ shown_all (rings name (first_ring p q r))
    unfolding reached
    ring_named = rw (at_p', at_q', at_r') refl

    three_more : m.used + 3 ≡ length (vs ++ (p ∷ (q ∷ (r ∷ []))))
    three_more = let h = length-append vs (p ∷ (q ∷ (r ∷ []))) in omega (arith, hu)

    rule_start : edge_rule (tri m.used (suc m.used) (suc (suc m.used))) fresh fresh fresh m.triangles ≡ true
    rule_start =
        subst (λ (ts : List Triangle). edge_rule (tri m.used (suc m.used) (suc (suc m.used))) fresh fresh fresh ts ≡ true) (sym ht)
        (subst (λ (t : Triangle). edge_rule t fresh fresh fresh (triangles name B) ≡ true) first_named
        (rule_fresh (tri (name p) (name q) (name r)) (triangles name B) (
          λ h. apart.0 (tells p q (q, r, sub _ _ _ (here (at_p refl refl refl))) h),
          λ h. apart.1 (tells q r (r, p, sub _ _ _ (here (at_q refl refl refl))) h),
          λ h. apart.2 (tells r p (p, q, sub _ _ _ (here (at_r refl refl refl))) h),
        )
        (both_named B below p q (λ z i. none_p q z i, λ z i. none_q p z i))
        (both_named B below q r (λ z i. none_q r z i, λ z i. none_r q z i))
        (both_named B below r p (λ z i. none_r p z i, λ z i. none_p r z i))))
      where
        below : (x y z : ℕ) → In x y z B → In x y z M
        below x y z i = sub x y z (there i)

    accepts_start : operation m Start ≡ built (tri m.used (suc m.used) (suc (suc m.used))) (machine_start m)
    unfolding effect at_rest places reached
    accepts_start =
        operation_built m Start (first_ring m.used (suc m.used) (suc (suc m.used)))
        (tri m.used (suc m.used) (suc (suc m.used))) fresh fresh fresh 3 1 0
        (ap (effect Start m.used) hl)
        (within_of (machine_start m)
        (let h = three_more in omega arith)
        (let h : length m.triangles ≡ length (triangles name B) = ap length ht in let k = length_triangles name B in omega arith)
        in_places in_loops)
        rule_start

    reached_start : (os : List Operation) (u a b : ℕ) → Reached (machine_start m) os u a b → Reached m (Start ∷ os) u a b
    reached_start os u a b r = record {
      end = r.end;
      works = w_built accepts_start r.works;
      all_built = r.all_built;
      no_loop = r.no_loop;
      used = r.used;
      most_places_lem = r.most_places_lem;
      most_loops_lem = r.most_loops_lem;
      stated = r.stated;
    }

  -- border
  abbrev machine_border : Machine → Node → Node → List Node → List Ring → ℕ → Machine
  machine_border m e f ps ws n =
      after_mark m (marking_of (shown_all (with_ring (after_border (node name e) (node name f) (nodes name ps)) (rings name ws)))
      (edge (vertex (node name e)) (vertex (node name f))) n)

  pub reach : {B : List Triangle} {rims ls : List Ring} {os : List Operation} {R : List Triangle} (run : Run M B rims ls os R) (m : Machine)
      (vs : List ℕ)
      → m.triangles ≡ triangles name B → m.loops ≡ shown_all (rings name ls) → m.used ≡ length vs → Agrees name vs run
      → length (numbering vs run) ≤ m.stated.vertices → length R + length B ≤ m.stated.triangles
      → Within shown_places m.stated.places run → Within shown_loops m.stated.loops run
      → Reached m os (length (numbering vs run)) (peak shown_places m.most_places run) (peak shown_loops m.most_loops run)
  unfolding effect places reached
  reach r_done m vs ht hl hu ag hv hm hp hb = record {
    end = m;
    works = w_none;
    all_built = ht;
    no_loop = hl;
    used = hu;
    most_places_lem = refl;
    most_loops_lem = refl;
    stated = refl;
  }
  reach {B} (r_start {p = p} {q = q} {r = r} {os = os} {R = R} np nq nr d run) m vs ht hl hu ag hv hm hp hb =
      let next = vs ++ (p ∷ (q ∷ (r ∷ []))) in
      let k = grows_by run next in
      reached_start m B p q r vs np nq nr d (run_keeps run) ht hl hu ag.0 (omega arith) (omega arith) hp.0 hb.0 os
      (length (numbering next run)) (peak shown_places (max m.most_places (shown_places (first_ring p q r))) run)
      (peak shown_loops (max m.most_loops (shown_loops (first_ring p q r))) run)
      (reach run (machine_start m) next
      (ap₂ (λ (t : Triangle) (ts : List Triangle). t ∷ ts)
      (sym (first_named m B p q r vs np nq nr d (run_keeps run) ht hl hu ag.0 (omega arith) (omega arith) hp.0 hb.0)) ht)
      (ring_named m B p q r vs np nq nr d (run_keeps run) ht hl hu ag.0 (omega arith) (omega arith) hp.0 hb.0)
      (three_more m B p q r vs np nq nr d (run_keeps run) ht hl hu ag.0 (omega arith) (omega arith) hp.0 hb.0) ag.1 hv
      (omega arith) hp.1 hb.1)
  reach {B} (r_build {ws = ws} {ls = ls} {e = e} {f = f} {ps = ps} {c = c} {o = o} {os = os} {R = R} v s ra rb d new run) m vs ht hl hu ag
      hv hm hp hb =
      let next = numbered_after o c vs in
      let k = grows_by run next in
      reached_build m B ws ls e f ps c o vs v.1 s ra rb d (run_keeps run) ht hl hu ag.0 (omega arith) (omega arith) hp.0 hb.0 os
      (length (numbering next run)) (peak shown_places (max m.most_places (shown_places ls)) run)
      (peak shown_loops (max m.most_loops (shown_loops ls)) run)
      (reached_at (machine_by m e f c o ls) os (length (numbering next run))
      (peak shown_places (max m.most_places (places (shown_all (rings name ls)))) run)
      (peak shown_loops (max m.most_loops (length (shown_all (rings name ls)))) run) _ _
      (ap (λ (x : ℕ). peak shown_places (max m.most_places x) run) (shown_places_named name ls))
      (ap (λ (x : ℕ). peak shown_loops (max m.most_loops x) run) (shown_loops_named name ls))
      (reach run (machine_by m e f c o ls) next
      (ap₂ (λ (t : Triangle) (ts : List Triangle). t ∷ ts)
      (sym (named m B ws ls e f ps c o vs v.1 s ra rb d (run_keeps run) ht hl hu ag.0 (omega arith) (omega arith) hp.0 hb.0))
      ht)
      refl
      (used_next m B ws ls e f ps c o vs v.1 s ra rb d (run_keeps run) ht hl hu ag.0 (omega arith) (omega arith) hp.0 hb.0)
      ag.1 hv (omega arith) hp.1 hb.1))
  reach {B} (r_border {ws = ws} {e = e} {f = f} {ps = ps} {os = os} {R = R} v run) m vs ht hl hu ag hv hm hp hb =
      let mark = border_marks m.used (node name e) (node name f) (nodes name ps) (rings name ws) in
      let old = with_ring (after_border e f ps) ws in
      let new = with_ring (after_border (node name e) (node name f) (nodes name ps)) (rings name ws) in
      let m' = machine_border m e f ps ws mark.0 in
      let same : new ≡ rings name old = sym (border_named name e f ps ws) in
      let in_places : shown_places new ≡ shown_places old = ap shown_places same ∙ shown_places_named name old in
      let in_loops : shown_loops new ≡ shown_loops old = ap shown_loops same ∙ shown_loops_named name old in
      let k = grows_by run vs in
      let r = reach run m' vs ht (ap shown_all same) hu ag hv hm hp.1 hb.1 in
      record {
        end = r.end;
        works =
            w_declared
            (operation_declared m Border (shown_all new) (edge (vertex (node name e)) (vertex (node name f))) mark.0
            (ap (effect Border m.used) hl ∙ mark.1)
            (within_of m' (omega (arith, hu))
            (let h : length m.triangles ≡ length (triangles name B) = ap length ht in let j = length_triangles name B in omega arith)
            (let h = hp.0 in omega arith) (let h = hb.0 in omega arith)))
            r.works;
        all_built = r.all_built;
        no_loop = r.no_loop;
        used = r.used;
        most_places_lem = r.most_places_lem ∙ ap (λ (x : ℕ). peak shown_places (max m.most_places x) run) in_places;
        most_loops_lem = r.most_loops_lem ∙ ap (λ (x : ℕ). peak shown_loops (max m.most_loops x) run) in_loops;
        stated = r.stated;
      }
