-- One law for each way through a step: the operation breaks off, is refused, fails the edge rule, builds a triangle or marks an edge.
-- Assumes nothing.
use Prim.Native.Nat.{ℕ, ◌+◌, ◌*◌, ◌≤◌, ◌<◌}
use native.Mathlib.Omega.{arith}
use mathlib.Core.Bool.{Bool, true, false, false≢true}
use mathlib.Core.List.{List, ◌∷◌}
use mathlib.Core.Path.{◌≡◌, refl, sym, ap, ◌∙◌, subst}
use lib.ListN.{length}
use borrow.Author.Tests.{eq-eqb}
use Rattle.rules.specs.declared.Triangle.{Triangle}
use Rattle.rules.specs.declared.Counts.{Counts}
use Rattle.rules.specs.declared.Operation.{Operation}
use Rattle.rules.specs.declared.Operation.TheVariants.{New, Forward, Backward, Border, Split, Close, Union, Start}
use Rattle.rules.specs.Limits.{max_places, max_vertices, in_range}
use Rattle.rules.specs.Triangle.{edge, triangles_of, corners}
use Rattle.rules.specs.Count.{occurs}
use Rattle.rules.specs.Code.{breaks_off, read, read_operation}
use Rattle.rules.specs.Table.{edge_rule}
use Rattle.rules.specs.Machine.{Machine, Step, refused, built, declared, test, operation}
use Rattle.rules.specs.Book.{Book, entered}
use Rattle.rules.specs.Unpack.{numbers_of}
use Rattle.book.specs.Consistent.{Consistent, Ranges}
use Rattle.book.proofs.Kept.{kept}
use Rattle.book.proofs.Growing.{grows}
use Rattle.book.specs.Bounded.{Bounded}
use Rattle.book.proofs.Bounds.{bounded_ranges, bounded_kept, within_each, Within}
use Rattle.book.proofs.EdgeRule.{Simple, refusal_of, never_18, test_passed}
use Rattle.mesh_theory.specs.Chains.Corner.{first_triangles}
use Rattle.mesh_theory.specs.Chains.Linked.{relinked}
use Rattle.mesh_theory.proofs.Chains.Linking.{written_linked}
use Rattle.mesh_theory.proofs.Chains.Order.{as_built, same_rule}
use Rattle.counting.proofs.Triangles.{written_long}
use Rattle.rules.specs.Build.{with_triangle}
use Rattle.cutborder.specs.declared.Front.{Front}
use Rattle.cutborder.specs.declared.Plan.{Plan}
use Rattle.std.specs.Prelude.{Ok, Err}
use Rattle.rules.specs.declared.refusal.Refusal.{Refusal}
use Rattle.rules.specs.declared.refusal.Refusal.TheVariants.{NotAllowed, ExceedsStated}
use Rattle.rules.specs.Refusal.{number_of}
use Rattle.cutborder.specs.declared.Action.TheVariants.{Builds, Marks}
use Rattle.border_theory.specs.Memory.Moves.{marked_held}
use Rattle.border_theory.specs.Memory.Decision.{Decided, proposed, proposed_by, rest_proposed, start_plan, room_for, room_by, decided_by}
use Rattle.border_theory.specs.Memory.Decision.{decided}
use Rattle.border_theory.specs.Memory.Decision.{side_of}
use Rattle.border_theory.specs.Memory.Decision.{held_after, built_front, marked_front}
use Rattle.border_theory.specs.Memory.Keeps.{Ready, BuildsIt, MarksIt, Decides}
use Rattle.border_theory.proofs.Memory.Ready.{ready}
use Rattle.border_theory.proofs.Memory.Deciding.{decides}
use Rattle.choice_theory.proofs.OneFan.Steps.{fanned_built, fanned_declared}
use Rattle.unpack_theory.specs.Stepped.{Going}
use Rattle.unpack_theory.specs.Turn.{stops, turn_by, turn_of, turn}
use Rattle.unpack_theory.specs.Met.{met_after}
use Rattle.unpack_theory.specs.Runs.{Runs, bits_from, Steps}
use Rattle.unpack_theory.specs.Rule.{rule_at, RuleIs}
use Rattle.unpack_theory.proofs.Writing.{numbers_more}
use Rattle.unpack_theory.proofs.Meeting.{met_long, unmet_before}
use Rattle.counting.proofs.Counts.{same_yes}
use Rattle.counting.proofs.Ranges.{in_range_lem, InRange}

-- a corner of the latest triangle occurs
corner_p : (t : Triangle) (us : List Triangle) → 1 ≤ occurs t.p (corners (t ∷ us))
unfolding occurs corners
corner_p t us = omega (arith, same_yes t.p)

corner_q : (t : Triangle) (us : List Triangle) → 1 ≤ occurs t.q (corners (t ∷ us))
unfolding occurs corners
corner_q t us = omega (arith, same_yes t.q)

corner_r : (t : Triangle) (us : List Triangle) → 1 ≤ occurs t.r (corners (t ∷ us))
unfolding occurs corners
corner_r t us = omega (arith, same_yes t.r)

test_false : (b : Bool) (n : ℕ) (s : Step) → b ≡ false → test b n s ≡ refused n
unfolding test
test_false true n s h = absurd (false≢true (sym h))
test_false false n s h = refl

-- with no live loop no edge is marked
not_refused : (k : Refusal) (x y : ℕ) → ◌≡◌ {A = Decided} (Err k) (Ok (Marks x y)) → ⊥
not_refused k x y e = let z : ◌≡◌ {A = ℕ} 0 1 = cc in omega arith

not_planned : (b : Bool) (p : Plan) (x y : ℕ) → room_by b p ≡ Ok (Marks x y) → ⊥
not_planned true p x y e = let z : ◌≡◌ {A = ℕ} 0 1 = cc in omega arith
not_planned false p x y e = not_refused ExceedsStated x y e

no_rest : (n : ℕ) (s : Front) (o : Operation) (x y : ℕ) → decided_by n s (rest_proposed s.used o) ≡ Ok (Marks x y) → ⊥
unfolding start_plan
no_rest n s New x y e = not_refused NotAllowed x y e
no_rest n s Forward x y e = not_refused NotAllowed x y e
no_rest n s Backward x y e = not_refused NotAllowed x y e
no_rest n s Border x y e = not_refused NotAllowed x y e
no_rest n s (Split i) x y e = not_refused NotAllowed x y e
no_rest n s Close x y e = not_refused NotAllowed x y e
no_rest n s (Union k j) x y e = not_refused NotAllowed x y e
no_rest n s Start x y e = not_planned (room_for n s _) _ x y e

module _ (M : Machine) (s : Front) (ts m cs ks : List ℕ) (g : Runs M s ts m cs ks) where
  abbrev book : Book
  book = record { machine = M; borders = g.borders }

  ranges : Ranges M
  ranges = bounded_ranges book g.bounded

  pub runs_ready : Ready max_places s m
  runs_ready = ready max_places s m M g.keeps ranges

  counts : InRange s.stated
  counts = in_range_lem s.stated (subst (λ (c : Counts). in_range c ≡ true) g.keeps.stated ranges.stated)

  decides_it : (o : Operation) (d : Decided) → decided max_places s m o ≡ d → Decides max_places s m M o d
  decides_it o d e = subst (Decides max_places s m M o) e (decides max_places s m M g.keeps o ranges)

  -- the triangles of the buffer
  first_built : first_triangles s.built ts ≡ as_built M.triangles
  first_built = ap triangles_of g.numbers

  rule_of : (o : Operation) (p : Plan) → Bool
  rule_of o p = edge_rule p.triangle (side_of p.pq) (side_of p.qr) (side_of p.rp) M.triangles

  -- the rule holds at the operations that are not tested for it
  simple_rule : (o : Operation) (p : Plan) → Simple o → BuildsIt max_places s m M o p → (b : Bool) → rule_of o p ≡ b → b ≡ true
  unfolding rule_of
  simple_rule o p h d true e = refl
  simple_rule o p h d false e =
      absurd (never_18 book g.consistent o h (ap refusal_of (d.step ∙ test_false (rule_of o p) 18 (built p.triangle d.next) e)))

  tested_rule : (o : Operation) (p : Plan)
      → edge_rule p.triangle (side_of p.pq) (side_of p.qr) (side_of p.rp) (first_triangles s.built ts) ≡ rule_of o p
  unfolding rule_of
  tested_rule o p =
      ap (λ (us : List Triangle). edge_rule p.triangle (side_of p.pq) (side_of p.qr) (side_of p.rp) us) first_built
      ∙ same_rule p.triangle (side_of p.pq) (side_of p.qr) (side_of p.rp) M.triangles

  rule_same : (o : Operation) (p : Plan) → BuildsIt max_places s m M o p → rule_at o p (first_triangles s.built ts) ≡ rule_of o p
  rule_same New p d = sym (simple_rule New p tt d (rule_of New p) refl)
  rule_same Forward p d = tested_rule Forward p
  rule_same Backward p d = tested_rule Backward p
  rule_same Border p d = sym (simple_rule Border p tt d (rule_of Border p) refl)
  rule_same (Split i) p d = tested_rule (Split i) p
  rule_same Close p d = sym (simple_rule Close p tt d (rule_of Close p) refl)
  rule_same (Union k j) p d = tested_rule (Union k j) p
  rule_same Start p d = sym (simple_rule Start p tt d (rule_of Start p) refl)

  rule_told : (o : Operation) (p : Plan) (b : Bool) → BuildsIt max_places s m M o p → RuleIs ts cs o p b → rule_of o p ≡ b
  rule_told o p b d r = sym (r s.built g.chains ∙ rule_same o p d)

  -- ---- the ways through a step

  pub turn_broken : (xs : List ℕ) → read_operation xs ≡ breaks_off → turn M xs ≡ stops 15
  unfolding turn
  turn_broken xs e = ap (turn_of M) e

  turned : (xs ys : List ℕ) (o : Operation) → read_operation xs ≡ read o ys → (c : Step) → operation M o ≡ c → turn M xs ≡ turn_by ys c
  unfolding turn
  turned xs ys o reads c e = ap (turn_of M) reads ∙ ap (turn_by ys) e

  module _ (xs ys : List ℕ) (o : Operation) (reads : read_operation xs ≡ read o ys) where
    pub turn_refused : (k : Refusal) → decided max_places s m o ≡ Err k → turn M xs ≡ stops (number_of k)
    turn_refused k e = turned xs ys o reads (refused (number_of k)) (decides_it o (Err k) e)

    pub turn_ruled : (p : Plan) → decided max_places s m o ≡ Ok (Builds p) → (b : Bool) → RuleIs ts cs o p b → b ≡ false
        → turn M xs ≡ stops 18
    unfolding rule_of
    turn_ruled p e b r h =
        let d = decides_it o (Ok (Builds p)) e in
        turned xs ys o reads (refused 18) (d.step ∙ test_false (rule_of o p) 18 (built p.triangle d.next) (rule_told o p b d r ∙ h))

  module _ (o : Operation) (p : Plan) (e : decided max_places s m o ≡ Ok (Builds p)) (b : Bool) (r : RuleIs ts cs o p b)
      (holds : b ≡ true) where
    does : BuildsIt max_places s m M o p
    does = decides_it o (Ok (Builds p)) e

    made : operation M o ≡ built p.triangle does.next
    unfolding rule_of
    made = does.step ∙ test_passed (rule_of o p) 18 (built p.triangle does.next) (rule_told o p b does r ∙ holds)

    grown : (does.next.triangles ≡ p.triangle ∷ M.triangles) × (does.next.stated ≡ M.stated)
    grown = grows M o (built p.triangle does.next) made

    kept_next : Consistent (record { machine = does.next; borders = g.borders })
    kept_next = subst (λ (c : Step). Consistent (entered book c)) made (kept book g.consistent o)

    bounded_next : Bounded (record { machine = does.next; borders = g.borders })
    bounded_next = subst (λ (c : Step). Bounded (entered book c)) made (bounded_kept book g.consistent g.bounded o)

    -- the new triangle is one of those stated, and its corners are below the most vertices
    fits : Within does.next
    fits = within_each does.next bounded_next.counts

    one_fits : s.built < s.stated.triangles
    one_fits =
        omega (
          arith,
          fits.triangles,
          ap (length {A = Triangle}) grown.0,
          ap (λ (c : Counts). c.triangles) grown.1,
          ap (λ (c : Counts). c.triangles) g.keeps.stated,
          g.keeps.triangles,
        )

    below_most : (v : ℕ) → 1 ≤ occurs v (corners (p.triangle ∷ M.triangles)) → v < max_vertices
    below_most v h =
        let k = kept_next.below v (subst (λ (us : List Triangle). 1 ≤ occurs v (corners us)) (sym grown.0) h) in
        omega (
          arith,
          k,
          fits.vertices,
          ap (λ (c : Counts). c.vertices) grown.1,
          ap (λ (c : Counts). c.vertices) g.keeps.stated,
          counts.vertices,
        )

    third_below : p.triangle.r < max_vertices
    third_below = below_most p.triangle.r (corner_r p.triangle M.triangles)

    runs_next : (s' : Front) → s' ≡ built_front max_places s p (held_after max_places s m o p).loops → (m' : List ℕ)
        → m' ≡ (held_after max_places s m o p).memory
        → Runs does.next s' (with_triangle s.built p.triangle ts) m'
        (relinked cs s.built p.triangle.p p.triangle.q p.triangle.r)
        (met_after ks o p.triangle.r)
    unfolding built_front
    runs_next s' es m' em =
        let t = p.triangle in
        let l : 3 * s.built + 3 ≤ length ts = omega (arith, one_fits, g.room) in
        rw (es, em)
        (record {
          borders = g.borders;
          consistent = kept_next;
          bounded = bounded_next;
          keeps = does.keeps;
          numbers = numbers_more ts s.built t l M.triangles g.numbers ∙ ap numbers_of (sym grown.0);
          chains =
              written_linked ts s.built t l cs g.chains (omega (arith, one_fits, counts.triangles))
              (below_most t.p (corner_p t M.triangles)) (below_most t.q (corner_q t M.triangles))
              third_below;
          room = omega (arith, written_long ts s.built t l, g.room);
          noted = met_long ks o t.r ∙ g.noted;
          fanned = fanned_built o g.fanned made (λ v. unmet_before ks t (omega (arith, third_below, g.noted)) v o);
        })

    pub turn_built : (xs ops : List ℕ) (at' : ℕ) → read_operation xs ≡ read o (bits_from ops at') → (s' : Front)
        → s' ≡ built_front max_places s p (held_after max_places s m o p).loops → (ts' : List ℕ)
        → ts' ≡ with_triangle s.built p.triangle ts
        → (m' : List ℕ) → m' ≡ (held_after max_places s m o p).memory → (cs' : List ℕ)
        → cs' ≡ relinked cs s.built p.triangle.p p.triangle.q p.triangle.r → (ks' : List ℕ)
        → ks' ≡ met_after ks o p.triangle.r
        → Steps (turn M xs) ops s.stated (Going s' at') ts' m' cs' ks'
    unfolding built_front
    turn_built xs ops at' reads s' es ts' et m' em cs' ec ks' ek =
        record {
          next = does.next;
          turns = turned xs (bits_from ops at') o reads (built p.triangle does.next) made;
          runs = rw (et, ec, ek) (runs_next s' es m' em);
          stated = ap (λ (f : Front). f.stated) es;
        }

    pub built_fits : s.built < s.stated.triangles
    built_fits = one_fits

    pub built_few : s.built < 8192
    built_few = omega (arith, one_fits, counts.triangles)

    pub built_third : p.triangle.r < max_vertices
    built_third = third_below

  module _ (o : Operation) (x y : ℕ) (e : decided max_places s m o ≡ Ok (Marks x y)) where
    marked : MarksIt max_places s m M o x y
    marked = decides_it o (Ok (Marks x y)) e

    unchanged : (marked.next.triangles ≡ M.triangles) × (marked.next.stated ≡ M.stated)
    unchanged = grows M o (declared (edge x y) marked.next) marked.step

    pub turn_marked : (xs ops : List ℕ) (at' : ℕ) → read_operation xs ≡ read o (bits_from ops at') → (s' : Front)
        → s' ≡ marked_front max_places s (marked_held max_places s.loops m).loops → (m' : List ℕ)
        → m' ≡ (marked_held max_places s.loops m).memory → Steps (turn M xs) ops s.stated (Going s' at') ts m' cs ks
    unfolding marked_front
    turn_marked xs ops at' reads s' es m' em =
        record {
          next = marked.next;
          turns = turned xs (bits_from ops at') o reads (declared (edge x y) marked.next) marked.step;
          runs =
              rw (es, em)
              (record {
                borders = edge x y ∷ g.borders;
                consistent = subst (λ (c : Step). Consistent (entered book c)) marked.step (kept book g.consistent o);
                bounded = subst (λ (c : Step). Bounded (entered book c)) marked.step (bounded_kept book g.consistent g.bounded o);
                keeps = marked.keeps;
                numbers = g.numbers ∙ ap numbers_of (sym unchanged.0);
                chains = g.chains;
                room = g.room;
                noted = g.noted;
                fanned = fanned_declared o g.fanned marked.step;
              });
          stated = ap (λ (f : Front). f.stated) es;
        }

    -- an edge is marked in a live loop
    pub marked_live : s.loops.live ≡ 0 → ⊥
    unfolding decided proposed
    marked_live q =
        no_rest max_places s o x y
        (sym (ap (λ (b : Bool). decided_by max_places s (proposed_by b max_places s.loops m s.used o)) (eq-eqb s.loops.live 0 q)) ∙ e)
