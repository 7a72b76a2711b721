-- An operation on the loops of a packing comes to what the table says: the loops after it, or it would exceed a limit.
-- Assumes nothing.
use Prim.Native.Nat.{ℕ, zero, suc, ◌+◌, ◌≤◌, max}
use native.Mathlib.Omega.{arith}
use mathlib.Core.Bool.{Bool, true, false, ◌&&◌, not, false≢true}
use mathlib.Core.List.{List}
use mathlib.Core.Path.{◌≡◌, refl, sym, ap, ◌∙◌, subst}
use lib.ListN.{length, replicate, length-replicate}
use lib.Dec.{eqb, leb}
use borrow.Author.Tests.{eqb-true, leb-true, eq-eqb, ne_eqb}
use Rattle.rules.specs.declared.Triangle.{Triangle}
use Rattle.rules.specs.declared.Counts.{Counts}
use Rattle.rules.specs.declared.Operation.{Operation}
use Rattle.rules.specs.declared.Operation.TheVariants.{Border}
use Rattle.rules.specs.Limits.{max_places, max_loops, max_triangles, between, vertex_range, in_range}
use Rattle.rules.specs.Triangle.{tri, distinct, Edge, edge, edges_of}
use Rattle.rules.specs.Count.{count}
use Rattle.rules.specs.Ring.{Ring, places}
use Rattle.rules.specs.Table.{Side, glued, fresh, builds, marks, effect, side_rule, edge_rule}
use Rattle.rules.specs.Machine.{Machine, after_build, after_mark, refused, built, declared, test, within, done, operation}
use Rattle.book.proofs.Parts.{building_of, marking_of}
use Rattle.book.specs.Consistent.{Ranges}
use Rattle.choice_theory.proofs.Steps.Operating.{within_of}
use Rattle.cutborder.specs.declared.Front.{Front}
use Rattle.cutborder.specs.declared.Plan.{Plan}
use Rattle.border_theory.specs.Memory.Decision.{Decided}
use Rattle.std.specs.Prelude.{Ok, Err}
use Rattle.rules.specs.declared.refusal.Refusal.{Refusal}
use Rattle.rules.specs.Refusal.{number_of}
use Rattle.cutborder.specs.declared.Action.TheVariants.{Builds, Marks}
use Rattle.border_theory.specs.Memory.Stands.{rings_in}
use Rattle.border_theory.specs.Memory.Layout.{vertices_of}
use Rattle.border_theory.specs.Memory.Decision.{border_plan, proposed_by, proposed, decided_by, decided, built_front, marked_front}
use Rattle.border_theory.specs.Memory.Keeps.{Keeps, Ready, Decides, BuildsIt, MarksIt}
use Rattle.border_theory.proofs.Memory.Room.{room}
use Rattle.border_theory.proofs.Memory.Counts.{places_named}
use Rattle.border_theory.proofs.Memory.Deciding.{decides}
use Rattle.border_theory.proofs.Memory.Ready.{ready}
use Rattle.pack_theory.specs.Packing.Done.{Done}
use Rattle.pack_theory.specs.Packing.Done.{Going, Refused}
use Rattle.pack_theory.specs.Packing.Doing.{readied, refusal_at, done_by, memory_by, done_of, memory_of, Standing}
use Rattle.counting.proofs.Bools.{and_both, and_true, not_eqb}
use Rattle.counting.proofs.Counts.{no_from, no_to}
use Rattle.book.proofs.EdgeRule.{test_passed}

-- what an operation comes to that leaves the loops ls and builds n triangles: it exceeds a limit, or they stand
abbrev pub Outcome : ℕ → ℕ → Front → List Ring → ℕ → ℕ → ℕ → Done → List ℕ → Type 0
Outcome v k f ls a b n (Refused j) m' = (j ≡ refusal_at f.loops.free) × (places ls ≤ max_places → length ls ≤ max_loops → ⊥)
Outcome v k f ls a b n (Going f') m' = Standing v k f' m' ls (max a (places ls)) (max b (length ls)) × (f'.built ≡ f.built + n)

-- the triangles of the machine do not matter: they join nothing
abbrev joinless : ℕ → List Triangle
joinless n = replicate n (tri 0 0 0)

count_none : (x y n : ℕ) → (x ≡ y → ⊥) → count x y (edges_of (joinless n)) ≡ 0
unfolding count edges_of
count_none x y zero d = refl
count_none x y (suc n) d = omega (arith, no_hit (eqb x 0) refl, count_none x y n d)
  where
    no_hit : (t : Bool) → eqb x 0 ≡ t → Rattle.rules.specs.Count.hit x y 0 0 ≡ 0
    no_hit true e = no_to x y 0 0 (λ q. d (eqb-true x 0 e ∙ sym q))
    no_hit false e = no_from x y 0 0 (λ q. false≢true (sym e ∙ eq-eqb x 0 q))

side_joinless : (s : Side) (x y n : ℕ) → (x ≡ y → ⊥) → side_rule s x y (joinless n) ≡ true
side_joinless glued x y n d = refl
side_joinless fresh x y n d =
    and_both (eqb (count x y (edges_of (joinless n))) 0) (eqb (count y x (edges_of (joinless n))) 0) (eq-eqb _ 0 (count_none x y n d))
    (eq-eqb _ 0 (count_none y x n (λ e. d (sym e))))

rule_joinless : (t : Triangle) (a b c : Side) (n : ℕ) → (t.p ≡ t.q → ⊥) → (t.q ≡ t.r → ⊥) → (t.r ≡ t.p → ⊥)
    → edge_rule t a b c (joinless n) ≡ true
rule_joinless t a b c n pq qr rp =
    and_both (distinct t && side_rule a t.p t.q (joinless n) && side_rule b t.q t.r (joinless n))
    (side_rule c t.r t.p (joinless n))
    (and_both (distinct t && side_rule a t.p t.q (joinless n)) (side_rule b t.q t.r (joinless n))
    (and_both (distinct t) (side_rule a t.p t.q (joinless n))
    (and_both (not (eqb t.p t.q) && not (eqb t.q t.r)) (not (eqb t.r t.p))
    (and_both (not (eqb t.p t.q)) (not (eqb t.q t.r)) (not_eqb t.p t.q pq) (not_eqb t.q t.r qr))
    (not_eqb t.r t.p rp))
    (side_joinless a t.p t.q n pq))
    (side_joinless b t.q t.r n qr))
    (side_joinless c t.r t.p n rp)

no_built_refused : (k : ℕ) (t : Triangle) (m : Machine) → built t m ≡ refused k → ⊥
no_built_refused k t m e = let q : ◌≡◌ {A = ℕ} 0 1 = cc in omega arith

no_built_declared : (t : Triangle) (m : Machine) (d : Edge) (m' : Machine) → built t m ≡ declared d m' → ⊥
no_built_declared t m d m' e = let q : ◌≡◌ {A = ℕ} 0 1 = cc in omega arith

no_refused_declared : (k : ℕ) (d : Edge) (m : Machine) → refused k ≡ declared d m → ⊥
no_refused_declared k d m e = let q : ◌≡◌ {A = ℕ} 0 1 = cc in omega arith

same_built : (t t' : Triangle) (m m' : Machine) → built t m ≡ built t' m' → m ≡ m'
same_built t t' m m' e = cc

same_declared : (d d' : Edge) (m m' : Machine) → declared d m ≡ declared d' m' → m ≡ m'
same_declared d d' m m' e = cc

-- two tests with what passes
test_18 : (b : Bool) (t t' : Triangle) (m m' : Machine) → built t m ≡ test b 18 (built t' m') → m ≡ m'
unfolding test
test_18 true t t' m m' e = same_built t t' m m' e
test_18 false t t' m m' e = absurd (no_built_refused 18 t m e)

test_17 : (w b : Bool) (t t' : Triangle) (m m' : Machine) → test w 17 (built t m) ≡ test b 18 (built t' m') → (w ≡ true) × (m ≡ m')
unfolding test
test_17 true b t t' m m' e = (refl, test_18 b t t' m m' e)
test_17 false true t t' m m' e = absurd (no_built_refused 17 t' m' (sym e))
test_17 false false t t' m m' e = absurd (no_17_18 e)
  where
    no_17_18 : refused 17 ≡ refused 18 → ⊥
    no_17_18 q = let z : ◌≡◌ {A = ℕ} 17 18 = cc in omega arith

test_refused : (w : Bool) (k : ℕ) (t : Triangle) (m : Machine) → test w 17 (built t m) ≡ refused k → w ≡ false
unfolding test
test_refused true k t m e = absurd (no_built_refused k t m e)
test_refused false k t m e = refl

test_declared : (w : Bool) (t : Triangle) (m : Machine) (d : Edge) (m' : Machine) → test w 17 (built t m) ≡ declared d m' → ⊥
unfolding test
test_declared true t m d m' e = no_built_declared t m d m' e
test_declared false t m d m' e = no_refused_declared 17 d m' e

test_marked : (w : Bool) (d d' : Edge) (m m' : Machine) → test w 17 (declared d m) ≡ declared d' m' → (w ≡ true) × (m ≡ m')
unfolding test
test_marked true d d' m m' e = (refl, same_declared d d' m m' e)
test_marked false d d' m m' e = absurd (no_refused_declared 17 d' m' e)

-- the counts of the machine
within_parts : (m : Machine) → within m ≡ true → (places m.loops ≤ m.stated.places) × (length m.loops ≤ m.stated.loops)
within_parts m h =
    let a = and_true (leb m.used m.stated.vertices && leb (length m.triangles) m.stated.triangles
    && leb (places m.loops) m.stated.places) (leb (length m.loops) m.stated.loops) h in
    let b = and_true (leb m.used m.stated.vertices && leb (length m.triangles) m.stated.triangles)
    (leb (places m.loops) m.stated.places) a.0 in
    (leb-true (places m.loops) m.stated.places b.1, leb-true (length m.loops) m.stated.loops a.1)

max_le : (a b n : ℕ) → a ≤ n → b ≤ n → max a b ≤ n
max_le a b n h k = omega arith

module _ (v k : ℕ) (f : Front) (m : List ℕ) (ls : List Ring) (a b : ℕ) (st : Standing v k f m ls a b) where
  -- the places that are not free
  pub standing_places : f.loops.free + places ls ≡ max_places
  standing_places =
      omega (
        arith,
        room max_places f.loops m (rings_in max_places f.loops m) st.stands,
        places_named (vertices_of max_places m) (rings_in max_places f.loops m),
        ap places st.loops,
      )

  range_v : (3 ≤ v) × (v ≤ 4096)
  range_v = let r = and_true (leb 3 v) (leb v 4096) st.vertices in (leb-true 3 v r.0, leb-true v 4096 r.1)

  range_k : (1 ≤ k) × (k ≤ 8192)
  range_k = let r = and_true (leb 1 k) (leb k 8192) st.triangles in (leb-true 1 k r.0, leb-true k 8192 r.1)

  module _ (c : ℕ) where
    machine : Machine
    machine = record {
      stated = f.stated;
      triangles = joinless f.built;
      loops = ls;
      used = c;
      most_places = a;
      most_loops = b;
      edges = 0;
      starts = 0;
      unions = 0;
      rims = 0;
    }

    keeps : Keeps max_places (readied f c) m machine
    unfolding machine
    keeps = record {
      roomy =
          record {
            few = omega arith;
            enough = omega (arith, ap (λ (x : Counts). x.places) st.stated);
            long = omega (arith, st.whole, ap (λ (x : Counts). x.loops) st.stated);
          };
      stands = st.stands;
      loops = st.loops;
      stated = refl;
      used = refl;
      triangles = length-replicate f.built (tri 0 0 0);
      most_places = st.places;
      most_loops = st.most;
      edges = refl;
      starts = refl;
      unions = refl;
      rims = refl;
    }

    ranges : c ≤ v → Ranges machine
    unfolding machine range_v range_k
    ranges h = record {
      stated =
          ap in_range st.stated
          ∙ and_both (vertex_range v && between 1 k max_triangles && between 3 max_places max_places) (between 1 max_loops max_loops)
          (and_both (vertex_range v && between 1 k max_triangles) (between 3 max_places max_places)
          (and_both (vertex_range v) (between 1 k max_triangles) st.vertices st.triangles) refl) refl;
      counts =
          within_of machine (omega (arith, h, ap (λ (x : Counts). x.vertices) st.stated))
          (omega (arith, length-replicate f.built (tri 0 0 0), st.built, ap (λ (x : Counts). x.triangles) st.stated))
          (omega (arith, standing_places, ap (λ (x : Counts). x.places) st.stated))
          (omega (arith, st.few, ap (λ (x : Counts). x.loops) st.stated));
      places = omega (arith, st.few_places, ap (λ (x : Counts). x.places) st.stated);
      loops = omega (arith, st.few_loops, ap (λ (x : Counts). x.loops) st.stated);
      edges = omega arith;
      starts = omega arith;
      unions = omega arith;
      rims = omega arith;
    }

    -- the functions on the memory can be called
    pub standing_ready : c ≤ v → Ready max_places (readied f c) m
    standing_ready h = ready max_places (readied f c) m machine keeps (ranges h)

    -- the loops after it stand
    stood : (f' : Front) (m' : List ℕ) (ls' : List Ring) (M : Machine) → Keeps max_places f' m' M → M.loops ≡ ls'
        → M.most_places ≡ max a (places ls')
        → M.most_loops ≡ max b (length ls') → f'.stated ≡ f.stated → f'.built ≤ k → length m' ≡ length m → length ls' ≤ max_loops
        → Standing v k f' m' ls' (max a (places ls')) (max b (length ls'))
    stood f' m' ls' M kp l p q s h w few =
        let r = room max_places f'.loops m' (rings_in max_places f'.loops m') kp.stands in
        let n : places ls' ≤ max_places =
        omega (arith, r, places_named (vertices_of max_places m') (rings_in max_places f'.loops m'), ap places (sym l ∙ kp.loops)) in
        record {
          vertices = st.vertices;
          triangles = st.triangles;
          stated = s ∙ st.stated;
          built = h;
          whole = w ∙ st.whole;
          stands = kp.stands;
          loops = sym l ∙ kp.loops;
          few = few;
          places = sym p ∙ kp.most_places;
          most = sym q ∙ kp.most_loops;
          few_places = max_le a (places ls') max_places st.few_places n;
          few_loops = max_le b (length ls') max_loops st.few_loops few;
        }

    -- an operation that builds a triangle
    module _ (h : c ≤ v) (o : Operation) (ls' : List Ring) (t : Triangle) (x y z : Side) (n i u : ℕ)
        (e : effect o c ls ≡ builds (building_of ls' t x y z n i u))
        (pq : t.p ≡ t.q → ⊥) (qr : t.q ≡ t.r → ⊥) (rp : t.r ≡ t.p → ⊥) (room-v : c + n ≤ v) (room-k : f.built + 1 ≤ k) where
      after : Machine
      unfolding machine
      after = after_build machine (building_of ls' t x y z n i u)

      does : operation machine o ≡ test (within after) 17 (built t after)
      unfolding machine after done
      does =
          ap (done machine) e
          ∙ ap (test (within after) 17)
          (test_passed (edge_rule t x y z (joinless f.built)) 18 (built t after) (rule_joinless t x y z f.built pq qr rp))

      decide_as : (d : Decided) → decided max_places (readied f c) m o ≡ d → Decides max_places (readied f c) m machine o d
      decide_as d q = subst (Decides max_places (readied f c) m machine o) q (decides max_places (readied f c) m machine keeps o (ranges h))

      built_by_lem : (d : Decided) → decided max_places (readied f c) m o ≡ d
          → Outcome v k f ls' a b 1 (done_by (readied f c) m o d) (memory_by (readied f c) m o d)
      unfolding after machine built_front
      built_by_lem (Err j) q =
          let w : within after ≡ false = test_refused (within after) (number_of j) t after (sym does ∙ decide_as (Err j) q) in (
            refl,
            λ p l.
                false≢true
                (sym w
                ∙ within_of after (omega (arith, room-v, ap (λ (r : Counts). r.vertices) st.stated))
                (omega (arith, room-k, length-replicate f.built (tri 0 0 0), ap (λ (r : Counts). r.triangles) st.stated))
                (omega (arith, p, ap (λ (r : Counts). r.places) st.stated))
                (omega (arith, l, ap (λ (r : Counts). r.loops) st.stated))),
          )
      built_by_lem (Ok (Builds p)) q =
          let g : BuildsIt max_places (readied f c) m machine o p = decide_as (Ok (Builds p)) q in
          let r = test_17 (within after) _ t p.triangle after g.next (sym does ∙ g.step) in
          let w = within_parts after r.0 in (
            stood _ _ ls' g.next g.keeps (ap (λ (w : Machine). w.loops) (sym r.1))
                (ap (λ (w : Machine). w.most_places) (sym r.1))
                (ap (λ (w : Machine). w.most_loops) (sym r.1)) refl room-k g.unchanged.lengths
                (omega (arith, w.1, ap (λ (r : Counts). r.loops) st.stated)),
            refl,
          )
      built_by_lem (Ok (Marks x' y')) q =
          let g : MarksIt max_places (readied f c) m machine o x' y' = decide_as (Ok (Marks x' y')) q in
          absurd (test_declared (within after) t after (edge x' y') g.next (sym does ∙ g.step))

      pub built_outcome : Outcome v k f ls' a b 1 (done_of (readied f c) m o) (memory_of (readied f c) m o)
      unfolding done_of memory_of
      built_outcome = built_by_lem (decided max_places (readied f c) m o) refl

  -- border, at a live loop
  border_decided : (f.loops.live ≡ 0 → ⊥) → (x : ℕ) × (y : ℕ) × (decided max_places (readied f 0) m Border ≡ Ok (Marks x y))
  unfolding decided proposed border_plan
  border_decided live = (
    _,
    _,
    ap (λ (t : Bool). decided_by max_places (readied f 0) (proposed_by t max_places f.loops m 0 Border))
        (ne_eqb f.loops.live 0 live),
  )

  no_refused_marks : (j : Refusal) (x y : ℕ) → ◌≡◌ {A = Decided} (Err j) (Ok (Marks x y)) → ⊥
  no_refused_marks j x y e = let q : ◌≡◌ {A = ℕ} 0 1 = cc in omega arith

  no_builds_marks : (p : Plan) (x y : ℕ) → ◌≡◌ {A = Decided} (Ok (Builds p)) (Ok (Marks x y)) → ⊥
  no_builds_marks p x y e = let q : ◌≡◌ {A = ℕ} 0 1 = cc in omega arith

  module _ (live : f.loops.live ≡ 0 → ⊥) (ls' : List Ring) (d : Edge) (rim : ℕ)
      (e : effect Border 0 ls ≡ marks (marking_of ls' d rim)) where
    marked_after : Machine
    unfolding machine
    marked_after = after_mark (machine 0) (marking_of ls' d rim)

    marks_it : operation (machine 0) Border ≡ test (within marked_after) 17 (declared d marked_after)
    unfolding machine marked_after done
    marks_it = ap (done (machine 0)) e

    marked_by : (r : Decided) → decided max_places (readied f 0) m Border ≡ r
        → Outcome v k f ls' a b 0 (done_by (readied f 0) m Border r) (memory_by (readied f 0) m Border r)
    unfolding marked_after machine marked_front
    marked_by (Err j) q = let g = border_decided live in absurd (no_refused_marks j g.0 g.1 (sym q ∙ g.2))
    marked_by (Ok (Builds p)) q = let g = border_decided live in absurd (no_builds_marks p g.0 g.1 (sym q ∙ g.2))
    marked_by (Ok (Marks x y)) q =
        let g : MarksIt max_places (readied f 0) m (machine 0) Border x y =
        subst (Decides max_places (readied f 0) m (machine 0) Border) q
        (decides max_places (readied f 0) m (machine 0) (keeps 0) Border (ranges 0 (omega arith))) in
        let r = test_marked (within marked_after) d (edge x y) marked_after g.next (sym marks_it ∙ g.step) in
        let w = within_parts marked_after r.0 in (
          stood 0 _ _ ls' g.next g.keeps (ap (λ (w : Machine). w.loops) (sym r.1))
              (ap (λ (w : Machine). w.most_places) (sym r.1))
              (ap (λ (w : Machine). w.most_loops) (sym r.1)) refl st.built g.unchanged.lengths
              (omega (arith, w.1, ap (λ (r : Counts). r.loops) st.stated)),
          omega arith,
        )

    pub border_outcome : Outcome v k f ls' a b 0 (done_of (readied f 0) m Border) (memory_of (readied f 0) m Border)
    unfolding done_of memory_of
    border_outcome = marked_by (decided max_places (readied f 0) m Border) refl
