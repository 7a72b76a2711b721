-- The joining theorem: what is decided is what the machine's call comes to, and what is then done leads to the machine's next state.
-- Assumes nothing.
use Prim.Native.Nat.{ℕ, ◌+◌, ◌-◌, ◌*◌, ◌≤◌, max}
use native.Mathlib.Omega.{arith}
use mathlib.Core.Bool.{Bool, true, false, ◌&&◌}
use mathlib.Core.List.{List, [], ◌∷◌}
use mathlib.Core.Path.{◌≡◌, refl, sym, ap, ap₂, ◌∙◌, subst}
use lib.ListN.{length}
use borrow.Author.Tests.{le-leb}
use Rattle.rules.specs.declared.Triangle.{Triangle}
use Rattle.rules.specs.declared.Counts.{Counts}
use Rattle.rules.specs.declared.Operation.{Operation}
use Rattle.rules.specs.Triangle.{Edge}
use Rattle.rules.specs.Ring.{Ring, places}
use Rattle.rules.specs.Table.{Side, glued, fresh, Building, Effect, not_allowed, builds, marks, effect, edge_rule}
use Rattle.rules.specs.Machine.{Machine, fresh_sides, after_build, after_mark, built, declared, test, within, done, operation}
use Rattle.rules.specs.Furnace.{done_freely}
use Rattle.book.proofs.Parts.{building_of, marking_of}
use Rattle.book.specs.Consistent.{AllCurrent, Ranges}
use Rattle.book.proofs.Effects as effects
use Rattle.border_theory.specs.Links.Held.{named_loops}
use Rattle.border_theory.proofs.Links.Named.{named_lives}
use Rattle.cutborder.specs.declared.Loops.{Loops}
use Rattle.cutborder.specs.declared.Front.{Front}
use Rattle.cutborder.specs.declared.Plan.{Plan}
use Rattle.border_theory.specs.Memory.Decision.{Decided}
use Rattle.border_theory.specs.Memory.Layout.{vertices_of}
use Rattle.border_theory.specs.Memory.Stands.{rings_in, loops_in, StandsAt, Stands}
use Rattle.border_theory.specs.Memory.Moves.{Held, marked_held}
use Rattle.border_theory.specs.Memory.Decision.{proposed, new_edges, room_for, room_by, decided_by, decided, side_of, held_after}
use Rattle.border_theory.specs.Memory.Decision.{built_front, marked_front}
use Rattle.border_theory.specs.Memory.Keeps.{Keeps, Decides, DecidesFreely}
use Rattle.rules.specs.Places.{rings_after}
use Rattle.border_theory.specs.Memory.Touched.{taken_by, Rearranged}
use Rattle.border_theory.proofs.Memory.Standing.{rings_read}
use Rattle.border_theory.proofs.Memory.Room.{room}
use Rattle.border_theory.proofs.Memory.Relinked.{Moved, current_names}
use Rattle.border_theory.proofs.Memory.Counts.{places_named, places_after_lem, places_sum, leb_same}
use Rattle.border_theory.proofs.Memory.Proposing.{PlanIs, Proposes}
use Rattle.border_theory.proofs.Memory.Proposed.{proposes}
use Rattle.book.proofs.Bounds.{within_each, Within}

-- how many loops and places stand
pub stands_live : (n : ℕ) (l : Loops) (m : List ℕ) (rs : List Ring) → StandsAt n l m rs → l.live ≡ length rs
stands_live n l m [] st = st.heads
stands_live n l m (r ∷ rs) st = st.heads.live

record Stood (n : ℕ) (l : Loops) (m : List ℕ) (ls : List Ring) : Type 0 where
  stands : Stands n l m
  loops : ls ≡ loops_in n l m
  live : length ls ≡ l.live
  taken : places ls ≡ n - l.free

stood : (n : ℕ) (l : Loops) (m : List ℕ) (rs ls : List Ring) → StandsAt n l m rs → named_loops (vertices_of n m) rs ≡ ls → Stood n l m ls
stood n l m rs ls st e =
    let r : rings_in n l m ≡ rs = rings_read n l m rs st in
    let k : l.free + places ls ≡ n =
    omega (arith, room n l m rs st, places_named (vertices_of n m) rs, ap places e) in
    record {
      stands = rw r st;
      loops = sym (ap (named_loops (vertices_of n m)) r ∙ e);
      live = ap length (sym e) ∙ named_lives (vertices_of n m) rs ∙ sym (stands_live n l m rs st);
      taken = omega (arith, k);
    }

each_within : (m : Machine) → Within m → within m ≡ true
each_within m w =
    ap₂ ◌&&◌
    (ap₂ ◌&&◌ (ap₂ ◌&&◌ (le-leb m.used m.stated.vertices w.vertices)
    (le-leb (length m.triangles) m.stated.triangles w.triangles))
    (le-leb (places m.loops) m.stated.places w.places)) (le-leb (length m.loops) m.stated.loops w.loops)

side_back : (s : Side) (k : ℕ) → k ≡ fresh_sides s → side_of k ≡ s
side_back glued k e = rw e
side_back fresh k e = rw e

module _ (n : ℕ) (s : Front) (m : List ℕ) (M : Machine) (k : Keeps n s m M) where
  before : Stood n s.loops m M.loops
  before = stood n s.loops m (rings_in n s.loops m) M.loops k.stands (sym k.loops)

  -- 17
  room_same : (ls : List Ring) (t : Triangle) (x y z : Side) (v a u : ℕ) (p : Plan) → PlanIs p t x y z v a u
      → effects.Builds s.used M.loops ls t x y z v a u → room_for n s p ≡ within (after_build M (building_of ls t x y z v a u))
  unfolding room_for
  room_same ls t x y z v a u p i b =
      let c : Counts = M.stated in
      let c₁ : c.vertices ≡ s.stated.vertices = ap (λ (r : Counts). r.vertices) k.stated in
      let c₂ : c.triangles ≡ s.stated.triangles = ap (λ (r : Counts). r.triangles) k.stated in
      let c₃ : c.places ≡ s.stated.places = ap (λ (r : Counts). r.places) k.stated in
      let c₄ : c.loops ≡ s.stated.loops = ap (λ (r : Counts). r.loops) k.stated in
      let d = places_after_lem s.used M.loops ls t x y z v a u b in
      ap₂ ◌&&◌
      (ap₂ ◌&&◌
      (ap₂ ◌&&◌
      (leb_same (s.used + p.vertices) s.stated.vertices (M.used + v) c.vertices (λ h. omega (arith, h, c₁, k.used, i.vertices))
      (λ h. omega (arith, h, c₁, k.used, i.vertices)))
      (leb_same (s.built + 1) s.stated.triangles (length (t ∷ M.triangles)) c.triangles (λ h. omega (arith, h, c₂, k.triangles))
      (λ h. omega (arith, h, c₂, k.triangles))))
      (leb_same (n - s.loops.free + 2 * new_edges p) (s.stated.places + 3) (places ls) c.places
      (λ h. omega (arith, h, c₃, d, before.taken, i.pq, i.qr, i.rp))
      (λ h. omega (arith, h, c₃, d, before.taken, i.pq, i.qr, i.rp))))
      (leb_same (s.loops.live + new_edges p + 2 * p.starts) (s.stated.loops + p.vertices + 1 + 2 * p.unions) (length ls) c.loops
      (λ h. omega (arith, h, c₄, b.lives, before.live, i.pq, i.qr, i.rp, i.vertices, i.starts, i.unions))
      (λ h. omega (arith, h, c₄, b.lives, before.live, i.pq, i.qr, i.rp, i.vertices, i.starts, i.unions)))

  keeps_built : (ls : List Ring) (t : Triangle) (x y z : Side) (v a u : ℕ) (p : Plan) (h : Held) → PlanIs p t x y z v a u
      → (rs : List Ring) → Moved n s.loops m h rs (builds (building_of ls t x y z v a u))
      → Keeps n (built_front n s p h.loops) h.memory (after_build M (building_of ls t x y z v a u))
  unfolding built_front
  keeps_built ls t x y z v a u p h i rs d =
      let r = stood n h.loops h.memory rs ls d.stands d.loops in
      record {
        roomy = record { few = k.roomy.few; enough = k.roomy.enough; long = omega (arith, k.roomy.long, d.lengths) };
        stands = r.stands;
        loops = r.loops;
        stated = k.stated;
        used = omega (arith, k.used, i.vertices);
        triangles = omega (arith, k.triangles);
        most_places = ap₂ max k.most_places r.taken;
        most_loops = ap₂ max k.most_loops r.live;
        edges = omega (arith, k.edges, i.pq, i.qr, i.rp);
        starts = omega (arith, k.starts, i.starts);
        unions = omega (arith, k.unions, i.unions);
        rims = k.rims;
      }

  keeps_marked : (ls : List Ring) (d : Edge) (rim : ℕ) (h : Held) → effects.Marks M.loops ls d rim
      → (rs : List Ring) → Moved n s.loops m h rs (marks (marking_of ls d rim))
      → Keeps n (marked_front n s h.loops) h.memory (after_mark M (marking_of ls d rim))
  unfolding marked_front
  keeps_marked ls d rim h b rs w =
      let r = stood n h.loops h.memory rs ls w.stands w.loops in
      record {
        roomy = record { few = k.roomy.few; enough = k.roomy.enough; long = omega (arith, k.roomy.long, w.lengths) };
        stands = r.stands;
        loops = r.loops;
        stated = k.stated;
        used = k.used;
        triangles = k.triangles;
        most_places = ap₂ max k.most_places r.taken;
        most_loops = ap₂ max k.most_loops r.live;
        edges = k.edges;
        starts = k.starts;
        unions = k.unions;
        rims = omega (arith, k.rims, b.lives, before.live, r.live);
      }

  -- the rings of places after it
  abbrev next : Operation → List Ring
  next o = rings_after o (taken_by n s.loops m o) (rings_in n s.loops m)

  rearranged : (o : Operation) (h : Held) (E : Effect) → Moved n s.loops m h (next o) E → Rearranged n s.loops m o h
  rearranged o h E d = record { rings = rings_read n h.loops h.memory (next o) d.stands; stack = d.stack }

  -- marking an edge stays within what is stated
  mark_within : (ls : List Ring) (d : Edge) (rim : ℕ) → effects.Marks M.loops ls d rim → within M ≡ true
      → within (after_mark M (marking_of ls d rim)) ≡ true
  mark_within ls d rim b h =
      let w = within_each M h in
      let o = b.fewer (λ x. 1) in
      each_within (after_mark M (marking_of ls d rim))
      (record {
        vertices = w.vertices;
        triangles = w.triangles;
        places = omega (arith, w.places, o, places_sum ls, places_sum M.loops);
        loops = omega (arith, w.loops, b.lives);
      })

  by_room : (o : Operation) (ls : List Ring) (t : Triangle) (x y z : Side) (v a u : ℕ)
      → operation M o ≡ done M (builds (building_of ls t x y z v a u)) → (p : Plan)
      → PlanIs p t x y z v a u
      → (places ls ≤ n → 5 * n + 2 * length ls ≤ length m
      → Moved n s.loops m (held_after n s m o p) (next o) (builds (building_of ls t x y z v a u))) → (r : Bool)
      → within (after_build M (building_of ls t x y z v a u)) ≡ r → Decides n s m M o (room_by r p)
  unfolding done test
  by_room o ls t x y z v a u e p i moves true w =
      let c = within_each (after_build M (building_of ls t x y z v a u)) w in
      let d =
      moves (omega (arith, c.places, ap (λ (r : Counts). r.places) k.stated, k.roomy.enough))
      (omega (arith, c.loops, ap (λ (r : Counts). r.loops) k.stated, k.roomy.long)) in
      record {
        next = after_build M (building_of ls t x y z v a u);
        step =
            rw (i.triangle, side_back x p.pq i.pq, side_back y p.qr i.qr, side_back z p.rp i.rp)
            (e ∙ ap (λ (r : Bool). test r 17
            (test (edge_rule t x y z M.triangles) 18 (built t (after_build M (building_of ls t x y z v a u))))) w);
        keeps = keeps_built ls t x y z v a u p (held_after n s m o p) i (next o) d;
        unchanged = record { lengths = d.lengths; rest = d.rest };
        places = rearranged o (held_after n s m o p) (builds (building_of ls t x y z v a u)) d;
      }
  by_room o ls t x y z v a u e p i moves false w =
      e ∙ ap (λ (r : Bool). test r 17 (test (edge_rule t x y z M.triangles) 18 (built t (after_build M (building_of ls t x y z v a u))))) w

  decides_by : (o : Operation) (E : Effect) (d : Decided) → operation M o ≡ done M E → within M ≡ true → effects.Law s.used M.loops E
      → Proposes n s m o (next o) d E → Decides n s m M o (decided_by n s d)
  unfolding done test
  decides_by o not_allowed d e w l p = rw p e
  decides_by o (builds g) d e w l p =
      let i = p.is in
      rw (
        i,
        room_same g.loops g.triangle g.sides.pq g.sides.qr g.sides.rp g.added.vertices g.added.starts
            g.added.unions p.plan p.same l,
      )
      (by_room o g.loops g.triangle g.sides.pq g.sides.qr g.sides.rp g.added.vertices g.added.starts
      g.added.unions e p.plan p.same p.moves (within (after_build M g)) refl)
  decides_by o (marks y) d e w l p =
      let i = p.is in
      rw i
      (record {
        next = after_mark M y;
        step = e ∙ ap (λ (r : Bool). test r 17 (declared y.edge (after_mark M y))) (mark_within y.loops y.edge y.rims l w);
        keeps = keeps_marked y.loops y.edge y.rims (marked_held n s.loops m) l (next o) p.moves;
        unchanged = record { lengths = p.moves.lengths; rest = p.moves.rest };
        places = rearranged o (marked_held n s.loops m) (marks y) p.moves;
      })

  -- the same with no edge rule
  by_room_freely : (o : Operation) (g : Building) → effect o M.used M.loops ≡ builds g → (p : Plan)
      → PlanIs p g.triangle g.sides.pq g.sides.qr g.sides.rp g.added.vertices g.added.starts g.added.unions
      → (places g.loops ≤ n → 5 * n + 2 * length g.loops ≤ length m
      → Moved n s.loops m (held_after n s m o p) (next o) (builds g)) → (r : Bool)
      → within (after_build M g) ≡ r → DecidesFreely n s m M o (room_by r p)
  unfolding done_freely test
  by_room_freely o g e p i moves true w =
      let c = within_each (after_build M g) w in
      let d =
      moves (omega (arith, c.places, ap (λ (r : Counts). r.places) k.stated, k.roomy.enough))
      (omega (arith, c.loops, ap (λ (r : Counts). r.loops) k.stated, k.roomy.long)) in
      record {
        building = g;
        effects = e;
        triangle = sym i.triangle;
        fits = w;
        keeps = keeps_built g.loops g.triangle g.sides.pq g.sides.qr g.sides.rp g.added.vertices g.added.starts
            g.added.unions p (held_after n s m o p) i (next o) d;
      }
  by_room_freely o g e p i moves false w =
      ap (done_freely M) e ∙ ap (λ (r : Bool). test r 17 (built g.triangle (after_build M g))) w

  decides_freely_by : (o : Operation) (E : Effect) (d : Decided) → effect o M.used M.loops ≡ E → within M ≡ true
      → effects.Law s.used M.loops E → Proposes n s m o (next o) d E → DecidesFreely n s m M o (decided_by n s d)
  unfolding done_freely
  decides_freely_by o not_allowed d e w l p = rw p (ap (done_freely M) e)
  decides_freely_by o (builds g) d e w l p =
      let i = p.is in
      rw (
        i,
        room_same g.loops g.triangle g.sides.pq g.sides.qr g.sides.rp g.added.vertices g.added.starts
            g.added.unions p.plan p.same l,
      )
      (by_room_freely o g e p.plan p.same p.moves (within (after_build M g)) refl)
  decides_freely_by o (marks y) d e w l p =
      let i = p.is in
      rw i
      (record {
        marking = y;
        effects = e;
        fits = mark_within y.loops y.edge y.rims l w;
        keeps = keeps_marked y.loops y.edge y.rims (marked_held n s.loops m) l (next o) p.moves;
      })

  -- the current edge of each of the machine's loops is open
  pub keeps_current : AllCurrent M.loops
  keeps_current = rw k.loops (current_names (vertices_of n m) (rings_in n s.loops m) k.stands.sound)

  proposal : (o : Operation) → Proposes n s m o (next o) (proposed n s m o) (effect o s.used M.loops)
  proposal o =
      subst (λ (ls : List Ring). Proposes n s m o (next o) (proposed n s m o) (effect o s.used ls)) (sym k.loops)
      (proposes n s m o (rings_in n s.loops m) k.stands)

  -- the theorem
  pub decides : (o : Operation) → Ranges M → Decides n s m M o (decided n s m o)
  unfolding decided
  decides o r =
      decides_by o (effect o s.used M.loops) (proposed n s m o) (ap (λ (u : ℕ). done M (effect o u M.loops)) k.used)
      r.counts (effects.effect_law o s.used M.loops keeps_current) (proposal o)

  pub decides_freely : (o : Operation) → within M ≡ true → DecidesFreely n s m M o (decided n s m o)
  unfolding decided
  decides_freely o w =
      decides_freely_by o (effect o s.used M.loops) (proposed n s m o) (ap (λ (u : ℕ). effect o u M.loops) k.used)
      w (effects.effect_law o s.used M.loops keeps_current) (proposal o)
