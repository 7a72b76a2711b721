-- What is proposed is what the table of operations says, and the plan leads to the table's loops.
-- Assumes nothing.
use Prim.Native.Nat.{ℕ, suc, ◌+◌, ◌*◌, ◌≤◌, ◌<◌}
use native.Mathlib.Omega.{arith}
use mathlib.Core.Bool.{Bool, true, false, ◌&&◌, not, false≢true}
use mathlib.Core.List.{List, [], ◌∷◌, ◌++◌}
use mathlib.Core.Path.{◌≡◌, refl, sym, ap, ap₂, ◌∙◌}
use lib.ListN.{length, get_or}
use lib.Dec.{eqb, leb}
use borrow.Author.Tests.{leb-true, eqb-true}
use Rattle.rules.specs.declared.Triangle.{Triangle}
use Rattle.rules.specs.declared.Operation.{Operation}
use Rattle.rules.specs.declared.Operation.TheVariants.{New, Forward, Backward, Border}
use Rattle.rules.specs.Triangle.{tri, Edge, edge}
use Rattle.rules.specs.Count.{num}
use Rattle.rules.specs.Ring.{Node, opened, marked, Ring, is_open, first_open, all_open, start_or, vertex_at, last_open, last_vertex, onward}
use Rattle.rules.specs.Ring.{shown}
use Rattle.rules.specs.Ring.{places}
use Rattle.rules.specs.Table.{Side, glued, fresh, Effect, not_allowed, builds, marks, allowed, marking, at_edge}
use Rattle.rules.specs.Machine.{fresh_sides}
use Rattle.book.proofs.Parts.{building_of, marking_of}
use Rattle.book.proofs.Effects as effects
use Rattle.border_theory.specs.Links.Held.{named_ring, named_loops}
use Rattle.border_theory.proofs.Links.Named.{named_length, named_start, named_at, named_last, named_last_open, named_first_open}
use Rattle.border_theory.proofs.Links.Named.{named_all_open}
use Rattle.cutborder.specs.declared.Loops.{Loops}
use Rattle.cutborder.specs.declared.Front.{Front}
use Rattle.cutborder.specs.declared.Plan.{Plan}
use Rattle.border_theory.specs.Memory.Decision.{Decided}
use Rattle.cutborder.specs.declared.Action.TheVariants.{Builds, Marks}
use Rattle.std.specs.Prelude.{Err, Ok}
use Rattle.rules.specs.declared.refusal.Refusal.TheVariants.{NotAllowed}
use Rattle.border_theory.specs.Memory.Layout.{at, vertex_of, before_of, after_of, open_of, vertices_of, walked}
use Rattle.border_theory.specs.Memory.Stands.{StandsAt}
use Rattle.border_theory.specs.Memory.Moves.{Held, marked_held, top_free}
use Rattle.border_theory.specs.Memory.Decision.{is_open_at, is_three, allowed_if, plan_at, new_plan, forward_plan, backward_plan}
use Rattle.border_theory.specs.Memory.Decision.{border_plan}
use Rattle.border_theory.specs.Memory.Decision.{held_after}
use Rattle.border_theory.proofs.Memory.Columns.{column_at}
use Rattle.border_theory.proofs.Memory.Standing.{Trail, trails, walk_trail, near_trail, last_trail, start_trail}
use Rattle.border_theory.proofs.Memory.Room.{room}
use Rattle.border_theory.proofs.Memory.Relinked.{Goes, Moved, effect_at, law}
use Rattle.border_theory.proofs.Memory.Simple.{moved_new, moved_forward, moved_backward}
use Rattle.border_theory.proofs.Memory.Border.{moved_border}
use Rattle.border_theory.proofs.Memory.Counts.{places_named, places_after_lem}
use Rattle.border_theory.proofs.Links.Stores.{places_after, after_border}
use Rattle.counting.proofs.Bools.{and_left, and_assoc}

-- a plan's numbers are an effect's
pub record PlanIs (p : Plan) (t : Triangle) (x y z : Side) (v a k : ℕ) : Type 0 where
  pub triangle : p.triangle ≡ t
  pub pq : p.pq ≡ fresh_sides x
  pub qr : p.qr ≡ fresh_sides y
  pub rp : p.rp ≡ fresh_sides z
  pub vertices : p.vertices ≡ v
  pub starts : p.starts ≡ a
  pub unions : p.unions ≡ k

-- the rings of places after it are rs
pub record Proposal (n : ℕ) (s : Front) (m : List ℕ) (o : Operation) (rs : List Ring) (d : Decided) (ls : List Ring) (t : Triangle)
    (pq qr rp : Side) (v a k : ℕ) : Type 0 where
  pub plan : Plan
  pub is : d ≡ Ok (Builds plan)
  pub same : PlanIs plan t pq qr rp v a k
  pub moves : places ls ≤ n → 5 * n + 2 * length ls ≤ length m
      → Moved n s.loops m (held_after n s m o plan) rs (builds (building_of ls t pq qr rp v a k))

pub record MarkProposal (n : ℕ) (s : Front) (m : List ℕ) (rs : List Ring) (d : Decided) (ls : List Ring) (x : Edge) (rim : ℕ) : Type 0 where
  pub is : d ≡ Ok (Marks x.from x.to)
  pub moves : Moved n s.loops m (marked_held n s.loops m) rs (marks (marking_of ls x rim))

abbrev pub Proposes : ℕ → Front → List ℕ → Operation → List Ring → Decided → Effect → Type 0
Proposes n s m o rs d not_allowed = d ≡ Err NotAllowed
Proposes n s m o rs d (builds x) =
    Proposal n s m o rs d x.loops x.triangle x.sides.pq x.sides.qr x.sides.rp x.added.vertices x.added.starts
    x.added.unions
Proposes n s m o rs d (marks y) = MarkProposal n s m rs d y.loops y.edge y.rims

-- an operation that is allowed under a test
pub allowed_proposes : (n : ℕ) (s : Front) (m : List ℕ) (o : Operation) (rs : List Ring) (t t' : Bool) (d : Decided) (E : Effect) → t' ≡ t
    → (t ≡ true → Proposes n s m o rs d E) → Proposes n s m o rs (allowed_if t' d) (allowed t E)
unfolding allowed allowed_if
allowed_proposes n s m o rs true t' d E e f = rw e (f refl)
allowed_proposes n s m o rs false t' d E e f = rw e

pub allowed_moved : (n : ℕ) (l : Loops) (m : List ℕ) (h : Held) (rs : List Ring) (t : Bool) (B : Effect) → t ≡ true → Goes B
    → (Goes (allowed t B) → Moved n l m h rs (allowed t B)) → Moved n l m h rs B
unfolding allowed
allowed_moved n l m h rs true B e g f = f g
allowed_moved n l m h rs false B e g f = absurd (false≢true e)

pub allowed_law : (u : ℕ) (before : List Ring) (t : Bool) (B : Effect) → t ≡ true → effects.Law u before (allowed t B)
    → effects.Law u before B
unfolding allowed
allowed_law u before true B e l = l
allowed_law u before false B e l = absurd (false≢true e)

one_open : (b : Bool) → eqb (num b) 1 ≡ b
one_open true = refl
one_open false = refl

pub and_cong : (a b a' b' : Bool) → a ≡ a' → (a' ≡ true → b ≡ b') → a && b ≡ a' && b'
and_cong a b true b' e f = ap₂ ◌&&◌ e (f refl)
and_cong a b false b' e f = rw e

pub three_tests : (a b c : Bool) (d : Decided) → allowed_if a (allowed_if b (allowed_if c d)) ≡ allowed_if (a && b && c) d
unfolding allowed_if
three_tests true true c d = refl
three_tests true false c d = refl
three_tests false b c d = refl

pub four_tests : (a b c e : Bool) (d : Decided)
    → allowed_if a (allowed_if b (allowed_if c (allowed_if e d))) ≡ allowed_if (a && b && c && e) d
unfolding allowed_if
four_tests true true true e d = refl
four_tests true true false e d = refl
four_tests true false c e d = refl
four_tests false b c e d = refl

both_open : (f g : Node) → is_open f && is_open g ≡ all_open (f ∷ (g ∷ []))
unfolding all_open
both_open (opened x) (opened y) = refl
both_open (opened x) (marked y) = refl
both_open (marked x) g = refl

pub two_open : (n : ℕ) (m : List ℕ) (b : ℕ) (ps : List Node) → Trail n m ps b → length ps ≡ 2
    → is_open_at m (start_or b ps) && is_open_at m (after_of m (start_or b ps)) ≡ all_open ps
two_open n m b [] t h = absurd (omega (arith, h))
two_open n m b (f ∷ []) t h = absurd (omega (arith, h))
two_open n m b (f ∷ (g ∷ (p ∷ ps))) t h = absurd (omega (arith, h))
two_open n m b (f ∷ (g ∷ [])) t h =
    ap₂ ◌&&◌ (ap (λ (x : ℕ). eqb x 1) t.0.mark ∙ one_open (is_open f))
    (ap (is_open_at m) t.0.fore ∙ ap (λ (x : ℕ). eqb x 1) t.1.0.mark ∙ one_open (is_open g)) ∙ both_open f g

-- the first mark of a run
first_mark : (n : ℕ) (m : List ℕ) (b : ℕ) (ps : List Node) → Trail n m ps b → 1 ≤ length ps
    → open_of m (start_or b ps) ≡ num (first_open ps)
first_mark n m b [] t h = absurd (omega arith)
first_mark n m b (p ∷ ps) t h = t.0.mark

module _ (n : ℕ) (s : Front) (m : List ℕ) (e : ℕ) (ps : List Node) (ws : List Ring)
    (st : StandsAt n s.loops m ((opened e ∷ ps) ∷ ws)) where
  vs : List ℕ
  vs = vertices_of n m

  pub ring : Trail n m (opened e ∷ ps) e
  ring = (trails n s.loops m ((opened e ∷ ps) ∷ ws) st).0

  pub name : (x : ℕ) → x < n → vertex_of m x ≡ get_or (vertices_of n m) x 0
  name x h = let z : 4 * x ≡ 4 * x + 0 = omega arith in ap (at m) z ∙ sym (column_at m 0 n x h)

  pub at_e : s.loops.current ≡ e
  at_e = st.heads.current

  pub at_f : after_of m s.loops.current ≡ start_or e ps
  at_f = ap (after_of m) at_e ∙ ring.0.fore

  -- the place i places after it
  pub at_next : (i : ℕ) → i < length ps → walked m i (after_of m s.loops.current) ≡ vertex_at ps i
  at_next i h = ap (walked m i) at_f ∙ walk_trail n m e ps i ring.1 h

  pub name_next : (i : ℕ) → i < length ps
      → vertex_of m (walked m i (after_of m s.loops.current)) ≡ vertex_at (named_ring (vertices_of n m) ps) i
  name_next i h = ap (vertex_of m) (at_next i h) ∙ name (vertex_at ps i) (near_trail n m e ps i ring.1 h)
      ∙ sym (named_at (vertices_of n m) ps i h)

  name_a : vertex_of m s.loops.current ≡ get_or (vertices_of n m) e 0
  name_a = ap (vertex_of m) at_e ∙ name e ring.0.near

  name_b : vertex_of m (after_of m s.loops.current) ≡ start_or (get_or (vertices_of n m) e 0) (named_ring (vertices_of n m) ps)
  name_b = ap (vertex_of m) at_f ∙ name (start_or e ps) (start_trail n m e ring.0.near ps ring.1)
      ∙ sym (named_start (vertices_of n m) e ps)

  pub size_is : s.loops.size ≡ suc (length (named_ring (vertices_of n m) ps))
  size_is = st.heads.size ∙ ap suc (sym (named_length (vertices_of n m) ps))

  -- the triangle b a c
  pub corners : (c c' : ℕ) → c ≡ c'
      → tri (vertex_of m (after_of m s.loops.current)) (vertex_of m s.loops.current) c
      ≡ tri (start_or (get_or (vertices_of n m) e 0) (named_ring (vertices_of n m) ps)) (get_or (vertices_of n m) e 0) c'
  corners c c' h = rw (name_b, name_a, h)

  -- an operation with two new edges finds a free place
  pub some_free : (u : ℕ) (ls : List Ring) (t : Triangle) (v a k : ℕ)
      → effects.Builds u (named_loops (vertices_of n m) ((opened e ∷ ps) ∷ ws)) ls t glued fresh fresh v a k → places ls ≤ n
      → 1 ≤ s.loops.free
  some_free u ls t v a k b h =
      omega (
        arith,
        h,
        places_after_lem u (named_loops (vertices_of n m) ((opened e ∷ ps) ∷ ws)) ls t glued fresh fresh v a k b,
        places_named (vertices_of n m) ((opened e ∷ ps) ∷ ws),
        room n s.loops m ((opened e ∷ ps) ∷ ws) st,
      )

  pub propose_new : Proposes n s m New (places_after New (top_free n s.loops m) e ps ws) (new_plan s.loops m s.used)
      (effect_at New s.used n m e ps ws)
  unfolding new_plan at_edge
  propose_new = record {
    plan = plan_at s.loops m s.used 1 1 1 0 0;
    is = refl;
    same = record {
      triangle = corners s.used s.used refl;
      pq = refl;
      qr = refl;
      rp = refl;
      vertices = refl;
      starts = refl;
      unions =
          refl;
    };
    moves = λ h k.
        moved_new n s.loops m s.used e ps ws st tt
        (some_free s.used _ _ 1 0 0 (law New n s.loops m s.used 0 e ps ws st tt) h);
  }

  pub open_f : 1 ≤ length ps → is_open_at m (after_of m s.loops.current) ≡ first_open (named_ring (vertices_of n m) ps)
  open_f h =
      ap (is_open_at m) at_f ∙ ap (λ (x : ℕ). eqb x 1) (first_mark n m e ps ring.1 h) ∙ one_open (first_open ps)
      ∙ sym (named_first_open (vertices_of n m) ps)

  pub name_c : 1 < length ps → vertex_of m (after_of m (after_of m s.loops.current)) ≡ vertex_at (named_ring (vertices_of n m) ps) 1
  unfolding walked
  name_c h = name_next 1 h

  pub three_open : eqb (suc (length (named_ring (vertices_of n m) ps))) 3 ≡ true
      → is_open_at m (after_of m s.loops.current)
      && is_open_at m (after_of m (after_of m s.loops.current)) ≡ all_open (named_ring (vertices_of n m) ps)
  three_open h =
      ap (λ (x : ℕ). is_open_at m x && is_open_at m (after_of m x)) at_f
      ∙ two_open n m e ps ring.1
      (omega (arith, eqb-true (suc (length (named_ring (vertices_of n m) ps))) 3 h, named_length (vertices_of n m) ps))
      ∙ sym (named_all_open (vertices_of n m) ps)

  three_same : is_three s.loops m ≡ eqb (suc (length (named_ring (vertices_of n m) ps))) 3 && all_open (named_ring (vertices_of n m) ps)
  unfolding is_three
  three_same =
      let x : ℕ = after_of m s.loops.current in
      and_assoc (eqb s.loops.size 3) (is_open_at m x) (is_open_at m (after_of m x))
      ∙ and_cong (eqb s.loops.size 3) (is_open_at m x && is_open_at m (after_of m x))
      (eqb (suc (length (named_ring (vertices_of n m) ps))) 3)
      (all_open (named_ring (vertices_of n m) ps)) (ap (λ (k : ℕ). eqb k 3) size_is) three_open

  three : leb 3 (suc (length (named_ring (vertices_of n m) ps))) ≡ true → 2 ≤ length ps
  three h = omega (arith, leb-true 3 (suc (length (named_ring (vertices_of n m) ps))) h, named_length (vertices_of n m) ps)

  -- the tests of forward and of backward, where a is the memory's, b the table's word on the glued edge
  near_tests : (a b : Bool) → (2 ≤ length ps → a ≡ b)
      → leb 3 s.loops.size && a && not (is_three s.loops m)
      ≡ leb 3 (suc (length (named_ring (vertices_of n m) ps))) && b
      && not (eqb (suc (length (named_ring (vertices_of n m) ps))) 3 && all_open (named_ring (vertices_of n m) ps))
  near_tests a b f =
      let k : ℕ = suc (length (named_ring (vertices_of n m) ps)) in
      and_cong (leb 3 s.loops.size && a) (not (is_three s.loops m)) (leb 3 k && b)
      (not (eqb k 3 && all_open (named_ring (vertices_of n m) ps)))
      (and_cong (leb 3 s.loops.size) a (leb 3 k) b (ap (leb 3) size_is) (λ h. f (three h))) (λ h. ap not three_same)

  pub propose_forward : Proposes n s m Forward (places_after Forward 0 e ps ws) (forward_plan s.loops m)
      (effect_at Forward s.used n m e ps ws)
  unfolding forward_plan at_edge
  propose_forward =
      let p : Plan = plan_at s.loops m (vertex_of m (after_of m (after_of m s.loops.current))) 1 0 0 0 0 in
      let k : ℕ = suc (length (named_ring (vertices_of n m) ps)) in
      let x : Bool = is_open_at m (after_of m s.loops.current) in
      let y : Bool = first_open (named_ring (vertices_of n m) ps) in
      let t : Bool = leb 3 k && y && not (eqb k 3 && all_open (named_ring (vertices_of n m) ps)) in
      let t' : Bool = leb 3 s.loops.size && x && not (is_three s.loops m) in
      rw (three_tests (leb 3 s.loops.size) x (not (is_three s.loops m)) (Ok (Builds p)))
      (allowed_proposes n s m Forward (places_after Forward 0 e ps ws) t t' (Ok (Builds p)) _
      (near_tests x y (λ h. open_f (omega (arith, h))))
      (λ h. record {
        plan = p;
        is = refl;
        same = record {
          triangle = corners _ _ (name_c (omega (arith, three (and_left (leb 3 k) y (and_left (leb 3 k && y) _ h)))));
          pq =
              refl;
          qr = refl;
          rp = refl;
          vertices = refl;
          starts = refl;
          unions = refl;
        };
        moves = λ i j.
            allowed_moved n s.loops m (held_after n s m Forward p) (places_after Forward 0 e ps ws) t _ h tt
            (moved_forward n s.loops m s.used e ps ws st);
      }))

  at_last : 1 ≤ length ps → before_of m s.loops.current ≡ last_vertex ps
  at_last h = ap (before_of m) at_e ∙ (last_trail n m e ps ring.1 h).back

  pub open_last : 1 ≤ length ps → is_open_at m (before_of m s.loops.current) ≡ last_open (named_ring (vertices_of n m) ps)
  open_last h =
      ap (is_open_at m) (at_last h) ∙ ap (λ (x : ℕ). eqb x 1) (last_trail n m e ps ring.1 h).mark ∙ one_open (last_open ps)
      ∙ sym (named_last_open (vertices_of n m) ps)

  name_last : 1 ≤ length ps → vertex_of m (before_of m s.loops.current) ≡ last_vertex (named_ring (vertices_of n m) ps)
  name_last h =
      ap (vertex_of m) (at_last h) ∙ name (last_vertex ps) (last_trail n m e ps ring.1 h).near ∙ sym (named_last (vertices_of n m) ps h)

  pub propose_backward : Proposes n s m Backward (places_after Backward 0 e ps ws) (backward_plan s.loops m)
      (effect_at Backward s.used n m e ps ws)
  unfolding backward_plan at_edge
  propose_backward =
      let p : Plan = plan_at s.loops m (vertex_of m (before_of m s.loops.current)) 0 1 0 0 0 in
      let k : ℕ = suc (length (named_ring (vertices_of n m) ps)) in
      let x : Bool = is_open_at m (before_of m s.loops.current) in
      let y : Bool = last_open (named_ring (vertices_of n m) ps) in
      let t : Bool = leb 3 k && y && not (eqb k 3 && all_open (named_ring (vertices_of n m) ps)) in
      let t' : Bool = leb 3 s.loops.size && x && not (is_three s.loops m) in
      rw (three_tests (leb 3 s.loops.size) x (not (is_three s.loops m)) (Ok (Builds p)))
      (allowed_proposes n s m Backward (places_after Backward 0 e ps ws) t t' (Ok (Builds p)) _
      (near_tests x y (λ h. open_last (omega (arith, h))))
      (λ h. record {
        plan = p;
        is = refl;
        same = record {
          triangle = corners _ _ (name_last (omega (arith, three (and_left (leb 3 k) y (and_left (leb 3 k && y) _ h)))));
          pq =
              refl;
          qr = refl;
          rp = refl;
          vertices = refl;
          starts = refl;
          unions = refl;
        };
        moves = λ i j.
            allowed_moved n s.loops m (held_after n s m Backward p) (places_after Backward 0 e ps ws) t _ h tt
            (moved_backward n s.loops m s.used e ps ws st);
      }))

  marking_proposes : (r : Ring) (rs : List Ring) (x : Edge) (d : Decided) → d ≡ Ok (Marks x.from x.to)
      → Moved n s.loops m (marked_held n s.loops m) (after_border e ps ws) (marking r rs x)
      → Proposes n s m Border (after_border e ps ws) d (marking r rs x)
  marking_proposes [] rs x d i h = record { is = i; moves = h }
  marking_proposes (p ∷ r) rs x d i h = record { is = i; moves = h }

  pub propose_border : Proposes n s m Border (after_border e ps ws) (border_plan s.loops m) (effect_at Border s.used n m e ps ws)
  unfolding border_plan at_edge
  propose_border =
      marking_proposes (shown (onward [] (named_ring (vertices_of n m) ps ++ (marked (get_or (vertices_of n m) e 0) ∷ []))))
      (named_loops (vertices_of n m) ws)
      (edge (get_or (vertices_of n m) e 0) (start_or (get_or (vertices_of n m) e 0) (named_ring (vertices_of n m) ps)))
      (Ok (Marks (vertex_of m s.loops.current) (vertex_of m (after_of m s.loops.current))))
      (ap₂ (λ (x y : ℕ). Ok (Marks x y)) name_a name_b)
      (moved_border n s.loops m s.used e ps ws st)

pub allowed_goes : (t : Bool) (B : Effect) → t ≡ true → Goes B → Goes (allowed t B)
unfolding allowed
allowed_goes true B e g = g
allowed_goes false B e g = absurd (false≢true e)
