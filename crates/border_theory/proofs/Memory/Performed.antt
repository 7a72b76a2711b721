-- Every plan that is decided can be done, and the counts after it fit.
-- Assumes nothing.
use Prim.Native.Nat.{ℕ, ◌+◌, ◌-◌, ◌*◌, ◌≤◌}
use native.Mathlib.Omega.{arith}
use mathlib.Core.Bool.{Bool, true, false}
use mathlib.Core.List.{List}
use mathlib.Core.Path.{◌≡◌, refl, ap, ◌∙◌, subst}
use lib.Dec.{eqb, leb, ltb}
use borrow.Author.Tests.{leb-true, ltb-true, eqb-true, eqb-false}
use Rattle.rules.specs.declared.Operation.{Operation}
use Rattle.rules.specs.declared.Operation.TheVariants.{New, Forward, Backward, Border, Split, Close, Union, Start}
use Rattle.rules.specs.Ring.{Ring}
use Rattle.book.specs.Sums.{placed}
use Rattle.cutborder.specs.declared.Loops.{Loops}
use Rattle.cutborder.specs.declared.Front.{Front}
use Rattle.cutborder.specs.declared.Plan.{Plan}
use Rattle.cutborder.specs.declared.Action.TheVariants.{Builds}
use Rattle.std.specs.Prelude.{Ok}
use Rattle.border_theory.specs.Memory.Layout.{at, before_of, after_of, open_of, edges_stored}
use Rattle.border_theory.specs.Memory.Stands.{rings_in}
use Rattle.border_theory.specs.Memory.Moves.{ended_by, ended_held, turned_by, turned_held, cut_by, next_cut, last_cut, both_cut}
use Rattle.border_theory.specs.Memory.Moves.{marked_held}
use Rattle.border_theory.specs.Memory.Moves.{new_held, forward_held, backward_held, split_by, split_held, doubled, top_free, union_held}
use Rattle.border_theory.specs.Memory.Moves.{start_held}
use Rattle.border_theory.specs.Memory.Decision.{plan_at, new_plan, forward_plan, backward_plan, border_plan, split_plan, close_plan}
use Rattle.border_theory.specs.Memory.Decision.{union_plan, start_plan, edge_proposed, rest_proposed, proposed_by, proposed, new_edges}
use Rattle.border_theory.specs.Memory.Decision.{decided, held_after}
use Rattle.border_theory.specs.Memory.Near.{Near, Borders, Doubles}
use Rattle.border_theory.specs.Memory.Keeps.{Ready}
use Rattle.border_theory.specs.Memory.Performs.{Performs, Counts16}
use Rattle.border_theory.proofs.Memory.Near.{starts}
use Rattle.border_theory.proofs.Memory.Around.{PlaceIn, after_in, walked_in, waiting_in_lem, current_in}
use Rattle.border_theory.proofs.Memory.Ready.{ready_near, ready_free}
use Rattle.border_theory.proofs.Memory.Performing.{chosen, never, never_marks, same_plan, HasRoom, has_room, passed, doubles_split}
use Rattle.border_theory.proofs.Memory.Performing.{doubles_union}

-- a plan's numbers are small
record Small (p : Plan) : Type 0 where
  edges : new_edges p ≤ 3
  vertices : p.vertices ≤ 3
  starts : p.starts ≤ 1
  unions : p.unions ≤ 1

record Able (n : ℕ) (s : Front) (m : List ℕ) (o : Operation) (p : Plan) : Type 0 where
  performs : Performs n s.loops m s.used o p.place
  place : PlaceIn o p.place (rings_in n s.loops m)
  small : Small p

small_at : (l : Loops) (m : List ℕ) (c qr rp v k x : ℕ) (p : Plan) → plan_at l m c qr rp v k x ≡ p → qr ≤ 1 → rp ≤ 1 → v ≤ 3 → k ≤ 1
    → Small p
small_at l m c qr rp v k x p e a b d f = record {
  edges = omega (arith, ap (λ (q : Plan). new_edges q) e, a, b);
  vertices = omega (arith, ap (λ (q : Plan). q.vertices) e, d);
  starts = omega (arith, ap (λ (q : Plan). q.starts) e);
  unions = omega (arith, ap (λ (q : Plan). q.unions) e, f);
}

module _ (n : ℕ) (s : Front) (m : List ℕ) (r : Ready n s m) (p : Plan) (room : HasRoom n s p) where
  -- an operation with two new edges finds a free place
  some_free : (c v k x : ℕ) → plan_at s.loops m c 1 1 v k x ≡ p → 1 ≤ s.loops.free
  some_free c v k x e = omega (arith, ap (λ (q : Plan). new_edges q) e, room.places, r.roomy.enough, (ready_free n s m r).0)

  -- the place after the current one is in a loop
  after_here : (s.loops.live ≡ 0 → ⊥) → 1 ≤ placed (after_of m s.loops.current) (rings_in n s.loops m)
  after_here h =
      let rs : List Ring = rings_in n s.loops m in
      after_in n s.loops m rs r.stands s.loops.current (current_in n s.loops m rs r.stands h)

  able_edge : (o : Operation) → (s.loops.live ≡ 0 → ⊥) → edge_proposed n s.loops m s.used o ≡ Ok (Builds p) → Able n s m o p
  unfolding new_plan forward_plan backward_plan border_plan split_plan close_plan union_plan
  able_edge New h e =
      let z = same_plan p _ e in
      record {
        performs = (ready_near n s m r h, some_free _ _ _ _ z);
        place = tt;
        small = small_at s.loops m _ 1 1 1 0 0 p z (omega arith) (omega arith) (omega arith) (omega arith);
      }
  able_edge Forward h e =
      let z = same_plan p _ (passed _ _ p (passed _ _ p (passed _ _ p e).is).is).is in
      record {
        performs = ready_near n s m r h;
        place = tt;
        small = small_at s.loops m _ 1 0 0 0 0 p z (omega arith) (omega arith) (omega arith) (omega arith);
      }
  able_edge Backward h e =
      let z = same_plan p _ (passed _ _ p (passed _ _ p (passed _ _ p e).is).is).is in
      record {
        performs = ready_near n s m r h;
        place = tt;
        small = small_at s.loops m _ 0 1 0 0 0 p z (omega arith) (omega arith) (omega arith) (omega arith);
      }
  able_edge Border h e = absurd (never_marks _ _ p e)
  able_edge (Split i) h e =
      let a = passed (leb 1 i) _ p e in
      let b = passed (leb (i + 2) s.loops.size) _ p a.is in
      let z = same_plan p _ (passed _ _ p (passed _ _ p b.is).is).is in
      let low : 1 ≤ i = leb-true 1 i a.test in
      let high : i + 2 ≤ s.loops.size = leb-true (i + 2) s.loops.size b.test in
      let free : 1 ≤ s.loops.free = some_free _ _ _ _ z in
      let d = doubles_split n s.loops m free (rings_in n s.loops m) r.stands (omega (arith, h)) i low high in
      let live : s.loops.live + 1 ≤ s.stated.loops =
      omega (
        arith,
        room.loops,
        ap (λ (q : Plan). new_edges q) z,
        ap (λ (q : Plan). q.vertices) z,
        ap (λ (q : Plan). q.starts) z,
        ap (λ (q : Plan). q.unions) z,
      ) in
      record {
        performs = (
          (ready_near n s m r h, subst (Doubles n s.loops m) (ap (λ (q : Plan). q.place) z) d),
          (high, omega (arith, live, r.loops), omega (arith, live, r.roomy.long)),
        );
        place = subst (λ (c : ℕ). 1 ≤ placed c (rings_in n s.loops m)) (ap (λ (q : Plan). q.place) z)
            (walked_in n s.loops m (rings_in n s.loops m) r.stands i (after_of m s.loops.current) (after_here h));
        small = small_at s.loops m _ 1 1 0 0 _ p z (omega arith) (omega arith) (omega arith) (omega arith);
      }
  able_edge Close h e =
      let z = same_plan p _ (passed _ _ p (passed _ _ p (passed _ _ p e).is).is).is in
      record {
        performs = ready_near n s m r h;
        place = tt;
        small = small_at s.loops m _ 0 0 0 0 0 p z (omega arith) (omega arith) (omega arith) (omega arith);
      }
  able_edge (Union k j) h e =
      let a = passed (leb 1 k) _ p e in
      let b = passed (leb k (s.loops.live - 1)) _ p a.is in
      let c = passed (ltb j (at m (5 * n + 2 * (s.loops.live - 1 - k) + 1))) _ p b.is in
      let z = same_plan p _ c.is in
      let low : 1 ≤ k = leb-true 1 k a.test in
      let high : k ≤ s.loops.live - 1 = leb-true k (s.loops.live - 1) b.test in
      let inside = ltb-true j (at m (5 * n + 2 * (s.loops.live - 1 - k) + 1)) c.test in
      let free : 1 ≤ s.loops.free = some_free _ _ _ _ z in
      let d = doubles_union n s.loops m free (rings_in n s.loops m) r.stands k j low high inside in
      record {
        performs = (
          (ready_near n s m r h, subst (Doubles n s.loops m) (ap (λ (q : Plan). q.place) z) d),
          (low, omega (arith, low, high)),
        );
        place = subst (λ (c : ℕ). 1 ≤ placed c (rings_in n s.loops m)) (ap (λ (q : Plan). q.place) z)
            (walked_in n s.loops m (rings_in n s.loops m) r.stands j (at m (5 * n + 2 * (s.loops.live - 1 - k)))
            (waiting_in_lem n s.loops m (rings_in n s.loops m) r.stands k j low high inside));
        small = small_at s.loops m _ 1 1 0 1 _ p z (omega arith) (omega arith) (omega arith) (omega arith);
      }
  able_edge Start h e = absurd (never _ p e)

  able_rest : (o : Operation) → s.loops.live ≡ 0 → rest_proposed s.used o ≡ Ok (Builds p) → Able n s m o p
  unfolding start_plan
  able_rest New h e = absurd (never _ p e)
  able_rest Forward h e = absurd (never _ p e)
  able_rest Backward h e = absurd (never _ p e)
  able_rest Border h e = absurd (never _ p e)
  able_rest (Split i) h e = absurd (never _ p e)
  able_rest Close h e = absurd (never _ p e)
  able_rest (Union k j) h e = absurd (never _ p e)
  able_rest Start h e =
      let z = same_plan p _ e in
      let edges = ap (λ (q : Plan). new_edges q) z in
      record {
        performs = (
          starts n s.loops m (rings_in n s.loops m) r.roomy.few r.stands h
              (omega (arith, edges, room.places, r.roomy.enough, (ready_free n s m r).0)),
          r.used,
        );
        place = tt;
        small = record {
          edges = omega (arith, edges);
          vertices = omega (arith, ap (λ (q : Plan). q.vertices) z);
          starts = omega (arith, ap (λ (q : Plan). q.starts) z);
          unions = omega (arith, ap (λ (q : Plan). q.unions) z);
        };
      }

  able_by : (o : Operation) (t : Bool) → eqb s.loops.live 0 ≡ t → proposed_by t n s.loops m s.used o ≡ Ok (Builds p) → Able n s m o p
  able_by o true h e = able_rest o (eqb-true s.loops.live 0 h) e
  able_by o false h e = able_edge o (eqb-false s.loops.live 0 h) e

able : (n : ℕ) (s : Front) (m : List ℕ) (o : Operation) (p : Plan) → Ready n s m → decided n s m o ≡ Ok (Builds p) → Able n s m o p
unfolding decided proposed
able n s m o p r e =
    let c = chosen n s (proposed n s m o) p e in
    able_by n s m r p (has_room n s p c.room) o (eqb s.loops.live 0) refl c.is

pub place_in : (n : ℕ) (s : Front) (m : List ℕ) (o : Operation) (p : Plan) → Ready n s m → decided n s m o ≡ Ok (Builds p)
    → PlaceIn o p.place (rings_in n s.loops m)
place_in n s m o p r e = (able n s m o p r e).place

pub performs : (n : ℕ) (s : Front) (m : List ℕ) (o : Operation) (p : Plan) → Ready n s m → decided n s m o ≡ Ok (Builds p)
    → Performs n s.loops m s.used o p.place
performs n s m o p r e = (able n s m o p r e).performs

-- the free places after it are places
ended_free : (n : ℕ) (l : Loops) (m : List ℕ) → (ended_held n l m).loops.free ≡ l.free + l.size
unfolding ended_held
ended_free n l m = go (leb l.live 1)
  where
    go : (t : Bool) → (ended_by t n l m).loops.free ≡ l.free + l.size
    go true = refl
    go false = refl

turned_free : (n : ℕ) (l : Loops) (m : List ℕ) → Near n l m → (turned_held n l m).loops.free ≤ n
unfolding turned_held
turned_free n l m h =
    let m₁ : List ℕ = edges_stored _ m in
    go (eqb (open_of m₁ (after_of m l.current)) 0) _ _
  where
    go : (t : Bool) (m₁ : List ℕ) (p : ℕ) → (turned_by t n l m₁ p).loops.free ≤ n
    go true m₁ p = omega (arith, ended_free n l m₁, h.room)
    go false m₁ p = omega (arith, h.room)

pub marked_free : (n : ℕ) (l : Loops) (m : List ℕ) → Borders n l m → (marked_held n l m).loops.free ≤ n
unfolding marked_held
marked_free n l m h = turned_free n (both_cut n l m).loops (both_cut n l m).memory h.last

after_free : (n : ℕ) (s : Front) (m : List ℕ) (o : Operation) (p : Plan) → s.loops.free ≤ n
    → Performs n s.loops m s.used o p.place → (held_after n s m o p).loops.free ≤ n
unfolding new_held forward_held backward_held split_held union_held start_held
after_free n s m New p f h = omega (arith, f)
after_free n s m Forward p f h = omega (arith, h.room, h.some)
after_free n s m Backward p f h = omega (arith, h.room, h.some)
after_free n s m Border p f h = marked_free n s.loops m h
after_free n s m (Split i) p f h = go (leb (i + 1) (s.loops.size - i))
  where
    go : (t : Bool) → (split_by t n s.loops (doubled n s.loops m p.place) i (top_free n s.loops m)).loops.free ≤ n
    go true = omega (arith, f)
    go false = omega (arith, f)
after_free n s m Close p f h = omega (arith, ended_free n s.loops m, h.room)
after_free n s m (Union k j) p f h = omega (arith, f)
after_free n s m Start p f h = omega (arith, f)

pub counts16 : (n : ℕ) (s : Front) (m : List ℕ) (o : Operation) (p : Plan) → Ready n s m → decided n s m o ≡ Ok (Builds p)
    → Counts16 n s p (held_after n s m o p).loops
unfolding decided
counts16 n s m o p r e =
    let a = able n s m o p r e in
    let w = has_room n s p (chosen n s (proposed n s m o) p e).room in
    record {
      few = r.roomy.few;
      free = after_free n s m o p (ready_free n s m r).0 a.performs;
      used = omega (arith, w.vertices, r.vertices);
      built = omega (arith, w.triangles, r.triangles);
      edges = omega (arith, r.edges, a.small.edges);
      starts = omega (arith, r.starts, a.small.starts);
      unions = omega (arith, r.unions, a.small.unions);
    }

-- marking leaves no more loops
turned_live : (n : ℕ) (l : Loops) (m : List ℕ) → (turned_held n l m).loops.live ≤ l.live
unfolding turned_held
turned_live n l m =
    let m₁ : List ℕ = edges_stored _ m in
    go (eqb (open_of m₁ (after_of m l.current)) 0) _ _
  where
    fewer : (t : Bool) (m₁ : List ℕ) → (ended_by t n l m₁).loops.live ≤ l.live
    fewer true m₁ = omega arith
    fewer false m₁ = omega arith

    go : (t : Bool) (m₁ : List ℕ) (p : ℕ) → (turned_by t n l m₁ p).loops.live ≤ l.live
    go true m₁ p = unfold ended_held in fewer (leb l.live 1) m₁
    go false m₁ p = omega arith

-- and at most one less
turned_less : (n : ℕ) (l : Loops) (m : List ℕ) → l.live ≤ (turned_held n l m).loops.live + 1
unfolding turned_held
turned_less n l m =
    let m₁ : List ℕ = edges_stored _ m in
    go (eqb (open_of m₁ (after_of m l.current)) 0) _ _
  where
    one : (t : Bool) (m₁ : List ℕ) → leb l.live 1 ≡ t → l.live ≤ (ended_by t n l m₁).loops.live + 1
    one true m₁ e = omega (arith, leb-true l.live 1 e)
    one false m₁ e = omega arith

    go : (t : Bool) (m₁ : List ℕ) (p : ℕ) → l.live ≤ (turned_by t n l m₁ p).loops.live + 1
    go true m₁ p = unfold ended_held in one (leb l.live 1) m₁ refl
    go false m₁ p = omega arith

-- the places that leave change no loop's number
cut_live : (n : ℕ) (l : Loops) (m : List ℕ) → (both_cut n l m).loops.live ≡ l.live
unfolding next_cut last_cut
cut_live n l m = last (next_cut n l m).loops (next_cut n l m).memory ∙ next (eqb (open_of m (after_of m l.current)) 0)
  where
    next : (t : Bool) → (cut_by t (forward_held n l m) l m).loops.live ≡ l.live
    next true = unfold forward_held in refl
    next false = refl

    last : (k : Loops) (m₁ : List ℕ) → (last_cut n k m₁).loops.live ≡ k.live
    last k m₁ = go (eqb (open_of m₁ (before_of m₁ k.current)) 0)
      where
        go : (t : Bool) → (cut_by t (backward_held n k m₁) k m₁).loops.live ≡ k.live
        go true = unfold backward_held in refl
        go false = refl

pub marked_live : (n : ℕ) (l : Loops) (m : List ℕ) → (marked_held n l m).loops.live ≤ l.live
unfolding marked_held
marked_live n l m = omega (arith, turned_live n (both_cut n l m).loops (both_cut n l m).memory, cut_live n l m)

pub marked_less : (n : ℕ) (l : Loops) (m : List ℕ) → l.live ≤ (marked_held n l m).loops.live + 1
unfolding marked_held
marked_less n l m = omega (arith, turned_less n (both_cut n l m).loops (both_cut n l m).memory, cut_live n l m)
