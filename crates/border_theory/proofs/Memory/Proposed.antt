-- What is proposed for close, split, union and start; and for every operation.
-- Assumes nothing.
use Prim.Native.Nat.{ℕ, suc, ◌+◌, ◌-◌, ◌*◌, ◌≤◌, ◌<◌}
use native.Mathlib.Omega.{arith}
use mathlib.Core.Bool.{Bool, true, false, ◌&&◌, not, false≢true}
use mathlib.Core.List.{List, [], ◌∷◌}
use mathlib.Core.Path.{◌≡◌, refl, sym, ap, ap₂, ◌∙◌, subst}
use lib.ListN.{length, get_or}
use lib.Dec.{eqb, leb, ltb}
use borrow.Author.Tests.{leb-true, ltb-true, eqb-true, ne_eqb}
use Rattle.rules.specs.declared.Operation.{Operation}
use Rattle.rules.specs.declared.Operation.TheVariants.{New, Forward, Backward, Border, Split, Close, Union, Start}
use Rattle.rules.specs.Triangle.{tri}
use Rattle.rules.specs.Ring.{Node, opened, marked, Ring, first_open, all_open, start_or, vertex_at, last_open, places, loop_at}
use Rattle.rules.specs.Table.{at_edge, at_rest, effect}
use Rattle.book.proofs.Effects as effects
use Rattle.border_theory.specs.Links.Held.{named_ring, named_loops}
use Rattle.border_theory.proofs.Links.Named.{named_length, named_at, named_loop_at, named_lives}
use Rattle.cutborder.specs.declared.Front.{Front}
use Rattle.cutborder.specs.declared.Plan.{Plan}
use Rattle.cutborder.specs.declared.Action.TheVariants.{Builds}
use Rattle.std.specs.Prelude.{Ok}
use Rattle.border_theory.specs.Memory.Layout.{at, vertex_of, before_of, after_of, vertices_of, walked}
use Rattle.border_theory.specs.Memory.Stands.{StandsAt}
use Rattle.border_theory.specs.Memory.Moves.{split_held, union_held, top_free}
use Rattle.border_theory.specs.Memory.Decision.{is_open_at, plan_at, beside_next, beside_last, split_plan, close_plan, union_plan}
use Rattle.border_theory.specs.Memory.Decision.{start_plan}
use Rattle.border_theory.specs.Memory.Decision.{proposed_by, proposed, held_after}
use Rattle.border_theory.proofs.Memory.Standing.{Trail, trails, trail_at, walk_trail, near_trail}
use Rattle.border_theory.proofs.Memory.Room.{room}
use Rattle.border_theory.proofs.Memory.Relinked.{Goes, Moved, effect_at, law}
use Rattle.border_theory.proofs.Memory.Ended.{moved_close}
use Rattle.border_theory.proofs.Memory.Waiting.{waits_at}
use Rattle.border_theory.proofs.Memory.Split.{moved_split}
use Rattle.border_theory.proofs.Memory.Union.{moved_union}
use Rattle.border_theory.proofs.Memory.Start.{moved_start}
use Rattle.border_theory.proofs.Memory.Proposing.{Proposes, allowed_proposes, three_tests, four_tests, and_cong, allowed_goes}
use Rattle.border_theory.proofs.Memory.Proposing.{allowed_moved, allowed_law, name, at_next, name_next, name_c, size_is, open_f}
use Rattle.border_theory.proofs.Memory.Proposing.{open_last, three_open, corners, some_free, propose_new, propose_forward}
use Rattle.border_theory.proofs.Memory.Proposing.{propose_backward, propose_border}
use Rattle.border_theory.proofs.Links.Stores.{places_after}
use Rattle.rules.specs.Places.{places_at, rings_after}
use Rattle.border_theory.specs.Memory.Touched.{taken_by}
use Rattle.counting.proofs.Bools.{and_left, and_right}
use Rattle.border_theory.proofs.Memory.Near.{start_any}

module _ (n : ℕ) (s : Front) (m : List ℕ) (e : ℕ) (ps : List Node) (ws : List Ring)
    (st : StandsAt n s.loops m ((opened e ∷ ps) ∷ ws)) where
  -- the current loop's other places, by their vertices
  abbrev pub others : List Node
  others = named_ring (vertices_of n m) ps

  assoc : (a b c : Bool) → a && b && c ≡ a && (b && c)
  assoc true b c = refl
  assoc false b c = refl

  propose_close : Proposes n s m Close ws (close_plan s.loops m) (effect_at Close s.used n m e ps ws)
  unfolding close_plan at_edge
  propose_close =
      let x : ℕ = after_of m s.loops.current in
      let p : Plan = plan_at s.loops m (vertex_of m (after_of m x)) 0 0 0 0 0 in
      let t : Bool = eqb (suc (length others)) 3 && all_open others in
      let t' : Bool = eqb s.loops.size 3 && is_open_at m x && is_open_at m (after_of m x) in
      rw (three_tests (eqb s.loops.size 3) (is_open_at m x) (is_open_at m (after_of m x)) (Ok (Builds p)))
      (allowed_proposes n s m Close ws t t' (Ok (Builds p)) _
      (assoc (eqb s.loops.size 3) (is_open_at m x) (is_open_at m (after_of m x))
      ∙ and_cong (eqb s.loops.size 3) (is_open_at m x && is_open_at m (after_of m x)) (eqb (suc (length others)) 3) (all_open others)
      (ap (λ (k : ℕ). eqb k 3) (size_is n s m e ps ws st)) (three_open n s m e ps ws st))
      (λ h. record {
        plan = p;
        is = refl;
        same = record {
          triangle =
              corners n s m e ps ws st _ _
              (name_c n s m e ps ws st
              (omega (
                arith,
                eqb-true (suc (length others)) 3 (and_left (eqb (suc (length others)) 3) _ h),
                named_length (vertices_of n m)
                    ps,
              )));
          pq = refl;
          qr = refl;
          rp = refl;
          vertices = refl;
          starts = refl;
          unions = refl;
        };
        moves = λ i k. allowed_moved n s.loops m (held_after n s m Close p) ws t _ h tt (moved_close n s.loops m s.used e ps ws st);
      }))

  lives : length (named_loops (vertices_of n m) ((opened e ∷ ps) ∷ ws)) ≡ s.loops.live
  lives = named_lives (vertices_of n m) ((opened e ∷ ps) ∷ ws) ∙ sym st.heads.live

  propose_split : (i : ℕ) → Proposes n s m (Split i) (places_after (Split i) (top_free n s.loops m) e ps ws) (split_plan s.loops m i)
      (effect_at (Split i) s.used n m e ps ws)
  unfolding split_plan beside_next beside_last at_edge
  propose_split i =
      let c : ℕ = walked m i (after_of m s.loops.current) in
      let p : Plan = plan_at s.loops m (vertex_of m c) 1 1 0 0 c in
      let k : ℕ = suc (length others) in
      let x : Bool = is_open_at m (after_of m s.loops.current) in
      let y : Bool = is_open_at m (before_of m s.loops.current) in
      let z : ℕ = s.loops.size in
      let t₃ : Bool = leb 1 i && leb (i + 2) k && not (eqb i 1 && first_open others) in
      let t : Bool = t₃ && not (eqb (i + 2) k && last_open others) in
      let t' : Bool = leb 1 i && leb (i + 2) z && not (eqb i 1 && x) && not (eqb (i + 2) z && y) in
      let some : leb 1 i && leb (i + 2) k ≡ true → 1 ≤ length ps =
      λ h. omega (arith, leb-true (i + 2) k (and_right (leb 1 i) (leb (i + 2) k) h), named_length (vertices_of n m) ps) in
      rw (four_tests (leb 1 i) (leb (i + 2) z) (not (eqb i 1 && x)) (not (eqb (i + 2) z && y)) (Ok (Builds p)))
      (allowed_proposes n s m (Split i) (places_after (Split i) (top_free n s.loops m) e ps ws) t t' (Ok (Builds p)) _
      (and_cong (leb 1 i && leb (i + 2) z && not (eqb i 1 && x)) (not (eqb (i + 2) z && y)) t₃ (not (eqb (i + 2) k && last_open others))
      (and_cong (leb 1 i && leb (i + 2) z) (not (eqb i 1 && x)) (leb 1 i && leb (i + 2) k) (not (eqb i 1 && first_open others))
      (ap (λ (j : ℕ). leb 1 i && leb (i + 2) j) (size_is n s m e ps ws st))
      (λ h. ap (λ (b : Bool). not (eqb i 1 && b)) (open_f n s m e ps ws st (some h))))
      (λ h.
      ap₂ (λ (j : ℕ) (b : Bool). not (eqb (i + 2) j && b)) (size_is n s m e ps ws st)
      (open_last n s m e ps ws st (some (and_left (leb 1 i && leb (i + 2) k) (not (eqb i 1 && first_open others)) h)))))
      (λ h.
      let j : i < length ps =
      omega (
        arith,
        effects.split_high i k (not (eqb i 1 && first_open others)) (not (eqb (i + 2) k && last_open others)) h,
        named_length
            (vertices_of n m) ps,
      ) in
      let w : c ≡ vertex_at ps i =
      at_next n s m e ps ws st i j in
      let goes : Goes (effect_at (Split i) s.used n m e ps ws) = allowed_goes t _ h tt in
      let b = allowed_law s.used (named_loops (vertices_of n m) ((opened e ∷ ps) ∷ ws)) t _ h
      (law (Split i) n s.loops m s.used 0 e ps ws st goes) in
      record {
        plan = p;
        is = refl;
        same = record {
          triangle =
              corners n s m e ps ws st _ _ (name_next n s m e ps ws st i j);
          pq = refl;
          qr = refl;
          rp = refl;
          vertices = refl;
          starts = refl;
          unions = refl;
        };
        moves = λ a k.
            allowed_moved n s.loops m (split_held n s.loops m i c) (places_after (Split i) (top_free n s.loops m) e ps ws) t _ h tt
            (λ x. subst (λ (y : ℕ). Moved n s.loops m (split_held n s.loops m i y)
            (places_after (Split i) (top_free n s.loops m) e ps ws) (effect_at (Split i) s.used n m e ps ws)) (sym w)
            (moved_split n s.loops m s.used e ps ws st (some_free n s m e ps ws st s.used _ _ 0 0 0 b a) i goes
            (omega (arith, k, b.lives, lives))));
      }))

  -- of a union with waiting loop p at its place j
  module _ (p j : ℕ) where
    waiting : Ring
    waiting = loop_at ws (p - 1)

    lower : ℕ
    lower = s.loops.live - 1 - p

    place : ℕ
    place = walked m j (at m (5 * n + 2 * lower))

    tests : Bool
    tests = leb 1 p && leb p (length (named_loops (vertices_of n m) ws))
        && ltb j (length (loop_at (named_loops (vertices_of n m) ws) (p - 1)))

    there : leb 1 p && leb p (length (named_loops (vertices_of n m) ws)) ≡ true → lower + (p - 1) + 1 ≡ length ws
    unfolding lower
    there h =
        omega (
          arith,
          leb-true 1 p (and_left (leb 1 p) _ h),
          leb-true p (length (named_loops (vertices_of n m) ws)) (and_right (leb 1 p) _ h),
          named_lives (vertices_of n m) ws,
          st.heads.live,
        )

    same_tests : leb 1 p && leb p (s.loops.live - 1) && ltb j (at m (5 * n + 2 * lower + 1)) ≡ tests
    unfolding tests
    same_tests =
        let d : s.loops.live - 1 ≡ length (named_loops (vertices_of n m) ws) =
        omega (arith, st.heads.live, named_lives (vertices_of n m) ws) in
        and_cong (leb 1 p && leb p (s.loops.live - 1)) (ltb j (at m (5 * n + 2 * lower + 1)))
        (leb 1 p && leb p (length (named_loops (vertices_of n m) ws))) _
        (ap (λ (k : ℕ). leb 1 p && leb p k) d)
        (λ h. ap (ltb j) ((waits_at n m ws (p - 1) lower (there h) st.heads.waiting).1
        ∙ sym (ap length (named_loop_at (vertices_of n m) ws (p - 1)) ∙ named_length (vertices_of n m) (loop_at ws (p - 1)))))

    module _ (h : tests ≡ true) where
      inside : j < length waiting
      unfolding tests waiting
      inside =
          omega (
            arith,
            ltb-true j (length (loop_at (named_loops (vertices_of n m) ws) (p - 1)))
                (and_right (leb 1 p && leb p (length (named_loops (vertices_of n m) ws))) _ h),
            ap length (named_loop_at (vertices_of n m) ws (p - 1)),
            named_length (vertices_of n m) (loop_at ws (p - 1)),
          )

      around : Trail n m waiting (start_or 0 waiting)
      unfolding waiting
      around = trail_at n m ws (p - 1) (trails n s.loops m ((opened e ∷ ps) ∷ ws) st).1

      place_is : place ≡ vertex_at (loop_at ws (p - 1)) j
      unfolding place waiting tests
      place_is =
          ap (walked m j) ((waits_at n m ws (p - 1) lower (there (and_left _ _ h)) st.heads.waiting).0
          ∙ start_any 0 (start_or 0 waiting) waiting (omega (arith, inside)))
          ∙ walk_trail n m (start_or 0 waiting) waiting j around inside

      place_name : vertex_of m place ≡ vertex_at (loop_at (named_loops (vertices_of n m) ws) (p - 1)) j
      unfolding waiting
      place_name =
          ap (vertex_of m) place_is
          ∙ name n s m e ps ws st (vertex_at (loop_at ws (p - 1)) j) (near_trail n m (start_or 0 waiting) waiting j around inside)
          ∙ sym (ap (λ (w : Ring). vertex_at w j) (named_loop_at (vertices_of n m) ws (p - 1))
          ∙ named_at (vertices_of n m) (loop_at ws (p - 1)) j inside)

    propose_union : Proposes n s m (Union p j) (places_after (Union p j) (top_free n s.loops m) e ps ws) (union_plan n s.loops m p j)
        (effect_at (Union p j) s.used n m e ps ws)
    unfolding union_plan at_edge lower place tests
    propose_union =
        let q : Plan = plan_at s.loops m (vertex_of m place) 1 1 0 1 place in
        rw (three_tests (leb 1 p) (leb p (s.loops.live - 1)) (ltb j (at m (5 * n + 2 * lower + 1))) (Ok (Builds q)))
        (allowed_proposes n s m (Union p j) (places_after (Union p j) (top_free n s.loops m) e ps ws) tests
        (leb 1 p && leb p (s.loops.live - 1) && ltb j (at m (5 * n + 2 * lower + 1))) (Ok (Builds q)) _ same_tests
        (λ h.
        let goes : Goes (effect_at (Union p j) s.used n m e ps ws) = allowed_goes tests _ h tt in
        let b = allowed_law s.used (named_loops (vertices_of n m) ((opened e ∷ ps) ∷ ws)) tests _ h
        (law (Union p j) n s.loops m s.used 0 e ps ws st goes) in
        record {
          plan = q;
          is = refl;
          same = record {
            triangle = corners n s m e ps ws st _ _ (place_name h);
            pq = refl;
            qr = refl;
            rp = refl;
            vertices = refl;
            starts = refl;
            unions = refl;
          };
          moves = λ a k.
              allowed_moved n s.loops m (union_held n s.loops m p place) (places_after (Union p j) (top_free n s.loops m) e ps ws)
              tests _ h tt
              (λ x. subst (λ (y : ℕ). Moved n s.loops m (union_held n s.loops m p y)
              (places_after (Union p j) (top_free n s.loops m) e ps ws) (effect_at (Union p j) s.used n m e ps ws))
              (sym (place_is h))
              (moved_union n s.loops m s.used e ps ws st (some_free n s m e ps ws st s.used _ _ 0 0 1 b a) p j goes));
        }))

  propose_live : (o : Operation)
      → Proposes n s m o (places_at o (get_or (taken_by n s.loops m o) 0 0) e ps ws) (proposed_by false n s.loops m s.used o)
      (effect_at o s.used n m e ps ws)
  unfolding at_edge places_at places_after
  propose_live New = propose_new n s m e ps ws st
  propose_live Forward = propose_forward n s m e ps ws st
  propose_live Backward = propose_backward n s m e ps ws st
  propose_live Border = propose_border n s m e ps ws st
  propose_live (Split i) = propose_split i
  propose_live Close = propose_close
  propose_live (Union p j) = propose_union p j
  propose_live Start = refl

propose_rest : (n : ℕ) (s : Front) (m : List ℕ) (o : Operation) → StandsAt n s.loops m []
    → Proposes n s m o (rings_after o (taken_by n s.loops m o) []) (proposed_by true n s.loops m s.used o) (at_rest o s.used)
unfolding at_rest start_plan places rings_after
propose_rest n s m New st = refl
propose_rest n s m Forward st = refl
propose_rest n s m Backward st = refl
propose_rest n s m Border st = refl
propose_rest n s m (Split i) st = refl
propose_rest n s m Close st = refl
propose_rest n s m (Union p j) st = refl
propose_rest n s m Start st = record {
  plan = record {
    triangle = tri s.used (s.used + 1) (s.used + 2);
    pq = 1;
    qr = 1;
    rp = 1;
    vertices = 3;
    starts = 1;
    unions =
        0;
    place = 0;
  };
  is = refl;
  same = record {
    triangle =
        let a : s.used + 1 ≡ suc s.used = omega arith in
        let b : s.used + 2 ≡ suc (suc s.used) = omega arith in
        ap₂ (tri s.used) a b;
    pq = refl;
    qr = refl;
    rp = refl;
    vertices = refl;
    starts = refl;
    unions = refl;
  };
  moves = λ a k. moved_start n s.loops m st (omega (arith, a, room n s.loops m [] st)) s.used (omega (arith, k));
}

-- for every operation, whatever the rings of places that stand
pub proposes : (n : ℕ) (s : Front) (m : List ℕ) (o : Operation) (rs : List Ring) → StandsAt n s.loops m rs
    → Proposes n s m o (rings_after o (taken_by n s.loops m o) rs) (proposed n s m o) (effect o s.used (named_loops (vertices_of n m) rs))
unfolding proposed effect named_loops named_ring rings_after
proposes n s m o [] st = let z : eqb s.loops.live 0 ≡ true = ap (λ (k : ℕ). eqb k 0) st.heads in rw z (propose_rest n s m o st)
proposes n s m o ([] ∷ ws) st = absurd (false≢true st.sound.0)
proposes n s m o ((marked e ∷ ps) ∷ ws) st = absurd (false≢true st.sound.0)
proposes n s m o ((opened e ∷ ps) ∷ ws) st =
    let z : eqb s.loops.live 0 ≡ false = ne_eqb s.loops.live 0 (λ y. omega (arith, y, st.heads.live)) in
    rw z (propose_live n s m e ps ws st o)
