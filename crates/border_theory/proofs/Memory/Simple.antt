-- New, forward and backward: the loops after them stand.
-- Assumes nothing.
use Prim.Native.Nat.{ℕ, suc, ◌+◌, ◌-◌, ◌*◌, ◌≤◌, ◌<◌}
use native.Mathlib.Omega.{arith}
use mathlib.Core.Bool.{true}
use mathlib.Core.List.{List, [], ◌∷◌}
use mathlib.Core.Path.{◌≡◌, refl, sym, ap, ◌∙◌, subst}
use lib.ListN.{length, set, drop, length-set, length-append, length-drop}
use lib.Seq.{get_or-set_other}
use Rattle.rules.specs.declared.Operation.{Operation}
use Rattle.rules.specs.declared.Operation.TheVariants.{New, Forward, Backward}
use Rattle.rules.specs.Count.{same}
use Rattle.rules.specs.Ring.{Node, opened, Ring, start_or, vertex_at, last_open, last_vertex, front, places}
use Rattle.book.specs.Sums.{path_sum, ring_sum, loops_sum, placed}
use Rattle.book.proofs.Sums.{sum_append, front_last}
use Rattle.border_theory.specs.Links.Held.{Arc, arc}
use Rattle.border_theory.proofs.Links.Relink.{stored}
use Rattle.border_theory.proofs.Links.Stores.{places_after, stores, vertices_after, Takes, Whole}
use Rattle.cutborder.specs.declared.Loops.{Loops}
use Rattle.border_theory.specs.Memory.Layout.{at, before_of, after_of, vertices_of, edges_stored, freed, walked}
use Rattle.border_theory.specs.Memory.Stands.{StandsAt}
use Rattle.border_theory.specs.Memory.Moves.{Held, held, top_free, new_held, forward_held, backward_held}
use Rattle.border_theory.proofs.Memory.Columns.{Near, EdgesStored, edges_stored_lem, named_vertices, named_links, named_above}
use Rattle.border_theory.proofs.Memory.Columns.{same_vertices, same_links}
use Rattle.border_theory.proofs.Memory.Standing.{Trail, trails, walk_trail, near_trail, last_trail, start_trail, top_free_lem}
use Rattle.border_theory.proofs.Memory.Room.{room}
use Rattle.border_theory.proofs.Memory.Relinked.{Goes, Moved, effect_at, Relinked, fit, relinked, stacked_same, stacked_top}
use Rattle.border_theory.proofs.Memory.Relinked.{stacked_freed, waits_same}

first_out : (g : ℕ → ℕ) (b : ℕ) (ps : List Node) → 1 ≤ length ps
    → path_sum (λ p r o. g p) (drop 1 ps) b + g (start_or b ps) ≡ path_sum (λ p r o. g p) ps b
unfolding path_sum
first_out g b [] h = absurd (omega arith)
first_out g b (p ∷ ps) h = omega arith

front_length : (ps : List Node) → last_open ps ≡ true → suc (length (front ps)) ≡ length ps
front_length ps o = omega (arith, length-append (front ps) (opened (last_vertex ps) ∷ []), ap length (front_last ps o))

module _ (n : ℕ) (s : Loops) (m : List ℕ) (u e : ℕ) (ps : List Node) (ws : List Ring)
    (st : StandsAt n s m ((opened e ∷ ps) ∷ ws)) where
  old : List Ring
  old = (opened e ∷ ps) ∷ ws

  pub ring : Trail n m (opened e ∷ ps) e
  ring = (trails n s m ((opened e ∷ ps) ∷ ws) st).0

  long : 4 * n ≤ length m
  long = omega (arith, st.long)

  placed_new : (q x : ℕ) → placed x (places_after New q e ps ws) ≡ placed x ((opened e ∷ ps) ∷ ws) + same x q
  unfolding places_after loops_sum ring_sum path_sum
  placed_new q x = omega (arith, sum_append (λ p r o. same x p) ps (opened e ∷ []) q)

  placed_forward : (q x : ℕ) → 1 ≤ length ps
      → placed x (places_after Forward q e ps ws) + same x (start_or e ps) ≡ placed x ((opened e ∷ ps) ∷ ws)
  unfolding places_after loops_sum ring_sum path_sum
  placed_forward q x h = omega (arith, first_out (same x) e ps h)

  placed_backward : (q x : ℕ) → last_open ps ≡ true
      → placed x (places_after Backward q e ps ws) + same x e ≡ placed x ((opened e ∷ ps) ∷ ws)
  unfolding places_after loops_sum ring_sum path_sum
  placed_backward q x k =
      let l : ℕ = last_vertex ps in
      omega (
        arith,
        sum_append (λ p r o. same x p) (front ps) (opened l ∷ []) e,
        ap (λ (y : List Node). path_sum (λ p r o. same x p) y e) (front_last ps k),
      )

  -- the place after e
  after_near : start_or e ps < n
  after_near = start_trail n m e ring.0.near ps ring.1

  forward_stores : 1 < length ps
      → forward_held n s m
      ≡ held s.live s.current (s.size - 1) (s.free + 1)
      (freed n (edges_stored (stores Forward 0 e ps ws) m) s.free (start_or e ps))
  unfolding forward_held stores
  forward_stores h =
      let a : s.current ≡ e = st.heads.current in
      let b : after_of m e ≡ start_or e ps = ring.0.fore in
      let c : after_of m (start_or e ps) ≡ vertex_at ps 1 = unfold walked in walk_trail n m e ps 1 ring.1 h in
      rw (a, b, c)

  backward_stores : 1 ≤ length ps
      → backward_held n s m
      ≡ held s.live (last_vertex ps) (s.size - 1) (s.free + 1) (freed n (edges_stored (stores Backward 0 e ps ws) m) s.free e)
  unfolding backward_held stores
  backward_stores h =
      let a : s.current ≡ e = st.heads.current in
      let b : after_of m e ≡ start_or e ps = ring.0.fore in
      let c : before_of m e ≡ last_vertex ps = (last_trail n m e ps ring.1 h).back in
      rw (a, b, c)

  -- a place between e and f
  module _ (goes : Goes (effect_at New u n m e ps ws)) (some : 1 ≤ s.free) where
    q : ℕ
    q = top_free n s m

    free : (placed q ((opened e ∷ ps) ∷ ws) ≡ 0) × (q < n)
    unfolding q
    free = top_free_lem n s m ((opened e ∷ ps) ∷ ws) st some

    arcs : List Arc
    arcs = arc e q true ∷ (arc q (start_or e ps) true ∷ [])

    after : List ℕ
    after = edges_stored arcs (set m (4 * q) u)

    made : EdgesStored n (set m (4 * q) u) arcs
    unfolding arcs
    made = edges_stored_lem n (set m (4 * q) u) arcs (simp length-set long) (ring.0.near, free.1, (free.1, after_near, tt))

    above : (i : ℕ) → 4 * n ≤ i → at after i ≡ at m i
    unfolding after
    above i h = made.above i h ∙ named_above n m q u long free.1 i h

    same_long : length after ≡ length m
    unfolding after
    same_long = made.lengths ∙ length-set m (4 * q) u

    linked : Relinked n after (places_after New q e ps ws) (effect_at New u n m e ps ws)
    unfolding after arcs stores vertices_after
    linked =
        relinked New n s m u q e ps ws st goes tt (λ t. free) after (made.links ∙ ap (stored arcs) (named_links n m q u long free.1))
        (made.vertices ∙ named_vertices n m q u long free.1)

    stands : StandsAt n (record { live = s.live; current = q; size = s.size + 1; free = s.free - 1 }) after (places_after New q e ps ws)
    unfolding q after places_after
    stands = record {
      long = omega (arith, st.long, made.lengths, length-set m (4 * q) u);
      holds = linked.holds;
      each = λ x.
          omega (
            arith,
            st.each x,
            placed_new q x,
            stacked_top n x m s.free some,
            stacked_same n x m after (s.free - 1) (λ i l. above (4 * n + i) (omega arith)),
          );
      heads = record {
        live = st.heads.live;
        current = refl;
        size = simp length-append (omega (arith, st.heads.size));
        waiting = waits_same n m after (λ i l. above i (omega arith)) ws st.heads.waiting;
      };
      sound = linked.current;
    }

    new_held_lem : new_held n s m u ≡ held s.live q (s.size + 1) (s.free - 1) after
    unfolding new_held after arcs q
    new_held_lem =
        let a : s.current ≡ e = st.heads.current in
        let b : after_of m e ≡ start_or e ps = ring.0.fore in
        rw (a, b)

    pub moved_new : Moved n s m (new_held n s m u) (places_after New (top_free n s m) e ps ws) (effect_at New u n m e ps ws)
    unfolding q
    moved_new =
        subst (λ (h : Held). Moved n s m h (places_after New (top_free n s m) e ps ws) (effect_at New u n m e ps ws)) (sym new_held_lem)
        (record {
          lengths = same_long;
          rest = λ i h. above i (omega arith);
          stack = λ j h k. above (4 * n + j) (omega arith);
          stands = stands;
          loops = linked.loops;
        })

  -- the loops have a place, so there is room on the stack
  pub used_some : s.free < n
  unfolding places
  used_some = omega (arith, room n s m ((opened e ∷ ps) ∷ ws) st)

  -- an operation that frees the place x and takes none
  module _ (o : Operation) (takes : Takes o → ⊥) (whole : Whole o) (goes : Goes (effect_at o u n m e ps ws)) (l : Ring) (x : ℕ)
      (near : Near n (stores o 0 e ps ws)) (vertices : vertices_after o u 0 (vertices_of n m) ps ws ≡ vertices_of n m)
      (rings : places_after o 0 e ps ws ≡ l ∷ ws)
      (fewer : (y : ℕ) → placed y (places_after o 0 e ps ws) + same y x ≡ placed y ((opened e ∷ ps) ∷ ws)) where
    links_done : List ℕ
    links_done = edges_stored (stores o 0 e ps ws) m

    links_made : EdgesStored n m (stores o 0 e ps ws)
    links_made = edges_stored_lem n m (stores o 0 e ps ws) long near

    left : List ℕ
    left = freed n links_done s.free x

    records : (i : ℕ) → i < 4 * n → at left i ≡ at links_done i
    unfolding left
    records i h = get_or-set_other links_done (4 * n + s.free) i x 0 (λ z. omega (arith, z))

    waiting_stays : (i : ℕ) → 5 * n ≤ i → at left i ≡ at m i
    unfolding left links_done
    waiting_stays i h = get_or-set_other links_done (4 * n + s.free) i x 0 (λ z. omega (arith, z, used_some))
        ∙ links_made.above i (omega arith)

    again : Relinked n left (places_after o 0 e ps ws) (effect_at o u n m e ps ws)
    unfolding links_done
    again =
        relinked o n s m u 0 e ps ws st goes whole (λ t. absurd (takes t)) left (same_links n links_done left records ∙ links_made.links)
        (same_vertices n links_done left records ∙ links_made.vertices ∙ sym vertices)

    pub freeing : (c k : ℕ) → c ≡ start_or 0 l → k ≡ length l
        → Moved n s m (held s.live c k (s.free + 1) (freed n (edges_stored (stores o 0 e ps ws) m) s.free x))
        (places_after o 0 e ps ws)
        (effect_at o u n m e ps ws)
    unfolding left links_done
    freeing c k ec ek = record {
      lengths = length-set links_done (4 * n + s.free) x ∙ links_made.lengths;
      rest = λ i h. waiting_stays i (omega arith);
      stack = λ j h l.
          get_or-set_other links_done (4 * n + s.free) (4 * n + j) x 0 (λ z. omega (arith, z, h))
          ∙ links_made.above (4 * n + j) (omega arith);
      stands = record {
        long = omega (arith, st.long, links_made.lengths, length-set links_done (4 * n + s.free) x);
        holds = again.holds;
        each = λ y.
            omega (
              arith,
              st.each y,
              fewer y,
              stacked_freed n y links_done s.free x (omega (arith, st.long, links_made.lengths, used_some)),
              stacked_same n y m links_done s.free (λ i h. links_made.above (4 * n + i) (omega arith)),
            );
        heads = rw rings
            (record {
              live = st.heads.live;
              current = ec;
              size = ek;
              waiting = waits_same n m left waiting_stays ws st.heads.waiting;
            });
        sound = again.current;
      };
      loops = again.loops;
    }

  pub moved_forward : Goes (effect_at Forward u n m e ps ws)
      → Moved n s m (forward_held n s m) (places_after Forward 0 e ps ws) (effect_at Forward u n m e ps ws)
  unfolding stores vertices_after places_after
  moved_forward goes =
      let k : 2 ≤ length ps = fit Forward n s m u 0 e ps ws st goes in
      subst (λ (h : Held). Moved n s m h (places_after Forward 0 e ps ws) (effect_at Forward u n m e ps ws))
      (sym (forward_stores (omega (arith, k))))
      (freeing Forward (λ t. t) tt goes (opened e ∷ drop 1 ps) (start_or e ps)
      (ring.0.near, near_trail n m e ps 1 ring.1 (omega (arith, k)), tt) refl refl
      (λ y. placed_forward 0 y (omega (arith, k))) s.current (s.size - 1) st.heads.current
      (omega (arith, k, st.heads.size, length-drop 1 ps)))

  pub moved_backward : Goes (effect_at Backward u n m e ps ws)
      → Moved n s m (backward_held n s m) (places_after Backward 0 e ps ws) (effect_at Backward u n m e ps ws)
  unfolding stores vertices_after places_after
  moved_backward goes =
      let o : last_open ps ≡ true = fit Backward n s m u 0 e ps ws st goes in
      let l : ℕ = last_vertex ps in
      let k : suc (length (front ps)) ≡ length ps = front_length ps o in
      subst (λ (h : Held). Moved n s m h (places_after Backward 0 e ps ws) (effect_at Backward u n m e ps ws))
      (sym (backward_stores (omega (arith, k))))
      (freeing Backward (λ t. t) tt goes (opened l ∷ front ps) e ((last_trail n m e ps ring.1 (omega (arith, k))).near, after_near, tt)
      refl refl
      (λ y. placed_backward 0 y o) l (s.size - 1) refl (omega (arith, st.heads.size, k)))
