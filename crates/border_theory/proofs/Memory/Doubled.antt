-- A place gets a second one, as in a split and in a union.
-- Assumes nothing.
use Prim.Native.Nat.{ℕ, zero, suc, ◌+◌, ◌*◌, ◌≤◌, ◌<◌}
use native.Mathlib.Omega.{arith}
use mathlib.Core.Bool.{Bool, true, false}
use mathlib.Core.List.{List, [], ◌∷◌, ◌++◌}
use mathlib.Core.Path.{◌≡◌, refl, sym, ap, ◌∙◌, subst}
use lib.ListN.{length, get_or, set, take, drop, length-set, length-append, length-drop, take-append-drop}
use lib.Seq.{length-take-le}
use Rattle.rules.specs.Count.{num}
use Rattle.rules.specs.Ring.{Node, opened, Ring, vertex, is_open, start_or, vertex_at, last_open, last_vertex}
use Rattle.rules.specs.Table.{Effect, allowed}
use Rattle.book.proofs.Sums.{start_append, start_drop}
use Rattle.book.specs.Sums.{placed}
use Rattle.border_theory.specs.Links.Held.{Arc, arc}
use Rattle.border_theory.proofs.Links.Relink.{stored}
use Rattle.cutborder.specs.declared.Loops.{Loops}
use Rattle.border_theory.specs.Memory.Layout.{at, vertex_of, before_of, after_of, open_of, vertices_of, links_of, edges_stored}
use Rattle.border_theory.specs.Memory.Stands.{StandsAt}
use Rattle.border_theory.specs.Memory.Moves.{top_free, doubled}
use Rattle.border_theory.proofs.Memory.Columns.{EdgesStored, column_at, edges_stored_lem, named_vertices, named_links, named_above}
use Rattle.border_theory.proofs.Memory.Standing.{Hop, Trail, trails, last_trail, start_trail, top_free_lem}
use Rattle.border_theory.proofs.Memory.Relinked.{Goes}
use Rattle.border_theory.proofs.Memory.Ended.{trail_append}

pub goes_test : (t : Bool) (E : Effect) → Goes (allowed t E) → t ≡ true
unfolding allowed
goes_test true E g = refl
goes_test false E g = absurd g

pub trail_join : (n : ℕ) (m : List ℕ) (b : ℕ) (ps qs : List Node) → Trail n m ps (start_or b qs) → Trail n m qs b → Trail n m (ps ++ qs) b
trail_join n m b [] qs t v = v
trail_join n m b (p ∷ ps) qs t v =
    (subst (λ (y : ℕ). Hop n m (vertex p) y (is_open p)) (sym (start_append b ps qs)) t.0, trail_join n m b ps qs t.1 v)

-- the place before the one that is i places after the first of a ring's rest
pub split_hop : (n : ℕ) (m : List ℕ) (b : ℕ) (ps : List Node) (i : ℕ) → 1 ≤ i → i < length ps → Trail n m ps b
    → Hop n m (last_vertex (take i ps)) (vertex_at ps i) (last_open (take i ps))
split_hop n m b ps i k h t =
    let w : take i ps ++ drop i ps ≡ ps = take-append-drop i ps in
    let r = trail_append n m b (take i ps) (drop i ps) (subst (λ (l : List Node). Trail n m l b) (sym w) t) in
    subst (λ (y : ℕ). Hop n m (last_vertex (take i ps)) y (last_open (take i ps))) (start_drop b ps i h)
    (last_trail n m (start_or b (drop i ps)) (take i ps) r.0 (omega (arith, k, h, length-take-le i ps (omega (arith, h)))))

-- the place before the one at j of a ring
turned_start : (c : ℕ) (w : Ring) (j : ℕ) → j < length w → vertex_at w j ≡ c → start_or c (take j w) ≡ start_or 0 w
unfolding vertex_at
turned_start c [] j h e = absurd (omega arith)
turned_start c (p ∷ w) zero h e = sym e
turned_start c (p ∷ w) (suc j) h e = refl

pub union_hop : (n : ℕ) (m : List ℕ) (w : Ring) (j : ℕ) → j < length w → Trail n m w (start_or 0 w)
    → Hop n m (last_vertex (drop j w ++ take j w)) (vertex_at w j) (last_open (drop j w ++ take j w))
union_hop n m w j h t =
    let c : ℕ = vertex_at w j in
    let r = trail_append n m (start_or 0 w) (take j w) (drop j w)
    (subst (λ (l : List Node). Trail n m l (start_or 0 w)) (sym (take-append-drop j w)) t) in
    let front : Trail n m (take j w) c = subst (Trail n m (take j w)) (start_drop (start_or 0 w) w j h) r.0 in
    let back : Trail n m (drop j w) (start_or c (take j w)) = subst (Trail n m (drop j w)) (sym (turned_start c w j h refl)) r.1 in
    last_trail n m c (drop j w ++ take j w) (trail_join n m c (drop j w) (take j w) back front)
    (simp (length-append, length-drop) (omega (arith, h)))

module _ (n : ℕ) (s : Loops) (m : List ℕ) (e : ℕ) (ps : List Node) (ws : List Ring)
    (st : StandsAt n s m ((opened e ∷ ps) ∷ ws)) (some : 1 ≤ s.free) where
  unfoldable pub q : ℕ
  q = top_free n s m

  pub free : (placed q ((opened e ∷ ps) ∷ ws) ≡ 0) × (q < n)
  unfolding q
  free = top_free_lem n s m ((opened e ∷ ps) ∷ ws) st some

  pub ring : Trail n m (opened e ∷ ps) e
  ring = (trails n s m ((opened e ∷ ps) ∷ ws) st).0

  long : 4 * n ≤ length m
  long = omega (arith, st.long)

  -- the place l before c, and c's second place
  module _ (l c : ℕ) (o : Bool) (hop : Hop n m l c o) (near : c < n) where
    unfoldable pub arcs : List Arc
    arcs = arc q (start_or e ps) true ∷ (arc l q o ∷ (arc e c true ∷ []))

    doubled_is : doubled n s m c ≡ edges_stored arcs (set m (4 * q) (vertex_of m c))
    unfolding doubled edges_stored arcs q
    doubled_is =
        let a : s.current ≡ e = st.heads.current in
        let b : after_of m e ≡ start_or e ps = ring.0.fore in
        let d : before_of m c ≡ l = hop.back in
        let o : open_of m l ≡ num o = hop.mark in
        rw (a, b, d, o)

    made : EdgesStored n (set m (4 * q) (vertex_of m c)) arcs
    unfolding arcs
    made =
        edges_stored_lem n (set m (4 * q) (vertex_of m c)) arcs (simp length-set long)
        (free.1, start_trail n m e ring.0.near ps ring.1, (hop.near, free.1, (ring.0.near, near, tt)))

    pub doubled_length : length (doubled n s m c) ≡ length m
    doubled_length = ap length doubled_is ∙ made.lengths ∙ length-set m (4 * q) (vertex_of m c)

    pub doubled_above : (i : ℕ) → 4 * n ≤ i → at (doubled n s m c) i ≡ at m i
    doubled_above i h = ap (λ (x : List ℕ). at x i) doubled_is ∙ made.above i h ∙ named_above n m q (vertex_of m c) long free.1 i h

    pub doubled_links : links_of n (doubled n s m c) ≡ stored arcs (links_of n m)
    doubled_links = ap (links_of n) doubled_is ∙ made.links ∙ ap (stored arcs) (named_links n m q (vertex_of m c) long free.1)

    pub doubled_vertices : vertices_of n (doubled n s m c) ≡ set (vertices_of n m) q (get_or (vertices_of n m) c 0)
    doubled_vertices =
        let z : 4 * c + 0 ≡ 4 * c = omega arith in
        ap (vertices_of n) doubled_is ∙ made.vertices ∙ named_vertices n m q (vertex_of m c) long free.1
        ∙ ap (set (vertices_of n m) q) (sym (column_at m 0 n c near ∙ ap (at m) z))
