-- What is found by walking along the loops in the memory is where the definition finds the open edge.
-- Assumes nothing.
use Prim.Native.Nat.{ℕ, zero, suc, ◌+◌, ◌-◌, ◌*◌, ◌≤◌, ◌<◌}
use native.Mathlib.Omega.{arith}
use mathlib.Core.Bool.{Bool, true, false, ◌&&◌}
use mathlib.Core.List.{List, [], ◌∷◌}
use mathlib.Core.Path.{◌≡◌, refl, sym, ap, ap₂, ◌∙◌, subst}
use lib.ListN.{length, get_or}
use lib.Dec.{eqb}
use borrow.Author.Tests.{eqb-true, lt-ltb, le-ltb}
use Rattle.rules.specs.Limits.{max_places}
use Rattle.rules.specs.Count.{num}
use Rattle.rules.specs.Ring.{Node, Ring, vertex, is_open, first_open, start_or, vertex_at, last_open, loop_at}
use Rattle.rules.specs.Choice.{Position, absent, at, Spot, nowhere, spot, edge_in, spot_of, size_of, after_current}
use Rattle.rules.specs.Right.{EdgeIn, OpenAt}
use Rattle.border_theory.specs.Links.Held.{named, named_ring, named_loops}
use Rattle.border_theory.proofs.Links.Named.{named_vertex, named_open, named_length, named_start, named_first_open, named_last_open}
use Rattle.choice_theory.specs.Spots.{Unique}
use Rattle.choice_theory.proofs.Turning.Spotting.{spot_some}
use Rattle.cutborder.specs.declared.Loops.{Loops}
use Rattle.border_theory.specs.Memory.Layout as layout
use Rattle.border_theory.specs.Memory.Layout.{vertex_of, before_of, after_of, vertices_of, walked}
use Rattle.border_theory.specs.Memory.Decision.{is_open_at}
use Rattle.border_theory.specs.Memory.Stands.{Waits, StandsAt}
use Rattle.border_theory.proofs.Memory.Columns.{column_at}
use Rattle.border_theory.proofs.Memory.Standing.{Hop, Trail, Trails, trails, trail_at, walk_trail}
use Rattle.border_theory.proofs.Memory.Waiting.{waits_at}
use Rattle.pack_theory.specs.Choosing.Seat.{Seat}
use Rattle.pack_theory.specs.Choosing.Seat.{Nowhere, At}
use Rattle.pack_theory.specs.Choosing.Seeking.{starts_at, gone_by, seat_among, waiting_seat, walked_seat, seat_in, seat_of, Inside}
use Rattle.pack_theory.specs.Choosing.Seeking.{Seekable}
use Rattle.counting.proofs.Bools.{and_true}

and_same : (a a' b b' c c' : Bool) → a ≡ a' → b ≡ b' → c ≡ c' → a && b && c ≡ (a' && b' && c')
and_same a a' b b' c c' p q r = ap₂ (λ (u v : Bool). u && v) (ap₂ (λ (u v : Bool). u && v) p q) r

flag_is : (o : Bool) → eqb (num o) 1 ≡ o
flag_is true = refl
flag_is false = refl

abbrev pos_or : ℕ → Position → ℕ
pos_or d absent = d
pos_or d (at j) = j

abbrev Below : ℕ → Position → Type 0
Below d absent = Unit {0}
Below d (at j) = j < d

below_by : (i d : ℕ) (p : Position) (b : Bool) → i < d → Below d p → Below d (elim b [ true ↦ at i | false ↦ p ])
below_by i d p true h k = h
below_by i d p false h k = k

below_more : (d d' : ℕ) (p : Position) → d ≡ d' → Below d p → Below d' p
below_more d d' p e h = subst (λ (x : ℕ). Below x p) e h

edge_below : (first i x y : ℕ) (ps : List Node) → Below (i + length ps) (edge_in first i x y ps)
unfolding edge_in
edge_below first i x y [] = tt
edge_below first i x y (p ∷ ps) =
    below_by i (i + suc (length ps)) (edge_in first (suc i) x y ps) (is_open p && eqb (vertex p) x && eqb (start_or first ps) y)
    (omega arith)
    (below_more (suc i + length ps) (i + suc (length ps)) (edge_in first (suc i) x y ps) (omega arith) (edge_below first (suc i) x y ps))

-- one ring, if the edge is in it, else the others
seat_among_lem : (w k : ℕ) (p : Position) (s : Seat) → Below k p → seat_among w k (pos_or k p) s ≡ elim p [ absent ↦ s | at j ↦ At w k j ]
unfolding seat_among
seat_among_lem w k absent s h = rw (seat_among, le-ltb k k (omega arith)) refl
seat_among_lem w k (at j) s h = rw (seat_among, lt-ltb j k h) refl

module _ (n : ℕ) (m : List ℕ) where
  abbrev vs : List ℕ
  vs = vertices_of n m

  vertex_at_lem : (x : ℕ) → x < n → vertex_of m x ≡ get_or (vertices_of n m) x 0
  vertex_at_lem x h = let e : 4 * x ≡ 4 * x + 0 = omega arith in ap (layout.at m) e ∙ sym (column_at m 0 n x h)

  pub start_below : (b : ℕ) → b < n → (ps : List Node) → Trail n m ps b → start_or b ps < n
  start_below b k [] t = k
  start_below b k (p ∷ ps) t = t.0.near

  -- the test at one place
  starts_is : (p : Node) (z x y : ℕ) → Hop n m (vertex p) z (is_open p) → z < n
      → starts_at m (vertex p) x y ≡ (is_open (named vs p) && eqb (vertex (named vs p)) x && eqb (get_or vs z 0) y)
  unfolding starts_at
  starts_is p z x y h k =
      and_same _ _ _ _ _ _
      (ap (λ (o : ℕ). eqb o 1) h.mark ∙ (flag_is (is_open p) ∙ sym (named_open vs p)))
      (ap (λ (v : ℕ). eqb v x) (vertex_at_lem (vertex p) h.near ∙ sym (named_vertex vs p)))
      (ap (λ (v : ℕ). eqb v y) (ap (vertex_of m) h.fore ∙ vertex_at_lem z k))

  starts_first : (b : ℕ) → b < n → (p : Node) (ps : List Node) (x y : ℕ) → Trail n m (p ∷ ps) b
      → starts_at m (vertex p) x y
      ≡ (is_open (named vs p) && eqb (vertex (named vs p)) x && eqb (start_or (get_or vs b 0) (named_ring vs ps)) y)
  starts_first b k p ps x y t =
      starts_is p (start_or b ps) x y t.0 (start_below b k ps t.1)
      ∙ ap (λ (v : ℕ). is_open (named vs p) && eqb (vertex (named vs p)) x && eqb v y) (sym (named_start vs b ps))

  gone_by_lem : (i d g : ℕ) (p : Position) (b : Bool) → g ≡ pos_or d p
      → elim b [ true ↦ i | false ↦ g ] ≡ pos_or d (elim b [ true ↦ at i | false ↦ p ])
  gone_by_lem i d g p true e = refl
  gone_by_lem i d g p false e = e

  gone_trail : (b : ℕ) → b < n → (ps : List Node) (i x y : ℕ) → Trail n m ps b
      → gone_by m (length ps) i (start_or b ps) x y ≡ pos_or (i + length ps) (edge_in (get_or vs b 0) i x y (named_ring vs ps))
  unfolding gone_by edge_in named_ring
  gone_trail b k [] i x y t = omega arith
  gone_trail b k (p ∷ ps) i x y t =
      let g = gone_by m (length ps) (suc i) (after_of m (vertex p)) x y in
      let r = edge_in (get_or vs b 0) (suc i) x y (named_ring vs ps) in
      let e : suc i + length ps ≡ i + suc (length ps) = omega arith in
      ap (λ (u : Bool). elim u [ true ↦ i | false ↦ g ]) (starts_first b k p ps x y t)
      ∙ gone_by_lem i (i + suc (length ps)) g r
      (is_open (named vs p) && eqb (vertex (named vs p)) x && eqb (start_or (get_or vs b 0) (named_ring vs ps)) y)
      (ap (λ (q : ℕ). gone_by m (length ps) (suc i) q x y) t.0.fore
      ∙ (gone_trail b k ps (suc i) x y t.1 ∙ ap (λ (d : ℕ). pos_or d r) e))

  gone_ring : (r : Ring) (x y : ℕ) → Trail n m r (start_or 0 r)
      → gone_by m (length r) 0 (start_or 0 r) x y ≡ pos_or (length r) (edge_in (start_or 0 (named_ring vs r)) 0 x y (named_ring vs r))
  unfolding gone_by edge_in named_ring
  gone_ring [] x y t = refl
  gone_ring (p ∷ ps) x y t =
      let zero-add : 0 + suc (length ps) ≡ suc (length ps) = omega arith in
      subst (λ (v : ℕ). gone_by m (suc (length ps)) 0 (vertex p) x y ≡ pos_or (suc (length ps)) (edge_in v 0 x y (named_ring vs (p ∷ ps))))
      (sym (named_vertex vs p))
      (gone_trail (vertex p) t.0.near (p ∷ ps) 0 x y t
      ∙ ap (λ (d : ℕ). pos_or d (edge_in (get_or vs (vertex p) 0) 0 x y (named_ring vs (p ∷ ps)))) zero-add)

  -- place i of a ring, if the open edge starts there
  pub opens_at : (b : ℕ) → b < n → (ps : List Node) (i x y : ℕ) → Trail n m ps b → i < length ps → starts_at m (vertex_at ps i) x y ≡ true
      → EdgeIn (get_or vs b 0) (named_ring vs ps) i x y
  unfolding named_ring vertex_at
  opens_at b k [] i x y t h e = absurd (omega arith)
  opens_at b k (p ∷ ps) zero x y t h e =
      let q = sym (starts_first b k p ps x y t) ∙ e in
      let r = and_true (is_open (named vs p) && eqb (vertex (named vs p)) x) (eqb (start_or (get_or vs b 0) (named_ring vs ps)) y) q in
      let s = and_true (is_open (named vs p)) (eqb (vertex (named vs p)) x) r.0 in
      (s.0, eqb-true _ _ s.1, eqb-true _ _ r.1)
  opens_at b k (p ∷ ps) (suc i) x y t h e = opens_at b k ps i x y t.1 (omega arith) e

  opens_ring : (r : Ring) (i x y : ℕ) → Trail n m r (start_or 0 r) → i < length r → starts_at m (vertex_at r i) x y ≡ true
      → EdgeIn (start_or 0 (named_ring vs r)) (named_ring vs r) i x y
  unfolding named_ring
  opens_ring [] i x y t h e = absurd (omega arith)
  opens_ring (p ∷ ps) i x y t h e =
      subst (λ (v : ℕ). EdgeIn v (named_ring vs (p ∷ ps)) i x y) (sym (named_vertex vs p))
      (opens_at (vertex p) t.0.near (p ∷ ps) i x y t h e)

-- the place that is found is that of the definition, whose rings from s on are ls
pub Match : ℕ → List Ring → Seat → Spot → Type 0
Match s ls Nowhere nowhere = Unit {0}
Match s ls Nowhere (spot l j) = ⊥
Match s ls (At w k i) nowhere = ⊥
Match s ls (At w k i) (spot l j) = (w ≡ l) × (i ≡ j) × ((d : ℕ) × (l ≡ s + d) × (k ≡ size_of ls d))

match_by : (s : ℕ) (r : Ring) (ws : List Ring) (p : Position) (t : Seat) (u : Spot) → Match (suc s) ws t u
    → Match s (r ∷ ws) (elim p [ absent ↦ t | at j ↦ At s (length r) j ]) (elim p [ absent ↦ u | at j ↦ spot s j ])
unfolding Match loop_at
match_by s r ws absent Nowhere nowhere h = tt
match_by s r ws absent Nowhere (spot l j) h = h
match_by s r ws absent (At w k i) nowhere h = h
match_by s r ws absent (At w k i) (spot l j) h = (h.0, h.1, (suc h.2.0, omega (arith, h.2.1), h.2.2))
match_by s r ws (at j) t u h = (refl, refl, (0, omega arith, refl))

match_ring : (n : ℕ) (m : List ℕ) (s k p x y : ℕ) (r : Ring) (ws : List Ring) (t : Seat) → k ≡ length r → p ≡ start_or 0 r
    → Trail n m r (start_or 0 r)
    → Match (suc s) ws t (spot_of (suc s) x y ws)
    → Match s (named_ring (vertices_of n m) r ∷ ws) (seat_among s k (gone_by m k 0 p x y) t)
    (spot_of s x y (named_ring (vertices_of n m) r ∷ ws))
unfolding spot_of
match_ring n m s k p x y r ws t ek ep h g =
    let vs = vertices_of n m in
    let q : Position = edge_in (start_or 0 (named_ring vs r)) 0 x y (named_ring vs r) in
    let z : length (named_ring vs r) ≡ k = named_length vs r ∙ sym ek in
    let e : gone_by m k 0 p x y ≡ pos_or k q =
    ap₂ (λ (j i : ℕ). gone_by m j 0 i x y) ek ep ∙ (gone_ring n m r x y h ∙ ap (λ (j : ℕ). pos_or j q) (sym ek)) in
    let b : Below k q = below_more _ _ q (omega (arith, z)) (edge_below (start_or 0 (named_ring vs r)) 0 x y (named_ring vs r)) in
    subst (λ (u : Seat). Match s (named_ring vs r ∷ ws) u (spot_of s x y (named_ring vs r ∷ ws)))
    (ap (λ (j : ℕ). elim q [ absent ↦ t | at i ↦ At s j i ]) z
    ∙ (sym (seat_among_lem s k q t b) ∙ ap (λ (j : ℕ). seat_among s k j t) (sym e)))
    (match_by s (named_ring vs r) ws q t (spot_of (suc s) x y ws) g)

-- all waiting loops
match_waiting : (m : List ℕ) (ws : List Ring) (s x y : ℕ) → Trails max_places m ws → Waits max_places m ws
    → Match s (named_loops (vertices_of max_places m) ws) (waiting_seat m (length ws) s x y)
    (spot_of s x y (named_loops (vertices_of max_places m) ws))
unfolding Match waiting_seat spot_of named_loops
match_waiting m [] s x y t h = tt
match_waiting m (r ∷ ws) s x y t h =
    match_ring max_places m s _ _ x y r (named_loops (vertices_of max_places m) ws) _ h.1 h.0 t.0
    (match_waiting m ws (suc s) x y t.1 h.2)

module _ (l : Loops) (m : List ℕ) (r : Ring) (ws : List Ring) (st : StandsAt max_places l m (r ∷ ws)) where
  abbrev names : List ℕ
  names = vertices_of max_places m

  -- all loops
  match_walked : (x y : ℕ) → Match 0 (named_loops names (r ∷ ws)) (walked_seat l m x y) (spot_of 0 x y (named_loops names (r ∷ ws)))
  unfolding walked_seat named_loops
  match_walked x y =
      let t = trails max_places l m (r ∷ ws) st in
      let e : length ws ≡ l.live - 1 = omega (arith, st.heads.live) in
      match_ring max_places m 0 l.size l.current x y r (named_loops names ws) (waiting_seat m (l.live - 1) 1 x y) st.heads.size
      st.heads.current
      t.0
      (subst (λ (j : ℕ). Match 1 (named_loops names ws) (waiting_seat m j 1 x y) (spot_of 1 x y (named_loops names ws))) e
      (match_waiting m ws 1 x y t.1 st.heads.waiting))

  -- a place of the current loop that is looked at before
  match_quick : (x y i p : ℕ) → Unique (named_loops names (r ∷ ws)) → i < length r → p ≡ vertex_at r i → starts_at m p x y ≡ true
      → Match 0 (named_loops names (r ∷ ws)) (At 0 l.size i) (spot_of 0 x y (named_loops names (r ∷ ws)))
  unfolding Match named_loops loop_at
  match_quick x y i p u h e q =
      let t = (trails max_places l m (r ∷ ws) st).0 in
      let o : OpenAt (named_loops names (r ∷ ws)) 0 i x y =
      opens_ring max_places m r i x y t h (subst (λ (j : ℕ). starts_at m j x y ≡ true) e q) in
      subst (Match 0 (named_loops names (r ∷ ws)) (At 0 l.size i)) (sym (spot_some x y 0 i (named_loops names (r ∷ ws)) u o))
      (refl, refl, (0, refl, st.heads.size ∙ sym (named_length names r)))

-- so it is the definition's answer
pub match_seat : (ls : List Ring) (s : Seat) (p : Spot) → Match 0 ls s p → s ≡ seat_of ls p
unfolding Match
match_seat ls Nowhere nowhere h = refl
match_seat ls Nowhere (spot l j) h = absurd h
match_seat ls (At w k i) nowhere h = absurd h
match_seat ls (At w k i) (spot l j) h =
    let e : h.2.0 ≡ l = omega (arith, h.2.1) in
    ap₂ (λ (a b : ℕ). At a b i) h.0 (h.2.2 ∙ ap (size_of ls) e) ∙ ap (At l (size_of ls l)) h.1

-- going back along a ring
module _ (n : ℕ) (m : List ℕ) (b : ℕ) where
  trail_before : (ps : List Node) (i : ℕ) → Trail n m ps b → suc i < length ps → before_of m (vertex_at ps (suc i)) ≡ vertex_at ps i
  unfolding vertex_at
  trail_before [] i t h = absurd (omega arith)
  trail_before (p ∷ []) i t h = absurd (omega arith)
  trail_before (p ∷ (q ∷ ps)) zero t h = t.0.back
  trail_before (p ∷ (q ∷ ps)) (suc i) t h = trail_before (q ∷ ps) i t.1 (omega arith)

  trail_last : (p : Node) (ps : List Node) → Trail n m (p ∷ ps) b → before_of m b ≡ vertex_at (p ∷ ps) (length ps)
  unfolding vertex_at
  trail_last p [] t = t.0.back
  trail_last p (q ∷ ps) t = trail_last q ps t.1

  -- whether the edge into b is open
  trail_mark : (p : Node) (ps : List Node) → Trail n m (p ∷ ps) b → is_open_at m (before_of m b) ≡ last_open (p ∷ ps)
  unfolding last_open
  trail_mark p [] t = ap (is_open_at m) t.0.back ∙ (ap (λ (o : ℕ). eqb o 1) t.0.mark ∙ flag_is (is_open p))
  trail_mark p (q ∷ ps) t = trail_mark q ps t.1

  -- the places of a ring and those after them
  trail_near : b < n → (ps : List Node) (i : ℕ) → Trail n m ps b → i < length ps → (vertex_at ps i < n) × (after_of m (vertex_at ps i) < n)
  unfolding vertex_at
  trail_near k [] i t h = absurd (omega arith)
  trail_near k (p ∷ ps) zero t h = (t.0.near, subst (λ (x : ℕ). x < n) (sym t.0.fore) (start_below n m b k ps t.1))
  trail_near k (p ∷ ps) (suc i) t h = trail_near k ps i t.1 (omega arith)

-- each place along a ring is in the memory, and so is the place after it
inside_ring : (l : Loops) (m : List ℕ) (r : Ring) → 5 * max_places + 2 * l.live ≤ length m → (j p : ℕ) → Trail max_places m r (start_or 0 r)
    → p ≡ start_or 0 r
    → j < length r → Inside m (walked m j p)
inside_ring l m [] k j p t e h = absurd (omega arith)
inside_ring l m (q ∷ ps) k j p t e h =
    let w : walked m j p ≡ vertex_at (q ∷ ps) j = ap (walked m j) e ∙ walk_trail max_places m (vertex q) (q ∷ ps) j t h in
    let z = trail_near max_places m (vertex q) t.0.near (q ∷ ps) j t h in
    subst (Inside m) (sym w) (omega (arith, z.0, k), omega (arith, z.1, k))

module _ (l : Loops) (m : List ℕ) (e f : Node) (ps : List Node) (ws : List Ring) (st : StandsAt max_places l m ((e ∷ (f ∷ ps)) ∷ ws)) where
  abbrev r : Ring
  r = e ∷ (f ∷ ps)

  ring : Trail max_places m r (vertex e)
  ring = (trails max_places l m (r ∷ ws) st).0

  size : l.size ≡ suc (suc (length ps))
  size = st.heads.size

  place_f : after_of m l.current ≡ vertex_at r 1
  unfolding vertex_at
  place_f = ap (after_of m) st.heads.current ∙ ring.0.fore

  place_last : before_of m l.current ≡ vertex_at r (l.size - 1)
  place_last =
      let z : suc (length ps) ≡ l.size - 1 = omega (arith, size) in
      ap (before_of m) st.heads.current ∙ (trail_last max_places m (vertex e) e (f ∷ ps) ring ∙ ap (vertex_at r) z)

  place_second : before_of m (before_of m l.current) ≡ vertex_at r (l.size - 2)
  place_second =
      let z : suc (l.size - 2) ≡ l.size - 1 = omega (arith, size) in
      ap (before_of m) (place_last ∙ ap (vertex_at r) (sym z))
      ∙ trail_before max_places m (vertex e) r (l.size - 2) ring (omega (arith, size))

  inside_at : (i p : ℕ) → p ≡ vertex_at r i → i < l.size → Inside m p
  inside_at i p q h =
      let z = trail_near max_places m (vertex e) ring.0.near r i ring (omega (arith, h, size)) in
      subst (Inside m) (sym q) (omega (arith, z.0, st.long), omega (arith, z.1, st.long))

  -- whether the edge after f is open, and the edge into e
  open_f : is_open_at m (after_of m l.current) ≡ is_open f
  unfolding vertex_at
  open_f = ap (is_open_at m) place_f ∙ (ap (λ (o : ℕ). eqb o 1) ring.1.0.mark ∙ flag_is (is_open f))

  open_e : is_open_at m (before_of m l.current) ≡ last_open (f ∷ ps)
  open_e = ap (λ (p : ℕ). is_open_at m (before_of m p)) st.heads.current ∙ trail_mark max_places m (vertex e) f ps ring.1

  seat_match : (x y : ℕ) → Unique (named_loops (vertices_of max_places m) (r ∷ ws))
      → Match 0 (named_loops (vertices_of max_places m) (r ∷ ws)) (seat_in l m x y)
      (spot_of 0 x y (named_loops (vertices_of max_places m) (r ∷ ws)))
  unfolding seat_in
  seat_match x y u =
      go (starts_at m (after_of m l.current) x y) refl (starts_at m (before_of m l.current) x y) refl
      (starts_at m (before_of m (before_of m l.current)) x y) refl
    where
      go : (b : Bool) → starts_at m (after_of m l.current) x y ≡ b → (c : Bool) → starts_at m (before_of m l.current) x y ≡ c → (d : Bool)
          → starts_at m (before_of m (before_of m l.current)) x y ≡ d
          → Match 0 (named_loops (vertices_of max_places m) (r ∷ ws))
          (elim b [
            | true ↦ At 0 l.size 1
            | false ↦ elim c [
              | true ↦ At 0 l.size (l.size - 1)
              | false ↦ elim d [ true ↦ At 0 l.size (l.size - 2) | false ↦ walked_seat l m x y ]
            ]
          ])
          (spot_of 0 x y (named_loops (vertices_of max_places m) (r ∷ ws)))
      go true b c q d s = match_quick l m r ws st x y 1 _ u (omega arith) place_f b
      go false b true q d s = match_quick l m r ws st x y (l.size - 1) _ u (omega (arith, size)) place_last q
      go false b false q true s = match_quick l m r ws st x y (l.size - 2) _ u (omega (arith, size)) place_second s
      go false b false q false s = match_walked l m r ws st x y

  -- and the places that are looked at are in the memory
  seekable_at : 1 ≤ l.live → Seekable l m
  seekable_at h = record {
    live = h;
    two = omega (arith, size);
    long = st.long;
    after = inside_at 1 _ place_f (omega (arith, size));
    before = inside_at (l.size - 1) _ place_last (omega (arith, size));
    second = inside_at (l.size - 2) _ place_second (omega (arith, size));
    ahead = λ j k.
        inside_at j _ (ap (walked m j) st.heads.current ∙ walk_trail max_places m (vertex e) r j ring (omega (arith, k, size))) k;
    waiting = λ w k j i.
        let d : ℕ = length ws - 1 - w in
        let a = waits_at max_places m ws d w (omega (arith, k, st.heads.live)) st.heads.waiting in
        let t = trail_at max_places m ws d (trails max_places l m (r ∷ ws) st).1 in
        inside_ring l m (loop_at ws d) st.long j (layout.at m (5 * max_places + 2 * w)) t a.0 (omega (arith, i, a.1));
  }

-- the search in the memory answers as the definition does
pub seat_is : (l : Loops) (m : List ℕ) (rs : List Ring) → StandsAt max_places l m rs → 1 ≤ l.live → 2 ≤ l.size
    → Unique (named_loops (vertices_of max_places m) rs) → (x y : ℕ)
    → seat_in l m x y ≡ seat_of (named_loops (vertices_of max_places m) rs) (spot_of 0 x y (named_loops (vertices_of max_places m) rs))
seat_is l m [] st h k u x y = absurd (omega (arith, h, st.heads))
seat_is l m ([] ∷ ws) st h k u x y = absurd (omega (arith, k, st.heads.size))
seat_is l m ((e ∷ []) ∷ ws) st h k u x y = absurd (omega (arith, k, st.heads.size))
seat_is l m ((e ∷ (f ∷ ps)) ∷ ws) st h k u x y = match_seat _ _ _ (seat_match l m e f ps ws st x y u)

pub seekable : (l : Loops) (m : List ℕ) (rs : List Ring) → StandsAt max_places l m rs → 1 ≤ l.live → 2 ≤ l.size → Seekable l m
seekable l m [] st h k = absurd (omega (arith, h, st.heads))
seekable l m ([] ∷ ws) st h k = absurd (omega (arith, k, st.heads.size))
seekable l m ((e ∷ []) ∷ ws) st h k = absurd (omega (arith, k, st.heads.size))
seekable l m ((e ∷ (f ∷ ps)) ∷ ws) st h k = seekable_at l m e f ps ws st h

-- the current loop: its places, the edge after f and the edge into e
pub record Seen (l : Loops) (m : List ℕ) (ps : List Node) : Type 0 where
  pub size : l.size ≡ suc (length ps)
  pub next : is_open_at m (after_of m l.current) ≡ first_open ps
  pub last : is_open_at m (before_of m l.current) ≡ last_open ps

pub seen_is : (l : Loops) (m : List ℕ) (rs : List Ring) → StandsAt max_places l m rs → 1 ≤ l.live → 2 ≤ l.size
    → Seen l m (after_current (named_loops (vertices_of max_places m) rs))
unfolding loop_at named_loops named_ring
seen_is l m [] st h k = absurd (omega (arith, h, st.heads))
seen_is l m ([] ∷ ws) st h k = absurd (omega (arith, k, st.heads.size))
seen_is l m ((e ∷ []) ∷ ws) st h k = absurd (omega (arith, k, st.heads.size))
seen_is l m ((e ∷ (f ∷ ps)) ∷ ws) st h k =
    let vs = vertices_of max_places m in
    record {
      size = st.heads.size ∙ ap suc (sym (named_length vs (f ∷ ps)));
      next = open_f l m e f ps ws st ∙ sym (named_first_open vs (f ∷ ps));
      last = open_e l m e f ps ws st ∙ sym (named_last_open vs (f ∷ ps));
    }

-- a place that the definition finds is one of its ring
Bounds : ℕ → List Ring → Spot → Type 0
Bounds s ls nowhere = Unit {0}
Bounds s ls (spot l i) = (d : ℕ) × (l ≡ s + d) × (i < size_of ls d)

bounds_by : (s : ℕ) (r : Ring) (ws : List Ring) (p : Position) (u : Spot) → Below (length r) p → Bounds (suc s) ws u
    → Bounds s (r ∷ ws) (elim p [ absent ↦ u | at j ↦ spot s j ])
unfolding Bounds loop_at
bounds_by s r ws absent nowhere b h = tt
bounds_by s r ws absent (spot l i) b h = (suc h.0, omega (arith, h.1), h.2)
bounds_by s r ws (at j) u b h = (0, omega arith, b)

bounds : (s x y : ℕ) (ls : List Ring) → Bounds s ls (spot_of s x y ls)
unfolding Bounds spot_of
bounds s x y [] = tt
bounds s x y (r ∷ ls) =
    bounds_by s r ls (edge_in (start_or 0 r) 0 x y r) (spot_of (suc s) x y ls)
    (below_more (0 + length r) (length r) (edge_in (start_or 0 r) 0 x y r) (omega arith) (edge_below (start_or 0 r) 0 x y r))
    (bounds (suc s) x y ls)

abbrev pub Within : Seat → Type 0
Within Nowhere = Unit {0}
Within (At w k i) = i < k

within_by : (ls : List Ring) (p : Spot) → Bounds 0 ls p → Within (seat_of ls p)
unfolding Bounds
within_by ls nowhere h = tt
within_by ls (spot l i) h = let e : h.0 ≡ l = omega (arith, h.1) in subst (λ (d : ℕ). i < size_of ls d) e h.2

pub within : (x y : ℕ) (ls : List Ring) → Within (seat_of ls (spot_of 0 x y ls))
within x y ls = within_by ls (spot_of 0 x y ls) (bounds 0 x y ls)
