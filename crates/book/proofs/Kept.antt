-- Each operation keeps what holds of the book.
-- Assumes nothing.
use Prim.Native.Nat.{ℕ, zero, suc, ◌+◌, ◌≤◌, ◌<◌}
use native.Mathlib.Omega.{arith}
use mathlib.Core.Bool.{Bool, true, false, ◌&&◌, not}
use mathlib.Core.List.{List, [], ◌∷◌}
use mathlib.Core.Path.{◌≡◌, refl, subst}
use lib.Dec.{eqb}
use borrow.Author.Tests.{eqb-false, not-true}
use Rattle.rules.specs.declared.Triangle.{Triangle}
use Rattle.rules.specs.declared.Counts.{Counts}
use Rattle.rules.specs.declared.Operation.{Operation}
use Rattle.rules.specs.Triangle.{Edge, corners, edges_of}
use Rattle.rules.specs.Count.{same, occurs, count, uses, different, pairs}
use Rattle.rules.specs.Ring.{Node, Ring, vertex, start_or}
use Rattle.rules.specs.Table.{Side, Effect, not_allowed, builds, marks, effect, side_rule, edge_rule}
use Rattle.rules.specs.Machine.{empty, after_build, after_mark, Step, refused, test, done, operation}
use Rattle.rules.specs.Book.{Book, entered}
use Rattle.book.proofs.Parts.{building_of, marking_of}
use Rattle.book.specs.Sums.{path_sum, ring_sum, loops_sum, open_hit, open_edges}
use Rattle.book.specs.Consistent.{Consistent}
use Rattle.book.specs.Numbers.{NodesBelow, LoopsBelow}
use Rattle.book.proofs.Counting.{Fits, rule_unjoined, triangle_fits, triangle_pairs, Numbered, add_old, add_next}
use Rattle.book.proofs.Effects.{At, Corners, none, third, three, Builds, Marks, Law, sound_current, effect_law}
use Rattle.book.proofs.Numbers.{Below, below_effect}
use Rattle.counting.proofs.Bools.{and_left, and_right}
use Rattle.counting.proofs.Counts.{same_yes, same_is, hit_proper}

-- an open edge of a loop is a used one
pub loop_used : (b : Book) → Consistent b → (x y : ℕ) → 1 ≤ open_edges x y b.machine.loops → uses x y b.machine.triangles ≡ 1
loop_used b k x y h = omega (arith, k.all x y, k.once x y)

-- a vertex of a loop is below the numbers that are not used
path_below : (u v : ℕ) (ps : List Node) (b : ℕ) → NodesBelow u ps → 1 ≤ path_sum (λ x y o. same v x) ps b → v < u
unfolding path_sum
path_below u v [] b h k = absurd (omega arith)
path_below u v (p ∷ ps) b h k = go (same v (vertex p)) refl (path_below u v ps b h.1)
  where
    go : (n : ℕ) → same v (vertex p) ≡ n → (1 ≤ path_sum (λ x y o. same v x) ps b → v < u) → v < u
    go (suc n) e more = omega (arith, same_is v (vertex p) (omega arith), h.0)
    go zero e more = more (omega arith)

loops_below : (u v : ℕ) (ls : List Ring) → LoopsBelow u ls → 1 ≤ loops_sum (λ x y o. same v x) ls → v < u
unfolding loops_sum ring_sum
loops_below u v [] h k = absurd (omega arith)
loops_below u v (l ∷ ls) h k = go (ring_sum (λ x y o. same v x) l) refl (loops_below u v ls h.1)
  where
    go : (n : ℕ) → ring_sum (λ x y o. same v x) l ≡ n → (1 ≤ loops_sum (λ x y o. same v x) ls → v < u) → v < u
    go (suc n) e more = path_below u v l (start_or 0 l) h.0 (omega arith)
    go zero e more = more (omega arith)

pub place_below : (b : Book) → Consistent b → (v : ℕ) → At b.machine.loops v → v < b.machine.used
place_below b k v a = loops_below b.machine.used v b.machine.loops k.low (omega (arith, a (same v), same_yes v))

-- the corners of a new triangle
more_corners : (ls : List Ring) (u n p q r : ℕ) (vs : List ℕ) → Corners ls u n p q r → ((v : ℕ) → At ls v → v < u) → Numbered u vs
    → Numbered (u + n) (r ∷ (q ∷ (p ∷ vs)))
more_corners ls u n p q r vs (none x y z) h k =
    subst (λ (m : ℕ). Numbered m (r ∷ (q ∷ (p ∷ vs)))) (omega arith)
    (add_old u (q ∷ (p ∷ vs)) (add_old u (p ∷ vs) (add_old u vs k p (h p x)) q (h q y)) r (h r z))
more_corners ls u n p q r vs (third x y) h k =
    subst (λ (m : ℕ). Numbered m (u ∷ (q ∷ (p ∷ vs)))) (omega arith)
    (add_next u (q ∷ (p ∷ vs)) (add_old u (p ∷ vs) (add_old u vs k p (h p x)) q (h q y)))
more_corners ls u n p q r vs three h k =
    subst (λ (m : ℕ). Numbered m (suc (suc u) ∷ (suc u ∷ (u ∷ vs)))) (omega arith)
    (add_next (suc (suc u)) (suc u ∷ (u ∷ vs)) (add_next (suc u) (u ∷ vs) (add_next u vs k)))

-- a triangle is built
kept_built : (b : Book) → Consistent b → (ls : List Ring) (t : Triangle) (pq qr rp : Side) (n s k : ℕ)
    → Builds b.machine.used b.machine.loops ls t pq qr rp n s k → LoopsBelow (b.machine.used + n) ls
    → edge_rule t pq qr rp b.machine.triangles ≡ true
    → Consistent (record { machine = after_build b.machine (building_of ls t pq qr rp n s k); borders = b.borders })
unfolding corners edges_of count
kept_built b c ls t pq qr rp n s k l low rule =
    let m = b.machine in
    let ts = m.triangles in
    let x1 = not (eqb t.p t.q) in
    let x2 = not (eqb t.q t.r) in
    let x3 = not (eqb t.r t.p) in
    let x4 = side_rule pq t.p t.q ts in
    let x5 = side_rule qr t.q t.r ts in
    let x6 = side_rule rp t.r t.p ts in
    let r5 = and_left (x1 && x2 && x3 && x4 && x5) x6 rule in
    let r4 = and_left (x1 && x2 && x3 && x4) x5 r5 in
    let r3 = and_left (x1 && x2 && x3) x4 r4 in
    let r2 = and_left (x1 && x2) x3 r3 in
    let O : ℕ → ℕ → ℕ = λ x y. open_edges x y m.loops in
    let O' : ℕ → ℕ → ℕ = λ x y. open_edges x y ls in
    let B : ℕ → ℕ → ℕ = λ x y. count x y b.borders in
    let f : Fits O B (edges_of ts) = record { once = c.once; all = c.all } in
    let p-q = eqb-false t.p t.q (not-true (eqb t.p t.q) (and_left x1 x2 r2)) in
    let q_r = eqb-false t.q t.r (not-true (eqb t.q t.r) (and_right x1 x2 r2)) in
    let r_p = eqb-false t.r t.p (not-true (eqb t.r t.p) (and_right (x1 && x2) x3 r3)) in
    let u1 = rule_unjoined pq t.p t.q ts (and_right (x1 && x2 && x3) x4 r4) in
    let u2 = rule_unjoined qr t.q t.r ts (and_right (x1 && x2 && x3 && x4) x5 r5) in
    let u3 = rule_unjoined rp t.r t.p ts (and_right (x1 && x2 && x3 && x4 && x5) x6 rule) in
    let g = triangle_fits O B O' (edges_of ts) f t.p t.q t.r p-q q_r r_p pq qr rp u1 u2 u3 (λ x y. l.sums (open_hit x y)) in
    let e = triangle_pairs O B O' (edges_of ts) f t.p t.q t.r p-q q_r r_p pq qr rp u1 u2 u3 (λ x y. l.sums (open_hit x y)) in
    let v =
    more_corners m.loops m.used n t.p t.q t.r (corners ts) l.numbers (place_below b c)
    (record { below = c.below; each = c.each; differ = c.vertices }) in
    record {
      below = v.below;
      each = v.each;
      vertices = v.differ;
      once = g.once;
      proper = λ x. omega (
        arith,
        c.proper x,
        hit_proper x t.p t.q p-q,
        hit_proper x t.q t.r q_r,
        hit_proper x t.r t.p
            r_p,
      );
      all = g.all;
      low = low;
      loops = l.sound c.loops;
      edges = omega (arith, e, c.edges);
      euler = omega (arith, l.lives, c.euler);
    }

-- an edge is declared border
kept_marked : (b : Book) → Consistent b → (ls : List Ring) (d : Edge) (rim : ℕ) → Marks b.machine.loops ls d rim
    → LoopsBelow b.machine.used ls
    → Consistent (record { machine = after_mark b.machine (marking_of ls d rim); borders = d ∷ b.borders })
unfolding count
kept_marked b c ls d rim l low = record {
  below = c.below;
  each = c.each;
  vertices = c.vertices;
  once = c.once;
  proper = c.proper;
  all = λ x y. omega (arith, l.sums (open_hit x y) (λ p q. refl), c.all x y);
  low = low;
  loops = l.sound c.loops;
  edges = c.edges;
  euler = omega (arith, l.lives, c.euler);
}

-- what holds if a test fails, and of what follows if it is passed
pub test_law : (P : Step → Type 0) (t : Bool) (n : ℕ) (s : Step) → P (refused n) → (t ≡ true → P s) → P (test t n s)
unfolding test
test_law P true n s a b = b refl
test_law P false n s a b = a

kept_by : (b : Book) → Consistent b → (e : Effect) → Law b.machine.used b.machine.loops e → Below b.machine.used e
    → Consistent (entered b (done b.machine e))
unfolding done
kept_by b c not_allowed l v = c
kept_by b c (builds y) l v =
    test_law (λ (x : Step). Consistent (entered b x)) _ _ _ c
    (λ i. test_law (λ (x : Step). Consistent (entered b x))
    (edge_rule y.triangle y.sides.pq y.sides.qr y.sides.rp b.machine.triangles) _ _ c
    (λ r. kept_built b c y.loops y.triangle y.sides.pq y.sides.qr y.sides.rp
    y.added.vertices y.added.starts y.added.unions l v.0 r))
kept_by b c (marks y) l v =
    test_law (λ (x : Step). Consistent (entered b x)) _ _ _ c (λ i. kept_marked b c y.loops y.edge y.rims l v)

-- an operation, accepted or refused
pub kept : (b : Book) → Consistent b → (o : Operation) → Consistent (entered b (operation b.machine o))
kept b c o = kept_by b c (effect o b.machine.used b.machine.loops)
    (effect_law o b.machine.used b.machine.loops (sound_current b.machine.loops c.loops))
    (below_effect o b.machine.used b.machine.loops c.low)

-- the empty book
pub empty_consistent : (s : Counts) → Consistent (record { machine = empty s; borders = [] })
unfolding occurs corners different count edges_of loops_sum pairs
empty_consistent s = record {
  below = λ v h. absurd (omega arith);
  each = λ v h. absurd (omega arith);
  vertices = refl;
  once = λ x y. omega arith;
  proper = λ x. refl;
  all = λ x y. refl;
  low = tt;
  loops = tt;
  edges = refl;
  euler = refl;
}
