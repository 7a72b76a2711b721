-- Laws of counting directed edges and numbers: one more edge, glued or new; one more number, old or new.
-- Assumes nothing.
use Prim.Native.Nat.{ℕ, zero, suc, ◌+◌, ◌-◌, ◌*◌, ◌≤◌, ◌<◌}
use native.Mathlib.Nat.{mul_comm, zero-mul, one-mul}
use native.Mathlib.Omega.{arith}
use mathlib.Core.Bool.{Bool, true, false}
use mathlib.Core.List.{List, [], ◌∷◌}
use mathlib.Core.Path.{◌≡◌, refl, sym, ◌∙◌}
use lib.Dec.{eqb}
use borrow.Author.Tests.{eqb-true, eqb-false, eq-eqb, ne_eqb}
use Rattle.rules.specs.declared.Triangle.{Triangle}
use Rattle.rules.specs.Triangle.{Edge, edge, corners, edges_of}
use Rattle.rules.specs.Count.{same, hit, occurs, count, uses, different, pairs}
use Rattle.rules.specs.Table.{Side, glued, fresh, side_rule}
use Rattle.rules.specs.Machine.{fresh_sides}
use Rattle.counting.proofs.Bools.{and_left, and_right, and_no}
use Rattle.counting.proofs.Counts.{same_yes, same_is, hit_yes, hit_from, hit_to, hit_swap, no_from, no_to, at_edge_lem}
use Rattle.counting.proofs.Counts.{apart_from, apart_to}

-- the open edges O and the declared ones B are the model's, whose directed edges are D
pub record Fits (O B : ℕ → ℕ → ℕ) (D : List Edge) : Type 0 where
  pub once : (x y : ℕ) → count x y D ≤ 1
  pub all : (x y : ℕ) → O x y + B x y + count x y D * count y x D ≡ count x y D

mul_no : (a b : ℕ) → b ≡ 0 → a * b ≡ 0
mul_no a b e = rw (e, mul_comm a 0) (zero-mul a)

mul_one : (a b : ℕ) → a ≡ 1 → a * b ≡ b
mul_one a b e = rw e (one-mul b)

module _ (O B O' : ℕ → ℕ → ℕ) (D : List Edge) (f : Fits O B D) (p q : ℕ) (d : p ≡ q → ⊥) where
  -- the edge p→q is one more
  more : (x y : ℕ) → count x y (edge p q ∷ D) ≡ hit x y p q + count x y D
  unfolding count
  more x y = refl

  pq : count p q (edge p q ∷ D) ≡ 1 + count p q D
  pq = rw (more p q, hit_yes p q)

  qp : count q p (edge p q ∷ D) ≡ count q p D
  qp = rw (more q p, no_from q p p q (λ e. d (sym e))) (omega arith)

  others : (x y : ℕ) → hit x y p q ≡ 0 → hit x y q p ≡ 0 → O' x y ≡ O x y
      → O' x y + B x y + count x y (edge p q ∷ D) * count y x (edge p q ∷ D) ≡ count x y (edge p q ∷ D)
  others x y g h e =
      let a : count x y (edge p q ∷ D) ≡ count x y D = omega (arith, more x y) in
      let b : count y x (edge p q ∷ D) ≡ count y x D = omega (arith, more y x, hit_swap y x p q) in
      rw (a, b, e) (f.all x y)

  -- the two edges p→q and q→p, and any other one
  ends : (P : ℕ → ℕ → Type 0) → P p q → P q p → ((x y : ℕ) → hit x y p q ≡ 0 → hit x y q p ≡ 0 → P x y) → (x y : ℕ) → P x y
  ends P a b c = at_edge_lem P p q a (λ x y g. at_edge_lem (λ (x y : ℕ). hit x y p q ≡ 0 → P x y) q p (λ g. b) (λ x y h g. c x y g h) x y g)

  -- it is new: neither it nor its opposite was used, and it is open now
  pub add_fresh : count p q D ≡ 0 → count q p D ≡ 0 → ((x y : ℕ) → O' x y ≡ O x y + hit x y p q) → Fits O' B (edge p q ∷ D)
  add_fresh u v o = record {
    once = ends (λ (x y : ℕ). count x y (edge p q ∷ D) ≤ 1) (omega (arith, pq)) (omega (arith, qp))
        (λ x y g h. omega (arith, more x y, f.once x y));
    all =
        ends (λ (x y : ℕ). O' x y + B x y + count x y (edge p q ∷ D) * count y x (edge p q ∷ D) ≡ count x y (edge p q ∷ D))
        (omega (arith, pq, f.all p q, o p q, hit_yes p q, mul_no (count p q (edge p q ∷ D)) (count q p (edge p q ∷ D)) (qp ∙ v)))
        (omega (
          arith,
          qp,
          f.all q p,
          o q p,
          no_from q p p q (λ e. d (sym e)),
          mul_comm (count q p (edge p q ∷ D))
              (count p q (edge p q ∷ D)),
          mul_no (count p q (edge p q ∷ D)) (count q p (edge p q ∷ D)) (qp ∙ v),
        ))
        (λ x y g h. others x y g h (omega (arith, o x y)));
  }

  -- it glues: its opposite was open, and is no more
  pub add_glued : ((x y : ℕ) → O' x y + hit x y q p ≡ O x y) → Fits O' B (edge p q ∷ D)
  add_glued o =
      let one : count q p D ≡ 1 = omega (arith, o q p, hit_yes q p, f.all q p, f.once q p) in
      let none : count p q D ≡ 0 = omega (arith, o q p, hit_yes q p, f.all q p, mul_one (count q p D) (count p q D) one) in
      record {
        once = ends (λ (x y : ℕ). count x y (edge p q ∷ D) ≤ 1) (omega (arith, pq)) (omega (arith, qp))
            (λ x y g h. omega (arith, more x y, f.once x y));
        all =
            ends (λ (x y : ℕ). O' x y + B x y + count x y (edge p q ∷ D) * count y x (edge p q ∷ D) ≡ count x y (edge p q ∷ D))
            (rw (pq, qp, one, none) (omega (arith, o p q, f.all p q, no_from p q q p d)))
            (rw (pq, qp, one, none) (omega (arith, o q p, f.all q p, hit_yes q p)))
            (λ x y g h. others x y g h (omega (arith, o x y)));
      }

  -- the edge that it glues was used
  pub glued_joined : ((x y : ℕ) → O' x y + hit x y q p ≡ O x y) → count q p D ≡ 1
  glued_joined o = omega (arith, o q p, hit_yes q p, f.all q p, f.once q p)

abbrev pub if_fresh : Side → ℕ → ℕ
if_fresh glued n = 0
if_fresh fresh n = n

abbrev pub if_glued : Side → ℕ → ℕ
if_glued glued n = n
if_glued fresh n = 0

pub if_fresh_le : (s : Side) (n : ℕ) → if_fresh s n ≤ n
if_fresh_le glued n = omega arith
if_fresh_le fresh n = omega arith

pub if_glued_le : (s : Side) (n : ℕ) → if_glued s n ≤ n
if_glued_le glued n = omega arith
if_glued_le fresh n = omega arith

-- a side that glues nothing is new both ways round
abbrev pub Unjoined : Side → ℕ → ℕ → List Edge → Type 0
Unjoined glued x y D = Unit {0}
Unjoined fresh x y D = (count x y D ≡ 0) × (count y x D ≡ 0)

pub rule_unjoined : (s : Side) (x y : ℕ) (ts : List Triangle) → side_rule s x y ts ≡ true → Unjoined s x y (edges_of ts)
rule_unjoined glued x y ts h = tt
rule_unjoined fresh x y ts h =
    let a = eqb (count x y (edges_of ts)) 0 in
    let b = eqb (count y x (edges_of ts)) 0 in
    (eqb-true (count x y (edges_of ts)) 0 (and_left a b h), eqb-true (count y x (edges_of ts)) 0 (and_right a b h))

-- one more edge: the open edges change by it, and so does the number of pairs
pub record Added (O' B : ℕ → ℕ → ℕ) (p q : ℕ) (s : Side) (D : List Edge) : Type 0 where
  pub fits : Fits O' B (edge p q ∷ D)
  pub more_pairs : pairs (edge p q ∷ D) ≡ fresh_sides s + pairs D

pub add_side : (s : Side) (O B O' : ℕ → ℕ → ℕ) (D : List Edge) → Fits O B D → (p q : ℕ) → (p ≡ q → ⊥) → Unjoined s p q D
    → ((x y : ℕ) → O' x y + if_glued s (hit x y q p) ≡ O x y + if_fresh s (hit x y p q)) → Added O' B p q s D
unfolding pairs
add_side fresh O B O' D f p q d u o = record {
  fits = add_fresh O B O' D f p q d u.0 u.1 (λ x y. omega (arith, o x y));
  more_pairs = rw (eq-eqb (count p q D) 0 u.0, eq-eqb (count q p D) 0 u.1);
}
add_side glued O B O' D f p q d u o =
    let o' : (x y : ℕ) → O' x y + hit x y q p ≡ O x y = λ x y. omega (arith, o x y) in
    let one : count q p D ≡ 1 = glued_joined O B O' D f p q d o' in
    record {
      fits = add_glued O B O' D f p q d o';
      more_pairs =
          rw (and_no (eqb (count p q D) 0) (eqb (count q p D) 0) (ne_eqb (count q p D) 0 (λ e. omega arith)));
    }

-- one more triangle
module _ (O B O' : ℕ → ℕ → ℕ) (D : List Edge) (f : Fits O B D) (p q r : ℕ)
    (p-q : p ≡ q → ⊥) (q_r : q ≡ r → ⊥) (r_p : r ≡ p → ⊥) (pq qr rp : Side)
    (u1 : Unjoined pq p q D) (u2 : Unjoined qr q r D) (u3 : Unjoined rp r p D)
    (o : (x y : ℕ)
    → O' x y + (if_glued pq (hit x y q p) + (if_glued qr (hit x y r q) + if_glued rp (hit x y p r)))
    ≡ O x y + (if_fresh pq (hit x y p q) + (if_fresh qr (hit x y q r) + if_fresh rp (hit x y r p)))) where
  O1 : ℕ → ℕ → ℕ
  O1 x y = O x y + if_fresh pq (hit x y p q) - if_glued pq (hit x y q p)

  O2 : ℕ → ℕ → ℕ
  O2 x y = O1 x y + if_fresh qr (hit x y q r) - if_glued qr (hit x y r q)

  o1 : (x y : ℕ) → O1 x y + if_glued pq (hit x y q p) ≡ O x y + if_fresh pq (hit x y p q)
  unfolding O1
  o1 x y =
      omega (
        arith,
        o x y,
        if_fresh_le qr (hit x y q r),
        if_fresh_le rp (hit x y r p),
        if_glued_le pq (hit x y q p),
        apart_to q p q r (λ e. r_p (sym e)) x y,
        apart_from q p r p q_r x y,
      )

  o2 : (x y : ℕ) → O2 x y + if_glued qr (hit x y r q) ≡ O1 x y + if_fresh qr (hit x y q r)
  unfolding O2
  o2 x y =
      omega (arith, o x y, o1 x y, if_fresh_le rp (hit x y r p), if_glued_le qr (hit x y r q), apart_to r q r p (λ e. p-q (sym e)) x y)

  later2 : (s : Side) → Unjoined s q r D → Unjoined s q r (edge p q ∷ D)
  unfolding count
  later2 glued u = tt
  later2 fresh u = (
    omega (arith, u.0, no_from q r p q (λ e. p-q (sym e))),
    omega (arith, u.1, no_from r q p q r_p),
  )

  later3 : (s : Side) → Unjoined s r p D → Unjoined s r p (edge q r ∷ (edge p q ∷ D))
  unfolding count
  later3 glued u = tt
  later3 fresh u = (
    omega (arith, u.0, no_from r p q r (λ e. q_r (sym e)), no_from r p p q r_p),
    omega (arith, u.1, no_from p r q r p-q, no_to p r p q (λ e. q_r (sym e))),
  )

  s1 : Added O1 B p q pq D
  s1 = add_side pq O B O1 D f p q p-q u1 o1

  s2 : Added O2 B q r qr (edge p q ∷ D)
  s2 = add_side qr O1 B O2 (edge p q ∷ D) s1.fits q r q_r (later2 qr u2) o2

  s3 : Added O' B r p rp (edge q r ∷ (edge p q ∷ D))
  s3 = add_side rp O2 B O' (edge q r ∷ (edge p q ∷ D)) s2.fits r p r_p (later3 rp u3) (λ x y. omega (arith, o x y, o1 x y, o2 x y))

  pub triangle_fits : Fits O' B (edge r p ∷ (edge q r ∷ (edge p q ∷ D)))
  triangle_fits = s3.fits

  pub triangle_pairs : pairs (edge r p ∷ (edge q r ∷ (edge p q ∷ D))) ≡ pairs D + (fresh_sides pq + fresh_sides qr + fresh_sides rp)
  triangle_pairs = omega (arith, s1.more_pairs, s2.more_pairs, s3.more_pairs)

-- the numbers in vs are those below n
pub record Numbered (n : ℕ) (vs : List ℕ) : Type 0 where
  pub below : (v : ℕ) → 1 ≤ occurs v vs → v < n
  pub each : (v : ℕ) → v < n → 1 ≤ occurs v vs
  pub differ : different vs ≡ n

pub add_old : (n : ℕ) (vs : List ℕ) → Numbered n vs → (v : ℕ) → v < n → Numbered n (v ∷ vs)
unfolding occurs different
add_old n vs k v l = record {
  below = λ x h. go x h (same x v) refl;
  each = λ x h. omega (arith, k.each x h);
  differ = rw (ne_eqb (occurs v vs) 0 (λ e. omega (arith, k.each v l))) (omega (arith, k.differ));
}
  where
    go : (x : ℕ) → 1 ≤ same x v + occurs x vs → (s : ℕ) → same x v ≡ s → x < n
    go x h zero e = k.below x (omega arith)
    go x h (suc s) e = let e' : x ≡ v = same_is x v (omega arith) in rw e' l

pub add_next : (n : ℕ) (vs : List ℕ) → Numbered n vs → Numbered (suc n) (n ∷ vs)
unfolding occurs different
add_next n vs k = record {
  below = λ x h. go x h (same x n) refl;
  each = λ x h. last x h (eqb x n) refl;
  differ = rw (eq-eqb (occurs n vs) 0 none) (omega (arith, k.differ));
}
  where
    none_by : (s : ℕ) → occurs n vs ≡ s → s ≡ 0
    none_by zero e = refl
    none_by (suc s) e = absurd (omega (arith, k.below n (omega arith)))

    none : occurs n vs ≡ 0
    none = none_by (occurs n vs) refl

    go : (x : ℕ) → 1 ≤ same x n + occurs x vs → (s : ℕ) → same x n ≡ s → x < suc n
    go x h zero e = omega (arith, k.below x (omega arith))
    go x h (suc s) e = omega (arith, same_is x n (omega arith))

    last : (x : ℕ) → x < suc n → (t : Bool) → eqb x n ≡ t → 1 ≤ same x n + occurs x vs
    last x h true e = let e' : x ≡ n = eqb-true x n e in rw e' (omega (arith, same_yes n))
    last x h false e = omega (arith, k.each x (omega (arith, eqb-false x n e)))

-- the ends of a used edge are in a triangle
pub uses_from : (x y : ℕ) (ts : List Triangle) → uses x y ts ≤ occurs x (corners ts)
unfolding count edges_of corners occurs
uses_from x y [] = omega arith
uses_from x y (t ∷ ts) =
    omega (arith, uses_from x y ts, hit_from x y t.p t.q, hit_from x y t.q t.r, hit_from x y t.r t.p)

pub uses_to : (x y : ℕ) (ts : List Triangle) → uses x y ts ≤ occurs y (corners ts)
unfolding count edges_of corners occurs
uses_to x y [] = omega arith
uses_to x y (t ∷ ts) =
    omega (arith, uses_to x y ts, hit_to x y t.p t.q, hit_to x y t.q t.r, hit_to x y t.r t.p)
