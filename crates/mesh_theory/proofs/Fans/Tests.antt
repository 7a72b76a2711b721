-- What the tests of 3 to 6 say: numbers below v, different corners, no directed edge twice, each vertex used.
-- Assumes nothing.
use Prim.Native.Nat.{ℕ, zero, suc, ◌+◌, ◌≤◌, ◌<◌}
use native.Mathlib.Omega.{arith}
use mathlib.Core.Bool.{true, ◌&&◌, not}
use mathlib.Core.List.{List, [], ◌∷◌}
use mathlib.Core.Logic.{◌↔◌}
use mathlib.Core.Path.{◌≡◌, refl, ap}
use lib.Dec.{eqb, ltb}
use borrow.Author.Tests.{eqb-true, eqb-false, eq-eqb, ne_eqb, not-true, ltb-true, lt-ltb}
use Rattle.rules.specs.declared.Triangle.{Triangle}
use Rattle.rules.specs.Triangle.{distinct, Edge, at_p, In, here, there}
use Rattle.rules.specs.Count.{same, hit, occurs, count}
use Rattle.rules.specs.Check.{all_below, all_distinct, none_twice, all_used}
use Rattle.mesh_theory.specs.Fans.Corner.{Different}
use Rattle.mesh_theory.proofs.Fans.Counting.{below_suc}
use Rattle.mesh_theory.proofs.Fans.Corners.{rot_different}
use Rattle.counting.proofs.Bools.{and_left, and_right, and_both}
use Rattle.counting.proofs.Counts.{same_yes, same_is, hit_once, hit_yes, hit_is}

-- the test of 3 passes exactly if each number is below v
pub all_below_lem : (v : ℕ) (xs : List ℕ) → (all_below v xs ≡ true) ↔ ((x : ℕ) → 1 ≤ occurs x xs → x < v)
unfolding all_below occurs
all_below_lem v xs = (each xs, all xs)
  where
    each : (ys : List ℕ) → all_below v ys ≡ true → (x : ℕ) → 1 ≤ occurs x ys → x < v
    each [] h x k = absurd (omega arith)
    each (y ∷ ys) h x k = go (same x y) refl (each ys (and_right (ltb y v) (all_below v ys) h) x)
      where
        go : (n : ℕ) → same x y ≡ n → (1 ≤ occurs x ys → x < v) → x < v
        go zero e l = l (omega arith)
        go (suc n) e l = omega (arith, same_is x y (omega arith), ltb-true y v (and_left (ltb y v) (all_below v ys) h))

    all : (ys : List ℕ) → ((x : ℕ) → 1 ≤ occurs x ys → x < v) → all_below v ys ≡ true
    all [] h = refl
    all (y ∷ ys) h =
        and_both (ltb y v) (all_below v ys) (lt-ltb y v (h y (omega (arith, same_yes y)))) (all ys (λ x k. h x (omega arith)))

-- two numbers that a test finds different
not_equal : (x y : ℕ) → (not (eqb x y) ≡ true) ↔ (x ≡ y → ⊥)
not_equal x y = (λ h. eqb-false x y (not-true (eqb x y) h), λ h. ap not (ne_eqb x y h))

pub distinct_different : (t : Triangle) → (distinct t ≡ true) ↔ Different t.p t.q t.r
distinct_different t =
    let a = not (eqb t.p t.q) in
    let b = not (eqb t.q t.r) in
    let c = not (eqb t.r t.p) in (
      λ h. record {
        x_y = (not_equal t.p t.q).0 (and_left a b (and_left (a && b) c h));
        y_z = (not_equal t.q t.r).0 (and_right a b (and_left (a && b) c h));
        z_x = (not_equal t.r t.p).0 (and_right (a && b) c h);
      },
      λ d.
          and_both (a && b) c (and_both a b ((not_equal t.p t.q).1 d.x_y) ((not_equal t.q t.r).1 d.y_z))
          ((not_equal t.r t.p).1 d.z_x),
    )

pub distinct_first : (t : Triangle) (ts : List Triangle) → all_distinct (t ∷ ts) ≡ true → Different t.p t.q t.r
unfolding all_distinct
distinct_first t ts h = (distinct_different t).0 (and_left (distinct t) (all_distinct ts) h)

pub distinct_rest : (t : Triangle) (ts : List Triangle) → all_distinct (t ∷ ts) ≡ true → all_distinct ts ≡ true
unfolding all_distinct
distinct_rest t ts h = and_right (distinct t) (all_distinct ts) h

-- the test of 4 passes exactly if each triangle of the list has three different vertices
pub all_distinct_lem : (ts : List Triangle) → (all_distinct ts ≡ true) ↔ ((x y z : ℕ) → In x y z ts → Different x y z)
unfolding all_distinct
all_distinct_lem ts = (λ h x y z i. each ts h i, all ts)
  where
    each : {x y z : ℕ} (us : List Triangle) → all_distinct us ≡ true → In x y z us → Different x y z
    each (t ∷ us) h (here r) = rot_different (distinct_first t us h) r
    each (t ∷ us) h (there i) = each us (distinct_rest t us h) i
    each {y = y} {z = z} [] h x3 = elim x3 [ ]

    all : (us : List Triangle) → ((x y z : ℕ) → In x y z us → Different x y z) → all_distinct us ≡ true
    all [] h = refl
    all (t ∷ us) h =
        and_both (distinct t) (all_distinct us) ((distinct_different t).1 (h t.p t.q t.r (here (at_p refl refl refl))))
        (all us (λ x y z i. h x y z (there i)))

-- the test of 5 passes exactly if each directed edge is there at most once
pub none_twice_lem : (ds : List Edge) → (none_twice ds ≡ true) ↔ ((x y : ℕ) → count x y ds ≤ 1)
unfolding none_twice count
none_twice_lem ds = (once ds, none ds)
  where
    here_or_later : (x y : ℕ) (d : Edge) (es : List Edge) → count d.from d.to es ≡ 0 → count x y es ≤ 1
        → (n : ℕ) → hit x y d.from d.to ≡ n → n + count x y es ≤ 1
    here_or_later x y d es h k zero e = omega arith
    here_or_later x y d es h k (suc n) e =
        let q = hit_is x y d.from d.to (omega arith) in
        let c : count x y es ≡ 0 = rw (q.0, q.1) h in
        omega (arith, hit_once x y d.from d.to)

    once : (es : List Edge) → none_twice es ≡ true → (x y : ℕ) → count x y es ≤ 1
    once [] h x y = omega arith
    once (d ∷ es) h x y =
        let n = count d.from d.to es in
        here_or_later x y d es (eqb-true n 0 (and_left (eqb n 0) (none_twice es) h))
        (once es (and_right (eqb n 0) (none_twice es) h) x y) (hit x y d.from d.to) refl

    none : (es : List Edge) → ((x y : ℕ) → count x y es ≤ 1) → none_twice es ≡ true
    none [] h = refl
    none (d ∷ es) h =
        and_both (eqb (count d.from d.to es) 0) (none_twice es)
        (eq-eqb (count d.from d.to es) 0 (omega (arith, h d.from d.to, hit_yes d.from d.to)))
        (none es (λ x y. omega (arith, h x y)))

-- the test of 6 passes exactly if each number below n is there
pub all_used_lem : (n : ℕ) (xs : List ℕ) → (all_used n xs ≡ true) ↔ ((v : ℕ) → v < n → 1 ≤ occurs v xs)
unfolding all_used
all_used_lem n xs = (each n, all n)
  where
    some : (m : ℕ) → (m ≡ 0 → ⊥) → 1 ≤ m
    some m h = omega arith

    each : (m : ℕ) → all_used m xs ≡ true → (v : ℕ) → v < m → 1 ≤ occurs v xs
    each zero h v l = absurd (omega arith)
    each (suc m) h v l =
        let a = not (eqb (occurs m xs) 0) in
        below_suc (λ (k : ℕ). 1 ≤ occurs k xs) m v l (some (occurs m xs) ((not_equal (occurs m xs) 0).0 (and_left a (all_used m xs) h)))
        (each m (and_right a (all_used m xs) h) v)

    all : (m : ℕ) → ((v : ℕ) → v < m → 1 ≤ occurs v xs) → all_used m xs ≡ true
    all zero h = refl
    all (suc m) h =
        and_both (not (eqb (occurs m xs) 0)) (all_used m xs)
        ((not_equal (occurs m xs) 0).1 (λ e. omega (arith, h m (omega arith))))
        (all m (λ v l. h v (omega arith)))
