-- The tests of 4 and 5 together, in the form in which links about a vertex use them.
-- Assumes nothing.
use Prim.Native.Nat.{ℕ, zero, suc, ◌≤◌}
use native.Mathlib.Omega.{arith}
use mathlib.Core.Bool.{true}
use mathlib.Core.List.{List, [], ◌∷◌}
use mathlib.Core.Logic.{◌↔◌}
use mathlib.Core.Path.{◌≡◌, refl}
use Rattle.rules.specs.declared.Triangle.{Triangle}
use Rattle.rules.specs.Triangle.{distinct, edges_of, Rot, at_p, at_q, at_r, Free}
use Rattle.rules.specs.Count.{count, uses}
use Rattle.rules.specs.Check.{all_distinct, none_twice}
use Rattle.mesh_theory.specs.Fans.Corner.{Different, Once}
use Rattle.mesh_theory.proofs.Fans.Corners.{sides, sides_of, uses_rot, uses_cons, sides_yes, sides_rot, free_unused}
use Rattle.mesh_theory.proofs.Fans.Tests.{distinct_different, distinct_first, distinct_rest, none_twice_lem}
use Rattle.counting.proofs.Bools.{and_both}
use Rattle.counting.proofs.Counts.{hit_from, same_two}

pub sides_once : (x y a b c : ℕ) → Different a b c → sides x y a b c ≤ 1
unfolding sides
sides_once x y a b c d =
    omega (
      arith,
      hit_from x y a b,
      hit_from x y b c,
      hit_from x y c a,
      same_two x a b d.x_y,
      same_two x b c d.y_z,
      same_two x c a d.z_x,
    )

free_rot : {t : Triangle} {x y z : ℕ} (ts : List Triangle)
    → Free t.p t.q ts × Free t.q t.r ts × Free t.r t.p ts → Rot t x y z → Free x y ts
free_rot ts f (at_p a b c) = rw (← a, ← b) f.0
free_rot ts f (at_q a b c) = rw (← a, ← b) f.1
free_rot ts f (at_r a b c) = rw (← a, ← b) f.2

once_different : (t : Triangle) (ts : List Triangle) → Once (t ∷ ts) → Different t.p t.q t.r
once_different t ts o = record { x_y = o.1.0; y_z = o.1.1; z_x = o.1.2 }

once_uses : (x y : ℕ) (ts : List Triangle) → Once ts → uses x y ts ≤ 1
unfolding count edges_of
once_uses x y [] o = omega arith
once_uses x y (t ∷ ts) o = go (sides_of x y t) refl (once_uses x y ts o.2)
  where
    go : (n : ℕ) → sides_of x y t ≡ n → uses x y ts ≤ 1 → uses x y (t ∷ ts) ≤ 1
    go zero e k = omega (arith, uses_cons x y t ts)
    go (suc n) e k =
        let r = sides_rot x y t (omega arith) in
        omega (
          arith,
          uses_cons x y t ts,
          sides_once x y t.p t.q t.r (once_different t ts o),
          (free_unused x y ts).0 (free_rot ts o.0 r.1),
        )

once_distinct : (ts : List Triangle) → Once ts → all_distinct ts ≡ true
unfolding all_distinct
once_distinct [] o = refl
once_distinct (t ∷ ts) o =
    and_both (distinct t) (all_distinct ts) ((distinct_different t).1 (once_different t ts o)) (once_distinct ts o.2)

-- an edge of the first triangle is not used by the others
free_rest : {t : Triangle} {x y z : ℕ} (ts : List Triangle) → uses x y (t ∷ ts) ≤ 1 → Rot t x y z → Free x y ts
free_rest {t} {x} {y} {z} ts h r = (free_unused x y ts).1 (omega (arith, uses_rot x y ts r, sides_yes x y z))

tests_once : (ts : List Triangle) → all_distinct ts ≡ true → ((x y : ℕ) → uses x y ts ≤ 1) → Once ts
tests_once [] d h = tt
tests_once (t ∷ ts) d h =
    let k = distinct_first t ts d in (
      (
        free_rest ts (h t.p t.q) (at_p refl refl refl),
        free_rest ts (h t.q t.r) (at_q refl refl refl),
        free_rest ts (h t.r t.p) (at_r refl refl refl),
      ),
      (k.x_y, k.y_z, k.z_x),
      tests_once ts (distinct_rest t ts d) (λ x y. omega (arith, h x y, uses_cons x y t ts)),
    )

pub once_tests : (ts : List Triangle) → Once ts ↔ ((all_distinct ts ≡ true) × (none_twice (edges_of ts) ≡ true))
once_tests ts = (
  λ o. (once_distinct ts o, (none_twice_lem (edges_of ts)).1 (λ x y. once_uses x y ts o)),
  λ h. tests_once ts h.0 ((none_twice_lem (edges_of ts)).0 h.1),
)
