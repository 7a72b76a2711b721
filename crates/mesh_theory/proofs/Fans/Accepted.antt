-- The lists that `check` accepts are those that the rules describe.
-- Assumes nothing.
use Prim.Native.Nat.{ℕ, zero, suc, ◌%◌, ◌≤◌}
use native.Mathlib.Omega.{arith}
use mathlib.Core.Bool.{true}
use mathlib.Core.List.{List, [], ◌∷◌}
use mathlib.Core.Logic.{◌↔◌}
use mathlib.Core.Path.{◌≡◌, refl, sym}
use lib.ListN.{length}
use lib.Dec.{eqb}
use borrow.Author.Tests.{eqb-true}
use Rattle.rules.specs.declared.Triangle.{Triangle}
use Rattle.rules.specs.Checked.{Accepted}
use Rattle.rules.specs.Limits.{max_numbers, between, vertex_range}
use Rattle.rules.specs.Triangle.{triangles_of, corners, edges_of, at_p, at_q, at_r, In, here, there}
use Rattle.rules.specs.Count.{same, occurs}
use Rattle.rules.specs.Check.{size_fits, check}
use Rattle.mesh_theory.specs.Fans.Passing.{Passes, Mesh}
use Rattle.mesh_theory.proofs.Fans.Tests.{all_below_lem, all_distinct_lem, none_twice_lem, all_used_lem}
use Rattle.mesh_theory.proofs.Fans.OneFan.{one_fan_each_lem}
use Rattle.mesh_theory.proofs.Fans.Checks.{check_accepted}
use Rattle.counting.proofs.Bools.{and_right}
use Rattle.counting.proofs.Counts.{same_yes, same_is}

-- a number that occurs is a corner of a triangle
pub in_occurs : {x y z : ℕ} {ts : List Triangle} → In x y z ts → 1 ≤ occurs x (corners ts)
unfolding corners occurs
in_occurs {x} (here (at_p a b c)) = rw a (omega (arith, same_yes x))
in_occurs {x} (here (at_q a b c)) = rw a (omega (arith, same_yes x))
in_occurs {x} (here (at_r a b c)) = rw a (omega (arith, same_yes x))
in_occurs (there i) = omega (arith, in_occurs i)

pub occurs_in : (x : ℕ) (ts : List Triangle) → 1 ≤ occurs x (corners ts) → (y : ℕ) × (z : ℕ) × In x y z ts
unfolding corners occurs
occurs_in x [] h = absurd (omega arith)
occurs_in x (t ∷ ts) h = go (same x t.p) refl (same x t.q) refl (same x t.r) refl (occurs_in x ts)
  where
    go : (a : ℕ) → same x t.p ≡ a → (b : ℕ) → same x t.q ≡ b → (c : ℕ) → same x t.r ≡ c
        → (1 ≤ occurs x (corners ts) → (y : ℕ) × (z : ℕ) × In x y z ts) → (y : ℕ) × (z : ℕ) × In x y z (t ∷ ts)
    go (suc a) e b f c g k = (t.q, t.r, here (at_p (sym (same_is x t.p (omega arith))) refl refl))
    go zero e (suc b) f c g k = (t.r, t.p, here (at_q (sym (same_is x t.q (omega arith))) refl refl))
    go zero e zero f (suc c) g k = (t.p, t.q, here (at_r (sym (same_is x t.r (omega arith))) refl refl))
    go zero e zero f zero g k = let i = k (omega arith) in (i.0, i.1, there i.2)

-- the numbers of a list are the corners of its triangles
pub numbers_corners : (x : ℕ) (xs : List ℕ) → length xs % 3 ≡ 0 → occurs x (corners (triangles_of xs)) ≡ occurs x xs
unfolding triangles_of corners occurs
numbers_corners x [] h = refl
numbers_corners x (a ∷ []) h = absurd (omega arith)
numbers_corners x (a ∷ (b ∷ [])) h = absurd (omega arith)
numbers_corners x (a ∷ (b ∷ (c ∷ xs))) h = omega (arith, numbers_corners x xs (omega arith))

pub size_threes : (xs : List ℕ) → size_fits xs ≡ true → length xs % 3 ≡ 0
size_threes xs h = eqb-true (length xs % 3) 0 (and_right (between 1 (length xs) max_numbers) (eqb (length xs % 3) 0) h)

-- accepted exactly if the two counts are in range and the triangles are a mesh
pub accepted_mesh : (v : ℕ) (xs : List ℕ)
    → (check v xs ≡ Accepted) ↔ ((size_fits xs ≡ true) × (vertex_range v ≡ true) × Mesh v (triangles_of xs))
accepted_mesh v xs = (λ h. mesh ((check_accepted v xs).0 h), λ m. (check_accepted v xs).1 (passed m.0 m.1 m.2))
  where
    mesh : Passes v xs → (size_fits xs ≡ true) × (vertex_range v ≡ true) × Mesh v (triangles_of xs)
    mesh p =
        let ts = triangles_of xs in (
          p.size,
          p.range,
          record {
            below =
                λ x y z i.
                (all_below_lem v xs).0 p.below x (omega (arith, in_occurs i, numbers_corners x xs (size_threes xs p.size)));
            different = (all_distinct_lem ts).0 p.distinct;
            once = (none_twice_lem (edges_of ts)).0 p.once;
            used = λ x l. occurs_in x ts ((all_used_lem v (corners ts)).0 p.used x l);
            fan = (one_fan_each_lem ts p.distinct p.once v).0 p.fans;
          },
        )

    passed : size_fits xs ≡ true → vertex_range v ≡ true → Mesh v (triangles_of xs) → Passes v xs
    passed s r m =
        let ts = triangles_of xs in
        let distinct = (all_distinct_lem ts).1 m.different in
        let once = (none_twice_lem (edges_of ts)).1 m.once in
        record {
          size = s;
          range = r;
          below =
              (all_below_lem v xs).1
              (λ x h.
              let i = occurs_in x ts (omega (arith, numbers_corners x xs (size_threes xs s))) in
              m.below x i.0 i.1 i.2);
          distinct = distinct;
          once = once;
          used = (all_used_lem v (corners ts)).1 (λ x l. in_occurs (m.used x l).2);
          fans = (one_fan_each_lem ts distinct once v).1 m.fan;
        }
