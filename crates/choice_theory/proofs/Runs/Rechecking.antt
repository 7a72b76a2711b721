-- A list of triangles with no directed edge twice and one fan at each vertex, as a list of numbers, passes the tests 1 to 7.
-- Assumes nothing.
use Prim.Native.Nat.{ℕ, ◌*◌, ◌%◌, ◌≤◌, ◌<◌}
use native.Mathlib.Omega.{arith}
use mathlib.Core.Bool.{true}
use mathlib.Core.List.{List, [], ◌∷◌}
use mathlib.Core.Path.{◌≡◌, refl, sym, subst}
use lib.ListN.{length}
use lib.Dec.{eqb, leb}
use borrow.Author.Tests.{eq-eqb, le-leb}
use Rattle.rules.specs.declared.Triangle.{Triangle}
use Rattle.rules.specs.Checked.{Accepted}
use Rattle.rules.specs.Limits.{max_numbers, max_triangles, between, vertex_range}
use Rattle.rules.specs.Triangle.{edges_of, In}
use Rattle.rules.specs.Check.{size_fits, check}
use Rattle.mesh_theory.specs.Fans.Corner.{Once}
use Rattle.rules.specs.Fan.{Neighbours}
use Rattle.mesh_theory.specs.Fans.Passing.{Mesh}
use Rattle.mesh_theory.proofs.Fans.Once.{once_tests}
use Rattle.mesh_theory.proofs.Fans.Tests.{all_distinct_lem, none_twice_lem}
use Rattle.mesh_theory.proofs.Fans.Neighbours.{one_fan_neighbours}
use Rattle.mesh_theory.proofs.Fans.Accepted.{accepted_mesh}
use Rattle.choice_theory.proofs.Places.Numbering.{Met}
use Rattle.choice_theory.proofs.Runs.Repacking.{numbers_in, triangles_in}
use Rattle.counting.proofs.Bools.{and_both}

pub length_numbers : (ts : List Triangle) → length (numbers_in ts) ≡ 3 * length ts
length_numbers [] = refl
length_numbers (t ∷ ts) = let h = length_numbers ts in omega arith

thirds : (n k : ℕ) → n ≡ 3 * k → n % 3 ≡ 0
thirds n k h = omega arith

-- 1
pub size_holds : (ts : List Triangle) → 1 ≤ length ts → length ts ≤ max_triangles → size_fits (numbers_in ts) ≡ true
size_holds ts a b =
    let n = length_numbers ts in
    and_both (between 1 (length (numbers_in ts)) max_numbers) (eqb (length (numbers_in ts) % 3) 0)
    (and_both (leb 1 (length (numbers_in ts))) (leb (length (numbers_in ts)) max_numbers) (le-leb 1 (length (numbers_in ts)) (omega arith))
    (le-leb (length (numbers_in ts)) max_numbers (omega arith)))
    (eq-eqb (length (numbers_in ts) % 3) 0 (thirds (length (numbers_in ts)) (length ts) n))

-- 1 to 7
pub check_holds : (v : ℕ) (ts : List Triangle) → 1 ≤ length ts → length ts ≤ max_triangles → vertex_range v ≡ true → Once ts
    → ((c : ℕ) → Neighbours ts c)
    → ((x y z : ℕ) → In x y z ts → x < v) → ((c : ℕ) → c < v → Met c ts) → check v (numbers_in ts) ≡ Accepted
check_holds v ts a b r o fan below met =
    let d = (once_tests ts).0 o in
    let m : Mesh v ts =
    record {
      below = below;
      different = (all_distinct_lem ts).0 d.0;
      once = (none_twice_lem (edges_of ts)).0 d.1;
      used = met;
      fan = λ c l. (one_fan_neighbours ts d.0 d.1 c).1 (fan c);
    } in
    (accepted_mesh v (numbers_in ts)).1 (size_holds ts a b, r, subst (Mesh v) (sym (triangles_in ts)) m)
