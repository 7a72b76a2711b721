-- A list that is accepted by the tests 1 to 7 has no directed edge twice and one fan at each vertex, so the packer packs it.
-- Assumes nothing.
use Prim.Native.Nat.{ℕ, ◌<◌}
use mathlib.Core.List.{List, []}
use mathlib.Core.Path.{◌≡◌}
use Rattle.rules.specs.declared.Triangle.{Triangle}
use Rattle.rules.specs.Checked.{Accepted}
use Rattle.rules.specs.Triangle.{triangles_of, In}
use Rattle.rules.specs.Check.{check}
use Rattle.rules.specs.Pack.{Most, nothing_built, chosen_for}
use Rattle.mesh_theory.specs.Fans.Corner.{Once}
use Rattle.rules.specs.Fan.{Neighbours}
use Rattle.mesh_theory.proofs.Fans.Checks.{check_accepted}
use Rattle.mesh_theory.proofs.Fans.Once.{once_tests}
use Rattle.mesh_theory.proofs.Fans.Accepted.{accepted_mesh}
use Rattle.choice_theory.proofs.Turning.Fans.{fans_of}
use Rattle.choice_theory.proofs.Places.Numbering.{Met}
use Rattle.choice_theory.proofs.Runs.Whole.{Ends, packs_whole}

pub record Packable (v : ℕ) (ts : List Triangle) : Type 0 where
  pub once : Once ts
  pub fans : (c : ℕ) → Neighbours ts c
  pub below : (x y z : ℕ) → In x y z ts → x < v
  pub met : (c : ℕ) → c < v → Met c ts

-- 1 to 7
pub accepted_packable : (v : ℕ) (xs : List ℕ) → check v xs ≡ Accepted → Packable v (triangles_of xs)
accepted_packable v xs h =
    let p = (check_accepted v xs).0 h in
    let m = ((accepted_mesh v xs).0 h).2 in
    let o = (once_tests (triangles_of xs)).1 (p.distinct, p.once) in
    record { once = o; fans = fans_of v (triangles_of xs) o p.fans m.below; below = m.below; met = m.used }

-- the packing of an accepted list is stopped by 9 or 10, or it is complete
pub accepted_packs : (h : Most) (v : ℕ) (xs : List ℕ) → check v xs ≡ Accepted
    → Ends (nothing_built h (triangles_of xs)) [] [] [] (chosen_for h (triangles_of xs))
accepted_packs h v xs a = let s = accepted_packable v xs a in packs_whole h (triangles_of xs) s.once s.fans
